-- The whole machine after a core was returned.
use Rattle.std.specs.Prelude.{slice_get}
use Rattle.std.proofs.Common.{◌≡◌, ℕ, ◌+◌, Bool, true, false, List, Option, Some, None, length, refl, sym, ap, ◌∙◌, subst}
use Rattle.esa_model.specs.Machine.{Machine as Model_machine, at}
use Rattle.run_model.specs.declared.faults.CoreNo.{CoreNo}
use Rattle.run_model.specs.declared.faults.Strike.{Strike}
use Rattle.run_model.specs.declared.logs.Config.{Config}
use Rattle.run_model.specs.declared.logs.Entry.{Entry}
use Rattle.run_model.specs.declared.logs.What.TheVariants.{Returned}
use Rattle.run_model.specs.declared.schedules.RunKind.TheVariants.{Return}
use Rattle.run_model.specs.Cores.{Cores, counted, entry, is_fenced, return_by}
use Rattle.run_model.specs.Fate.{bits, fate_of, nothing_met, sight}
use Rattle.run_model.specs.Runs.{Model, events_of, outline_of, tells, tells_by, turned}
use Rattle.esa_model.specs.Run.{run}
use Rattle.run_laws.specs.Bounds.{BoundedCpus}
use Rattle.run_laws.proofs.BoundedTurns.{bounded_kept}
use Rattle.sparing.specs.Pools.{stands}
use Rattle.silicon.specs.Chip.{Chip}
use Rattle.core_turns.specs.Held.{HeldBy, SparesAre, fenced_number}
use Rattle.core_turns.specs.Places.{EachInOnePlace}
use Rattle.core_turns.specs.Standing.{StandsAt}
use Rattle.core_turns.specs.declared.held.Held.{Held}
use Rattle.core_turns.specs.declared.held.Held.TheVariants.{Running, Recovering, Lost, Taken}
use Rattle.g5_machine.specs.Counts.{Counted, turn_more}
use Rattle.g5_machine.specs.Standing.{StandsByMode, StandsFor}
use Rattle.g5_machine.specs.Turning.{Follows, Obeys, return_told}
use Rattle.g5_machine.specs.declared.machine.Machine.{Machine}
use Rattle.g5_machine.proofs.Bringing.{fenced_is}

-- the spares and the entry, where the core was fenced and where not
abbrev pub spares_then : (ℕ → Bool) → ℕ → Bool → ℕ → Bool
spares_then spare k true = at spare k true
spares_then spare k false = spare

abbrev pub entry_then : ℕ → ℕ → Bool → Option Entry
entry_then turn k true = Some (entry turn 255 k Returned)
entry_then turn k false = None

-- cores with other spares and one turn more
respared : Cores → (ℕ → Bool) → Cores
respared s spare = counted (record s { spare = spare })

recounted : Model → (ℕ → Bool) → Model
recounted x spare =
    record { machine = x.machine; fate = record x.fate { cores = respared x.fate.cores spare } }

returned_by : (x : Model) (k : ℕ) (b : Bool)
    → ◌≡◌ {A = Model} (record {
      machine = run x.machine (events_of (return_by x.fate.cores k b).outline.event);
      fate = fate_of (return_by x.fate.cores k b) (bits x.fate);
    }) (recounted x (spares_then x.fate.cores.spare k b))
unfolding recounted respared
returned_by x k true = refl
returned_by x k false = refl

returned_is : (ls : List Strike) (c : Config) (x : Model) (k : CoreNo)
    → turned ls c x (Return k)
    ≡ recounted x (spares_then x.fate.cores.spare k.0 (is_fenced c x.fate.cores k.0))
unfolding turned
returned_is ls c x k = returned_by x k.0 (is_fenced c x.fate.cores k.0)

told_by_return : (m : Model_machine) (s : Cores) (k : ℕ) (b : Bool)
    → tells_by m (return_by s k b).outline.entries (return_by s k b).outline.event
    ≡ return_told (entry_then (s.turns + 1) k b)
told_by_return m s k true = refl
told_by_return m s k false = refl

tells_return : (ls : List Strike) (c : Config) (x : Model) (k : CoreNo)
    → tells ls c x (Return k)
    ≡ return_told (entry_then (x.fate.cores.turns + 1) k.0 (is_fenced c x.fate.cores k.0))
unfolding tells
tells_return ls c x k =
    told_by_return x.machine x.fate.cores k.0 (is_fenced c x.fate.cores k.0)

-- ---- what stands

held_respared : (h : Held) (s : Cores) (spare : ℕ → Bool) (i : ℕ) → HeldBy h s i
    → HeldBy h (respared s spare) i
unfolding respared
held_respared (Running k) s spare i e = e
held_respared (Recovering k) s spare i e = e
held_respared (Lost c retries) s spare i e = e
held_respared Taken s spare i e = e

at_recounted : (h : Held) (z : Chip) (x : Model) (spare : ℕ → Bool) (i : ℕ) → StandsAt h z x i
    → StandsAt h z (recounted x spare) i
unfolding recounted respared
at_recounted h z x spare i a = record {
  held = held_respared h x.fate.cores spare i a.held;
  registers = a.registers;
  stores = λ live.
      let was = a.stores live in
      record { registers = was.registers; clocks = was.clocks; words = was.words };
}

stands_recounted : (m m2 : Machine) (z : Chip) (x : Model) (spare : ℕ → Bool) → StandsFor m z x
    → m2.cpus.items ≡ m.cpus.items → m2.memory.bytes ≡ m.memory.bytes → m2.side ≡ m.side
    → m2.counts ≡ turn_more m.counts → SparesAre m2.pool spare
    → StandsFor m2 z (recounted x spare)
unfolding recounted respared
stands_recounted m m2 z x spare st cpus bytes side counts spares = record {
  cpus = ap length cpus ∙ st.cpus;
  each = λ i h got.
      at_recounted h z x spare i
      (st.each i h (subst (λ (q : List Held). slice_get q i ≡ Some h) cpus got));
  storage = st.storage ∙ sym bytes;
  side = st.side ∙ sym side;
  begun = st.begun;
  spares = spares;
  counts = record {
    turns = ap (λ q. q + 1) st.counts.turns ∙ sym (ap (λ (n : Counted). n.turns) counts);
    commits = st.counts.commits ∙ sym (ap (λ (n : Counted). n.commits) counts);
    read = st.counts.read ∙ sym (ap (λ (n : Counted). n.read) counts);
    written = st.counts.written ∙ sym (ap (λ (n : Counted). n.written) counts);
  };
}

returned_bounds : (ls : List Strike) (c : Config) (x : Model) (k : CoreNo)
    → BoundedCpus ls c x.fate → BoundedCpus ls c (turned ls c x (Return k)).fate
unfolding turned
returned_bounds ls c x k h = bounded_kept ls c (sight x.machine) x.fate (Return k) tt h

-- ---- the machine

pub follows_return : (b : Bool) (m m2 : Machine) (k : CoreNo) (z : Chip) (x : Model)
    (e : Option Entry) → StandsFor m z x → BoundedCpus z.lines m.config x.fate
    → m.config.cpus ≡ length m.cpus.items → EachInOnePlace m.config m.cpus.items m.pool
    → stands fenced_number m.pool.fenced k.0 ≡ b → e ≡ entry_then (m.counts.turns + 1) k.0 b
    → m2.cpus.items ≡ m.cpus.items → m2.memory.bytes ≡ m.memory.bytes → m2.side ≡ m.side
    → m2.counts ≡ turn_more m.counts
    → ((spare : ℕ → Bool) → SparesAre m.pool spare → SparesAre m2.pool (spares_then spare k.0 b))
    → Follows z.lines m.config x (Return k) (return_told e) m2 z
follows_return b m m2 k z x e st bounded n each is entry cpus bytes side counts spares =
    let s = x.fate.cores in
    let fenced : is_fenced m.config s k.0 ≡ b =
    fenced_is m.config m.cpus.items m.pool s k.0 n each st.spares
    (λ i h got. (st.each i h got).held) ∙ is in
    let same = sym (ap (λ q. recounted x (spares_then s.spare k.0 q)) fenced)
    ∙ sym (returned_is z.lines m.config x k) in
    record {
      told = ap return_told entry
          ∙ ap (λ q. return_told (entry_then (q + 1) k.0 b)) (sym st.counts.turns)
          ∙ ap (λ q. return_told (entry_then (s.turns + 1) k.0 q)) (sym fenced)
          ∙ sym (tells_return z.lines m.config x k);
      stands = subst (λ y. StandsFor m2 z y) same
          (stands_recounted m m2 z x (spares_then s.spare k.0 b) st cpus bytes side counts
          (spares s.spare st.spares));
      bounded = returned_bounds z.lines m.config x k bounded;
    }

outline_return : (s : Cores) (k : ℕ) (b : Bool)
    → outline_of (return_told (entry_then (s.turns + 1) k b)) ≡ (return_by s k b).outline
outline_return s k true = refl
outline_return s k false = refl

after_return : (s : Cores) (k : ℕ) (b : Bool)
    → (return_by s k b).after ≡ respared s (spares_then s.spare k b)
unfolding respared
after_return s k true = refl
after_return s k false = refl

modes_respared : (m m2 : Machine) (s : Cores) (spare : ℕ → Bool) → StandsByMode m s
    → m2.cpus.items ≡ m.cpus.items → m2.counts ≡ turn_more m.counts → SparesAre m2.pool spare
    → StandsByMode m2 (respared s spare)
unfolding respared
modes_respared m m2 s spare st cpus counts spares = record {
  each = λ i h got.
      held_respared h s spare i
      (st.each i h (subst (λ (q : List Held). slice_get q i ≡ Some h) cpus got));
  spares = spares;
  turns = ap (λ q. q + 1) st.turns ∙ sym (ap (λ (n : Counted). n.turns) counts);
  commits = st.commits ∙ sym (ap (λ (n : Counted). n.commits) counts);
}

pub obeys_return : (b : Bool) (m m2 : Machine) (k : CoreNo) (s : Cores) (e : Option Entry)
    → StandsByMode m s → m.config.cpus ≡ length m.cpus.items
    → EachInOnePlace m.config m.cpus.items m.pool
    → stands fenced_number m.pool.fenced k.0 ≡ b → e ≡ entry_then (m.counts.turns + 1) k.0 b
    → m2.cpus.items ≡ m.cpus.items → m2.counts ≡ turn_more m.counts
    → ((spare : ℕ → Bool) → SparesAre m.pool spare → SparesAre m2.pool (spares_then spare k.0 b))
    → Obeys m.config s (Return k) (return_told e) m2
obeys_return b m m2 k s e st n each is entry cpus counts spares =
    let fenced : is_fenced m.config s k.0 ≡ b =
    fenced_is m.config m.cpus.items m.pool s k.0 n each st.spares st.each ∙ is in
    let after = sym (after_return s k.0 b)
    ∙ ap (λ q. (return_by s k.0 q).after) (sym fenced) in
    record {
      met = nothing_met;
      outline = ap (λ q. outline_of (return_told q)) entry
          ∙ ap (λ q. outline_of (return_told (entry_then (q + 1) k.0 b))) (sym st.turns)
          ∙ outline_return s k.0 b ∙ ap (λ q. (return_by s k.0 q).outline) (sym fenced);
      stands = subst (λ y. StandsByMode m2 y) after
          (modes_respared m m2 s (spares_then s.spare k.0 b) st cpus counts
          (spares s.spare st.spares));
    }
