-- The whole machine after the turn of a CPU, whatever is struck.
use Rattle.std.specs.Prelude.{min, slice_get, slice_set}
use Rattle.std.proofs.Common.{◌≡◌, ◌≢◌, ℕ, zero, suc, ◌+◌, ◌-◌, ◌<◌, Bool, true, false, List, [], ◌∷◌, Option, Some, length, refl, sym, ap, ◌∙◌, subst, inl, inr}
use Rattle.std.specs.Prelude.{◌&&◌}
use Rattle.std.proofs.lemmas.Bool.{cases_eq}
use Rattle.esa_model.specs.Line.{Side}
use Rattle.esa_model.specs.Machine.{is_idle}
use Rattle.esa_model.specs.declared.machine.CpuNo.{CpuNo}
use Rattle.esa_model.specs.declared.machine.Event.{Event}
use Rattle.run_model.specs.declared.faults.Strike.{Strike}
use Rattle.run_model.specs.declared.logs.Config.{Config}
use Rattle.run_model.specs.declared.logs.Entry.{Entry}
use Rattle.run_model.specs.declared.schedules.RunKind.TheVariants.{Turns}
use Rattle.run_model.specs.Counts.{commits_by}
use Rattle.run_model.specs.Cores.{Cores, Did, Outline, counted, does, stamped}
use Rattle.run_model.specs.Fate.{Sound, sight}
use Rattle.run_model.specs.Runs.{Model, outline_of, turned}
use Rattle.run_model.specs.Script.{InForm}
use Rattle.run_laws.specs.Bounds.{BoundedCpus, Others}
use Rattle.run_laws.proofs.BoundedTurns.{bounded_kept}
use Rattle.run_laws.proofs.Others.{others_stay}
use Rattle.run_laws.proofs.Sound.{sound_before}
use Rattle.silicon.specs.Chip.{Chip}
use Rattle.checkpoint_laws.proofs.Few.{few_bounded}
use Rattle.core_turns.specs.Following.{Followed, IsBefore}
use Rattle.core_turns.specs.Giving.{told_of}
use Rattle.core_turns.specs.Held.{CorePool, HeldBy, IsThere, core_of}
use Rattle.core_turns.specs.Meeting.{IsRow, TurnGoes, WaitsAs, event_of, met_on_chip, why_met}
use Rattle.core_turns.specs.Places.{EachInOnePlace}
use Rattle.core_turns.specs.declared.held.Held.{Held}
use Rattle.core_turns.specs.declared.held.Held.TheVariants.{Running, Recovering, Lost, Taken}
use Rattle.core_turns.specs.Made.{Made}
use Rattle.result_packet.specs.declared.written.Written.{Written}
use Rattle.core_turns.specs.declared.outcomes.Outcome.{Outcome}
use Rattle.core_turns.specs.declared.outcomes.Outcome.TheVariants as outcome
use Rattle.core_turns.proofs.Following.{held_counted}
use Rattle.core_turns.proofs.Sums.{get_other, get_same}
use Rattle.twin_units.specs.Units.{due_beside}
use Rattle.g5_machine.specs.Counts.{Counted, counted_by}
use Rattle.g5_machine.specs.Fits.{all_there, is_there}
use Rattle.g5_machine.specs.Standing.{StandsByMode, StandsFor}
use Rattle.g5_machine.specs.Turning.{Follows, Obeys, told_by}
use Rattle.g5_machine.specs.declared.machine.Machine.{Machine}
use Rattle.g5_machine.specs.declared.turns.Turn.{Turn}
use Rattle.g5_machine.proofs.After.{counts_after, does_counts, stands_after}

-- ---- no CPU is in the midst of a turn

both_l : (a b : Bool) → (a && b) ≡ true → a ≡ true
both_l true b e = refl
both_l false b e = e

both_r : (a b : Bool) → (a && b) ≡ true → b ≡ true
both_r true b e = e
both_r false b e = absurd (cc e)

there_of : (h : Held) → is_there h ≡ true → IsThere h
there_of (Running k) e = tt
there_of (Recovering k) e = tt
there_of (Lost c retries) e = tt
there_of Taken e = absurd (cc e)

of_there : (h : Held) → IsThere h → is_there h ≡ true
of_there (Running k) e = refl
of_there (Recovering k) e = refl
of_there (Lost c retries) e = refl
of_there Taken e = absurd e

pub there_at : (hs : List Held) (i : ℕ) (h : Held) → all_there hs ≡ true
    → slice_get hs i ≡ Some h → IsThere h
there_at [] i h all got = absurd (cc got)
there_at (g ∷ hs) zero h all got =
    let is : g ≡ h = cc got in
    there_of h (subst (λ (q : Held). is_there q ≡ true) is (both_l (is_there g) (all_there hs) all))
there_at (g ∷ hs) (suc i) h all got =
    there_at hs i h (both_r (is_there g) (all_there hs) all) got

pub there_set : (hs : List Held) (i : ℕ) (h : Held) → all_there hs ≡ true → IsThere h
    → all_there (slice_set hs i h) ≡ true
there_set [] i h all there = refl
there_set (g ∷ hs) zero h all there =
    rw (of_there h there) (both_r (is_there g) (all_there hs) all)
there_set (g ∷ hs) (suc i) h all there =
    rw (both_l (is_there g) (all_there hs) all)
    (there_set hs i h (both_r (is_there g) (all_there hs) all) there)

-- ---- whatever is struck

held_other : (g : Held) (s : Cores) (i j : ℕ) (d : Did) → Others s i d → j ≢ i → HeldBy g s j
    → HeldBy g (counted d.after) j
held_other (Running k) s i j d o ne h =
    (o.mode j ne ∙ h.0, o.core j ne ∙ h.1, o.retries j ne ∙ h.2)
held_other (Recovering k) s i j d o ne h =
    (o.mode j ne ∙ h.0, o.core j ne ∙ h.1, o.retries j ne ∙ h.2)
held_other (Lost c retries) s i j d o ne h =
    (o.mode j ne ∙ h.0, o.core j ne ∙ h.1, o.retries j ne ∙ h.2)
held_other Taken s i j d o ne h = h

pub core_is : (h : Held) (s : Cores) (i : ℕ) → HeldBy h s i → s.core i ≡ core_of h
core_is (Running k) s i e = e.1
core_is (Recovering k) s i e = e.1
core_is (Lost c retries) s i e = e.1
core_is Taken s i e = absurd e

-- whether the CPU waits, where that is asked
pub waits_for : Held → ℕ → Side → Bool
waits_for (Running k) i seen = is_idle (due_beside k.registers i seen)
waits_for (Recovering k) i seen = true
waits_for (Lost c retries) i seen = true
waits_for Taken i seen = true

pub waits_right : (h : Held) (i : ℕ) (seen : Side) → WaitsAs h i seen (waits_for h i seen)
unfolding waits_for
waits_right (Running k) i seen = refl
waits_right (Recovering k) i seen = tt
waits_right (Lost c retries) i seen = tt
waits_right Taken i seen = tt

turns_by : (o : Outcome) (read written : ℕ) (n : Counted)
    → (counted_by o read written n).turns ≡ n.turns + 1
turns_by outcome.Committed read written n = refl
turns_by outcome.Idle read written n = refl
turns_by (outcome.Failed why) read written n = refl
turns_by (outcome.Retried r) read written n = refl
turns_by (outcome.Spared k) read written n = refl
turns_by outcome.Stopped read written n = refl

commits_are : (o : Outcome) (i read written : ℕ) (n : Counted)
    → (counted_by o read written n).commits ≡ commits_by (event_of i o) n.commits
commits_are outcome.Committed i read written n = refl
commits_are outcome.Idle i read written n = refl
commits_are (outcome.Failed why) i read written n = refl
commits_are (outcome.Retried r) i read written n = refl
commits_are (outcome.Spared k) i read written n = refl
commits_are outcome.Stopped i read written n = refl

same_outline : (es es2 : List Entry) (e e2 : Option Event) → es ≡ es2 → e ≡ e2
    → ◌≡◌ {A = Outline} (record { entries = es; event = e }) (record { entries = es2; event = e2 })
same_outline es es2 e e2 p q = λ i. record { entries = p i; event = q i }

pub obeys_of : (m m2 : Machine) (cpu : CpuNo) (z : Chip) (es : List Entry) (t : Made)
    (turn : Turn) (w : Written) (h : Held) (n read written : ℕ) (s : Cores) → StandsByMode m s
    → slice_get m.cpus.items cpu.0 ≡ Some h → n ≡ m.counts.turns + 1
    → m2.cpus.items ≡ slice_set m.cpus.items cpu.0 t.held
    → m2.counts ≡ counted_by t.outcome read written m.counts
    → told_by cpu.0 turn es w ≡ told_of cpu.0 es t
    → TurnGoes m.config.threshold n cpu.0 h m.side m.pool z es t.outcome t.held m2.pool
    → Obeys m.config s (Turns cpu) (told_by cpu.0 turn es w) m2
obeys_of m m2 cpu z es t turn out h n read written s st got number put counts told goes =
    let i = cpu.0 in
    let w = waits_for h i m.side in
    let x = met_on_chip z w (s.core i) (why_met z h t.outcome) in
    let d = does m.config.threshold s i x in
    let row : IsRow n i (s.core i) d es t.outcome t.held m2.pool =
    (goes s w (st.each i h got) (waits_right h i m.side) st.spares).row in
    let o : Others s i d = others_stay m.config.threshold s i x in
    let k = does_counts m.config.threshold s i x in
    record {
      met = x;
      outline = ap outline_of told
          ∙ same_outline es (stamped (s.turns + 1) i (s.core i) d.whats) (event_of i t.outcome)
          d.event
          (row.entries ∙ ap (λ q. stamped q i (s.core i) d.whats)
          (number ∙ ap (λ q. q + 1) (sym st.turns))) row.event;
      stands = record {
        each = λ j g there.
            let there2 : slice_get (slice_set m.cpus.items i t.held) j ≡ Some g =
            subst (λ q. slice_get q j ≡ Some g) put there in
            elim (cases_eq j i) [
              | inl same ↦
                  let is : g ≡ t.held = get_same m.cpus.items i g t.held
                  (subst (λ q. slice_get (slice_set m.cpus.items i t.held) q ≡ Some g) same there2) in
                  subst (λ q. HeldBy g (counted d.after) q) (sym same)
                  (subst (λ (q : Held). HeldBy q (counted d.after) i) (sym is)
                  (held_counted t.held d.after i row.held))
              | inr ne ↦
                  held_other g s i j d o ne
                  (st.each j g (sym (get_other m.cpus.items i j t.held ne) ∙ there2))
            ];
        spares = row.spares;
        turns = ap (λ q. q + 1) (k.turns ∙ st.turns)
            ∙ sym (ap (λ (c : Counted). c.turns) counts ∙ turns_by t.outcome read written m.counts);
        commits = k.commits ∙ ap (λ q. commits_by q s.commits) (sym row.event)
            ∙ ap (commits_by (event_of i t.outcome)) st.commits
            ∙ sym (ap (λ (c : Counted). c.commits) counts
            ∙ commits_are t.outcome i read written m.counts);
      };
    }

-- ---- within the premise

pub before_turn : (m : Machine) (cpu : CpuNo) (z : Chip) (x : Model) (h : Held) (n : ℕ)
    → StandsFor m z x → BoundedCpus z.lines m.config x.fate → InForm z.lines
    → cpu.0 < m.config.cpus → m.config.cpus ≡ length m.cpus.items
    → slice_get m.cpus.items cpu.0 ≡ Some h → all_there m.cpus.items ≡ true
    → n ≡ m.counts.turns + 1 → Sound z.lines (turned z.lines m.config x (Turns cpu)).fate
    → IsBefore m.config n cpu h z m.memory.bytes m.side m.pool x
before_turn m cpu z x h n st bounded form known cpus got all number sound =
    let early : Sound z.lines x.fate = sound_before z.lines m.config x (Turns cpu) sound in
    record {
      there = there_at m.cpus.items cpu.0 h all got;
      at = st.each cpu.0 h got;
      seen_by = record {
        storage = st.storage;
        side = st.side;
        there = subst (λ q. cpu.0 < q) (cpus ∙ st.cpus) known;
      };
      spares = st.spares;
      begun = st.begun;
      form = form;
      few = λ live. few_bounded z.lines (x.fate.cores.core cpu.0)
          (x.fate.begun (x.fate.cores.core cpu.0)) (x.fate.wrong (x.fate.cores.core cpu.0))
          (bounded cpu.0 known live) (λ k lt. early (x.fate.cores.core cpu.0) k lt);
      turns = ap (λ q. q + 1) st.counts.turns ∙ sym number;
      sound = sound;
    }

bounds_then : (ls : List Strike) (c : Config) (x : Model) (cpu : CpuNo) → cpu.0 < c.cpus
    → BoundedCpus ls c x.fate → BoundedCpus ls c (turned ls c x (Turns cpu)).fate
unfolding turned
bounds_then ls c x cpu known h = bounded_kept ls c (sight x.machine) x.fate (Turns cpu) known h

pub follows_of : (m m2 : Machine) (cpu : CpuNo) (z z2 : Chip) (es : List Entry) (t : Made)
    (turn : Turn) (w : Written) (x : Model) (h : Held) → StandsFor m z x → BoundedCpus z.lines m.config x.fate
    → cpu.0 < m.config.cpus → slice_get m.cpus.items cpu.0 ≡ Some h
    → EachInOnePlace m.config m.cpus.items m.pool
    → m2.cpus.items ≡ slice_set m.cpus.items cpu.0 t.held
    → m2.counts ≡ counted_by t.outcome (min (length m.side.console - length m2.side.console) 256)
    (length t.written.console.items) m.counts
    → told_by cpu.0 turn es w ≡ told_of cpu.0 es t
    → Followed m.config cpu z z2 m2.memory.bytes m2.side m2.pool es t x
    (turned z.lines m.config x (Turns cpu))
    → Follows z.lines m.config x (Turns cpu) (told_by cpu.0 turn es w) m2 z2
follows_of m m2 cpu z z2 es t turn w x h st bounded known got placed put counts told f = record {
  told = told ∙ f.told;
  stands = stands_after m m2 cpu z z2 es t x h st got placed put
      (counts_after m m2 cpu z z2 es t x st counts f) f;
  bounded = bounds_then z.lines m.config x cpu known bounded;
}

-- ---- what the turn does to what is held

some_is : (g h : Held) → ◌≡◌ {A = Option Held} (Some g) (Some h) → g ≡ h
some_is g h e = cc e

-- what holds of a turn's held core before it and of what it leaves
pub held_then : (P : Held → Held → Type 0) (cpus items : List Held) (i : ℕ) (was t h after : Held)
    → slice_get cpus i ≡ Some was → items ≡ slice_set cpus i t → P was t
    → slice_get cpus i ≡ Some h → slice_get items i ≡ Some after → P h after
held_then P cpus items i was t h after got put holds there now =
    let same : was ≡ h = some_is was h (sym got ∙ there) in
    let left : after ≡ t = get_same cpus i after t
    (subst (λ q. slice_get q i ≡ Some after) put now) in
    subst (λ (q : Held). P h q) (sym left) (subst (λ (q : Held). P q t) same holds)

pub held_before : (P : Held → Type 0) (cpus : List Held) (i : ℕ) (was h : Held)
    → slice_get cpus i ≡ Some was → P was → slice_get cpus i ≡ Some h → P h
held_before P cpus i was h got holds there =
    subst (λ (q : Held). P q) (some_is was h (sym got ∙ there)) holds

pub goes_of : (m : Machine) (items : List Held) (cpu : CpuNo) (z : Chip) (es : List Entry)
    (o : Outcome) (n : ℕ) (was t h after : Held) (pool : CorePool)
    → slice_get m.cpus.items cpu.0 ≡ Some was → n ≡ m.counts.turns + 1
    → items ≡ slice_set m.cpus.items cpu.0 t
    → TurnGoes m.config.threshold n cpu.0 was m.side m.pool z es o t pool
    → slice_get m.cpus.items cpu.0 ≡ Some h → slice_get items cpu.0 ≡ Some after
    → TurnGoes m.config.threshold (m.counts.turns + 1) cpu.0 h m.side m.pool z es o after pool
goes_of m items cpu z es o n was t h after pool got number put goes there now =
    let same : was ≡ h = some_is was h (sym got ∙ there) in
    let left : after ≡ t = get_same m.cpus.items cpu.0 after t
    (subst (λ q. slice_get q cpu.0 ≡ Some after) put now) in
    subst (λ q. TurnGoes m.config.threshold (m.counts.turns + 1) cpu.0 h m.side m.pool z es o q pool)
    (sym left)
    (subst (λ q. TurnGoes m.config.threshold (m.counts.turns + 1) cpu.0 q m.side m.pool z es o t pool)
    same (subst (λ q. TurnGoes m.config.threshold q cpu.0 was m.side m.pool z es o t pool) number goes))
