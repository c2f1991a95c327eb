-- What the machine says of its turns gives what is asked of what makes turns.
use Rattle.std.proofs.Common.{◌≡◌, ℕ, ◌+◌, ◌<◌, ◌≤◌, Bool, true, false, List, [], Option, Some, length, refl, sym, ap, ◌∙◌, subst, arith}
use Rattle.std.specs.Prelude.{slice_get, get_or, nat_lt, nat_le, ◌||◌, ◌&&◌}
use Rattle.std.proofs.lemmas.Bool.{lt-ltb, ltb-true}
use Rattle.std.proofs.lemmas.Option.{slice_get-get_or}
use Rattle.std.proofs.lemmas.List.Elements.{All-nil}
use Rattle.esa_model.specs.declared.machine.CpuNo.{CpuNo}
use Rattle.run_model.specs.declared.faults.Strike.{Strike}
use Rattle.run_model.specs.declared.faults.CoreNo.{CoreNo}
use Rattle.run_model.specs.declared.logs.Config.{Config}
use Rattle.run_model.specs.declared.logs.Entry.{Entry}
use Rattle.run_model.specs.declared.schedules.RunKind.{RunKind}
use Rattle.run_model.specs.declared.schedules.RunKind.TheVariants.{Turns, Key, Return}
use Rattle.run_model.specs.Cores.{Cores, Met, Outline, belongs, does, is_fenced, make}
use Rattle.run_model.specs.Places.{Apart}
use Rattle.run_model.specs.Runs.{Model, Told, turned}
use Rattle.result_packet.specs.declared.written.Written.{Written}
use Rattle.run_laws.specs.Bounds.{BoundedCpus}
use Rattle.run_laws.proofs.Standing.{apart_make}
use Rattle.silicon.specs.Chip.{Chip}
use Rattle.silicon.specs.Tape.{Tape, tells}
use Rattle.core_turns.specs.ChipAfter.{Rises}
use Rattle.core_turns.specs.Handing.{calls_of, hands}
use Rattle.core_turns.specs.Held.{core_of}
use Rattle.core_turns.specs.Meeting.{TurnGoes, met_on_chip, next_cause, why_met}
use Rattle.core_turns.specs.declared.held.Held.{Held}
use Rattle.core_turns.specs.declared.held.Held.TheVariants.{Taken}
use Rattle.core_turns.specs.declared.outcomes.Outcome.{Outcome}
use Rattle.core_turns.specs.declared.outcomes.Outcome.TheVariants.{Committed, Failed, Idle, Retried, Spared, Stopped}
use Rattle.run_model.specs.declared.faults.Cause.TheVariants as causes
use Rattle.g5_machine.specs.Standing.{StandsByMode}
use Rattle.g5_machine.specs.Turning.{FollowsAll, HandsAll, core_at, core_there, entry_if, return_told, told_by}
use Rattle.g5_machine.specs.Turning.{Obeys as MachineObeys}
use Rattle.g5_machine.specs.declared.machine.Machine.{Machine}
use Rattle.g5_machine.specs.declared.turns.Turn.{Turn}
use Rattle.g5_machine.proofs.Obeying.{core_is, waits_for, waits_right}
use Rattle.twin_units.specs.UnitsSeen.{plain}
use Rattle.run_loop.specs.Engines.{FailsAsStruck, Follows, IsStruck, SoundTurn}
use Rattle.machine_runs.specs.Views.{Gives, IsReady, Stands, view_of}
use Rattle.machine_runs.specs.declared.twin_machine.TwinMachine.{TwinMachine}
use Rattle.machine_runs.proofs.Failing.{does_met, returned_struck, stamped_struck}

-- ---- the numbers of cores

own_small : (a b d : Bool) → (a ≡ true → d ≡ true) → (b ≡ true → d ≡ true) → (a || b) ≡ true
    → d ≡ true
own_small true b d f g h = f refl
own_small false b d f g h = g h

both_right : (a b : Bool) → (a && b) ≡ true → b ≡ true
both_right true b h = h
both_right false b h = absurd (cc h)

below_16 : (k n : ℕ) → n ≤ 16 → nat_lt k n ≡ true → nat_lt k 16 ≡ true
below_16 k n le h =
    let lt = ltb-true k n h in
    lt-ltb k 16 (omega (arith, lt, le))

own_core : (c : Config) (k : ℕ) → c.cpus ≤ 8 → c.spares ≤ 8 → belongs c k ≡ true → k < 16
own_core c k few spares h =
    ltb-true k 16 (own_small (nat_lt k c.cpus) (nat_le 8 k && nat_lt k (8 + c.spares)) (nat_lt k 16)
    (below_16 k c.cpus (omega (arith, few)))
    (λ e. below_16 k (8 + c.spares) (omega (arith, spares))
    (both_right (nat_le 8 k) (nat_lt k (8 + c.spares)) e)) h)

-- ---- what is held for a CPU that is there

at_cpu : (hs : List Held) (i : ℕ) → i < length hs
    → slice_get hs i ≡ Some (get_or hs i Taken)
at_cpu hs i lt = slice_get-get_or hs i Taken lt

pub core_small : (e : TwinMachine) (z : Chip) (i : ℕ) → IsReady e z → i < e.machine.config.cpus
    → core_at e.machine.cpus.items i < 16
core_small e z i ready lt =
    let m = e.machine in
    let inside : i < length m.cpus.items = subst (λ (n : ℕ). i < n) m.fits.cpus lt in
    let got = at_cpu m.cpus.items i inside in
    let h : Held = get_or m.cpus.items i Taken in
    let same : ready.cores.core i ≡ core_of h = core_is h ready.cores i (ready.by_mode.each i h got) in
    let small : ready.cores.core i < 16 =
    own_core m.config (ready.cores.core i) m.fits.most m.fits.spares (ready.apart.own i lt) in
    subst (λ (n : ℕ). n < 16) (same ∙ sym (ap core_there got)) small

-- the attempts begun on its core
pub begun_small : (e : TwinMachine) (z : Chip) (i : ℕ) (most : ℕ) → IsReady e z
    → i < e.machine.config.cpus → e.machine.counts.turns + 1000000 < most
    → z.begun (core_at e.machine.cpus.items i) < most
begun_small e z i most ready lt room =
    let small = core_small e z i ready lt in
    let few = ready.begun (core_at e.machine.cpus.items i) small in
    omega (arith, few, room)

-- ---- in order again after a turn

calls_few : (o : Outcome) → calls_of o ≤ 1
calls_few Committed = omega arith
calls_few Idle = omega arith
calls_few (Failed causes.Fetch) = omega arith
calls_few (Failed causes.Mismatch) = omega arith
calls_few (Failed causes.Store) = omega arith
calls_few (Retried r) = omega arith
calls_few (Spared k) = omega arith
calls_few Stopped = omega arith

stays_apart : (c c2 : Config) (s : Cores) (k : RunKind) (x : Met) → c2 ≡ c → Apart c s
    → Apart c2 (make c s k x).after
stays_apart c c2 s k x e a =
    subst (λ q. Apart q (make c s k x).after) (sym e) (apart_make c s k x a)

ready_then : (e e2 : TwinMachine) (z z2 : Chip) (k : RunKind) (t : Told) → (ready : IsReady e z)
    → ((c : ℕ) → z2.begun c ≤ z.begun c + 1)
    → (plain e2.a).calls ≤ (plain e.a).calls + 1 → (plain e2.b).calls ≤ (plain e.b).calls + 1
    → e2.machine.counts.turns ≡ e.machine.counts.turns + 1
    → e2.machine.config ≡ e.machine.config
    → MachineObeys e.machine.config ready.cores k t e2.machine
    → IsReady e2 z2
ready_then e e2 z z2 k t ready begun a b turns config o = record {
  begun = λ c lt. let was = ready.begun c lt in let more = begun c in
      omega (arith, was, more, turns);
  calls_a = omega (arith, ready.calls_a, a, turns);
  calls_b = omega (arith, ready.calls_b, b, turns);
  cores = (make e.machine.config ready.cores k o.met).after;
  by_mode = o.stands;
  apart = stays_apart e.machine.config e2.machine.config ready.cores k o.met config ready.apart;
}

-- ---- a turn of any kind, whatever silicon and machine made of it

-- what the machine says of a turn of any kind
pub record Says (kind : RunKind) (e e2 : TwinMachine) (z z2 : Chip) (v v2 : Tape) (t : Told) :
    Type 0 where
  pub lines : z2.lines ≡ z.lines
  pub begun : (c : ℕ) → z2.begun c ≤ z.begun c + 1
  pub calls_a : (plain e2.a).calls ≤ (plain e.a).calls + 1
  pub calls_b : (plain e2.b).calls ≤ (plain e.b).calls + 1
  pub turns : e2.machine.counts.turns ≡ e.machine.counts.turns + 1
  pub config : e2.machine.config ≡ e.machine.config
  pub obeys : (s : Cores) → StandsByMode e.machine s
      → MachineObeys e.machine.config s kind t e2.machine
  pub follows : FollowsAll z.lines e.machine.config e.machine z kind t e2.machine z2
  pub hands : HandsAll z.lines e.machine.config e.machine z kind v v2

follows_then : (kind : RunKind) (e e2 : TwinMachine) (z z2 : Chip) (v v2 : Tape) (t : Told)
    → Says kind e e2 z z2 v v2 t → (x : Model) → Stands e z x
    → SoundTurn (view_of e z v) x kind → Follows x kind (view_of e z v) (view_of e2 z2 v2) t
follows_then kind e e2 z z2 v v2 t said x st sound =
    let f = said.follows x st.stands st.bounded sound in
    let y : Model = turned z.lines e.machine.config x kind in
    record {
      told = f.told;
      handed = said.hands x st.stands st.bounded sound;
      stands = record {
        stands = f.stands;
        bounded = subst (λ ls. BoundedCpus ls e2.machine.config y.fate) (sym said.lines)
            (subst (λ c. BoundedCpus z.lines c y.fate) (sym said.config) f.bounded);
      };
    }

pub gives_by : (kind : RunKind) (e e2 : TwinMachine) (z z2 : Chip) (v v2 : Tape) (t : Told)
    → IsReady e z → Says kind e e2 z z2 v v2 t → FailsAsStruck z.lines t.entries
    → Gives kind (view_of e z v) (view_of e2 z2 v2) t
gives_by kind e e2 z z2 v v2 t ready said struck = record {
  ready = ready_then e e2 z z2 kind t ready said.begun said.calls_a said.calls_b said.turns
      said.config (said.obeys ready.cores ready.by_mode);
  turns = said.turns;
  kept = record {
    lines = said.lines;
    config = said.config;
    hands = ap (λ ls. λ (x : Model) (k : RunKind). hands ls x k) said.lines;
  };
  causes = struck;
  obeys = λ s by.
      let o = said.obeys s by in
      record { met = o.met; outline = o.outline; stands = o.stands };
  follows = follows_then kind e e2 z z2 v v2 t said;
}

-- ---- a turn of a CPU

calls_more : (n m : ℕ) (o : Outcome) → n ≡ m + calls_of o → n ≤ m + 1
calls_more n m o is = let few = calls_few o in omega (arith, is, few)

-- it fails by what its core met, which is the script's
pub cpu_struck : (e e2 : TwinMachine) (z : Chip) (cpu : CpuNo) (turn : Turn) (es : List Entry)
    → IsReady e z
    → cpu.0 < e.machine.config.cpus → e2.machine.config ≡ e.machine.config
    → ((h after : Held) → slice_get e.machine.cpus.items cpu.0 ≡ Some h
    → slice_get e2.machine.cpus.items cpu.0 ≡ Some after
    → TurnGoes e.machine.config.threshold (e.machine.counts.turns + 1) cpu.0 h e.machine.side
    e.machine.pool z es turn.outcome after e2.machine.pool)
    → ((h : Held) → slice_get e.machine.cpus.items cpu.0 ≡ Some h
    → why_met z h turn.outcome ≡ next_cause z (core_of h))
    → FailsAsStruck z.lines es
cpu_struck e e2 z cpu turn es ready lt config goes why =
    let m = e.machine in
    let m2 = e2.machine in
    let i : ℕ = cpu.0 in
    let s : Cores = ready.cores in
    let inside : i < length m.cpus.items = subst (λ (n : ℕ). i < n) m.fits.cpus lt in
    let inside2 : i < length m2.cpus.items = subst (λ (n : ℕ). i < n) m2.fits.cpus
    (subst (λ (c : Config). i < c.cpus) (sym config) lt) in
    let h : Held = get_or m.cpus.items i Taken in
    let got = at_cpu m.cpus.items i inside in
    let held = ready.by_mode.each i h got in
    let w : Bool = waits_for h i m.side in
    let row = (goes h (get_or m2.cpus.items i Taken) got (at_cpu m2.cpus.items i inside2) s w held
    (waits_right h i m.side) ready.by_mode.spares).row in
    let x : Met = met_on_chip z w (s.core i) (why_met z h turn.outcome) in
    let same : x.cause ≡ next_cause z (s.core i) =
    why h got ∙ ap (next_cause z) (sym (core_is h s i held)) in
    subst (λ es. FailsAsStruck z.lines es) (sym row.entries)
    (stamped_struck z.lines (m.counts.turns + 1) i (s.core i) x
    (does m.config.threshold s i x).whats same (does_met m.config.threshold x s i))

pub cpu_says : (e e2 : TwinMachine) (z z2 : Chip) (v v2 : Tape) (cpu : CpuNo) (turn : Turn)
    (es : List Entry) (w : Written)
    → Rises z z2
    → (plain e2.a).calls ≡ (plain e.a).calls + calls_of turn.outcome
    → (plain e2.b).calls ≡ (plain e.b).calls + calls_of turn.outcome
    → e2.machine.counts.turns ≡ e.machine.counts.turns + 1
    → e2.machine.config ≡ e.machine.config
    → ((s : Cores) → StandsByMode e.machine s
    → MachineObeys e.machine.config s (Turns cpu) (told_by cpu.0 turn es w) e2.machine)
    → FollowsAll z.lines e.machine.config e.machine z (Turns cpu) (told_by cpu.0 turn es w) e2.machine z2
    → HandsAll z.lines e.machine.config e.machine z (Turns cpu) v v2
    → Says (Turns cpu) e e2 z z2 v v2 (told_by cpu.0 turn es w)
cpu_says e e2 z z2 v v2 cpu turn es w rises a b turns config obeys follows hands = record {
  lines = rises.lines;
  begun = rises.begun;
  calls_a = calls_more (plain e2.a).calls (plain e.a).calls turn.outcome a;
  calls_b = calls_more (plain e2.b).calls (plain e.b).calls turn.outcome b;
  turns = turns;
  config = config;
  obeys = obeys;
  follows = follows;
  hands = hands;
}

-- ---- turns in which no core takes part

pub plain_says : (kind : RunKind) (e : TwinMachine) (m2 : Machine) (z : Chip) (v : Tape)
    (t : Told) → ((ls : List Strike) (x : Model) → hands ls x kind ≡ []) → m2.counts.turns ≡ e.machine.counts.turns + 1 → m2.config ≡ e.machine.config
    → ((s : Cores) → StandsByMode e.machine s → MachineObeys e.machine.config s kind t m2)
    → FollowsAll z.lines e.machine.config e.machine z kind t m2 z
    → Says kind e (record e { machine = m2 }) z z v v t
plain_says kind e m2 z v t none turns config obeys follows = record {
  lines = refl;
  begun = λ c. omega arith;
  calls_a = omega arith;
  calls_b = omega arith;
  turns = turns;
  config = config;
  obeys = obeys;
  follows = follows;
  hands = λ x st bounded sound. ap (tells v) (sym (none z.lines x));
}

pub key_hands : (cpu : CpuNo) (ls : List Strike) (x : Model) → hands ls x (Key cpu) ≡ []
unfolding hands
key_hands cpu ls x = refl

pub return_hands : (core : CoreNo) (ls : List Strike) (x : Model) → hands ls x (Return core) ≡ []
unfolding hands
return_hands core ls x = refl

pub none_struck : (ls : List Strike) → FailsAsStruck ls []
none_struck ls = All-nil (λ (y : Entry). IsStruck ls y.core.0 y.what)

-- the entry of a returned core
pub return_struck : (e : TwinMachine) (m2 : Machine) (z : Chip) (core : CoreNo)
    (entry : Option Entry) → IsReady e z
    → ((s : Cores) → StandsByMode e.machine s
    → MachineObeys e.machine.config s (Return core) (return_told entry) m2)
    → FailsAsStruck z.lines (entry_if entry)
return_struck e m2 z core entry ready obeys =
    let c : Config = e.machine.config in
    let o = obeys ready.cores ready.by_mode in
    subst (λ es. FailsAsStruck z.lines es) (sym (ap (λ (q : Outline). q.entries) o.outline))
    (returned_struck z.lines ready.cores core.0 (is_fenced c ready.cores core.0))
