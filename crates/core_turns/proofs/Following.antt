-- A turn of a CPU tells and leaves what the definitions say, where the script is within the premise.
use Rattle.std.proofs.Common.{◌≡◌, ℕ, ◌+◌, ◌<◌, Bool, false, List, Some, refl, sym, ap, ◌∙◌, subst, arith}
use Rattle.std.specs.Prelude.{⊤, IsTrue}
use Rattle.std.proofs.lemmas.Bool.{true≢false}
use Rattle.esa_model.specs.Bus.{cpu_no}
use Rattle.esa_model.specs.Line.{Side}
use Rattle.esa_model.specs.Machine.{Machine, due_at, idle, next}
use Rattle.esa_model.specs.Run.{run}
use Rattle.esa_model.specs.declared.machine.CpuNo.{CpuNo}
use Rattle.esa_model.specs.declared.machine.Event.TheVariants.{Commit}
use Rattle.esa_model.specs.declared.machine.Registers.{Registers}
use Rattle.run_model.specs.declared.faults.Mode.TheVariants as mode
use Rattle.run_model.specs.declared.logs.Config.{Config}
use Rattle.run_model.specs.declared.logs.Entry.{Entry}
use Rattle.run_model.specs.Cores.{Cores, Did, is_lost, counted}
use Rattle.run_model.specs.Fate.{met, sight}
use Rattle.run_model.specs.Runs.{Model, turned}
use Rattle.run_model.specs.Strikes.{WithinAt}
use Rattle.runit_ecc.specs.Bounds.{AreRegisters}
use Rattle.silicon.specs.Chip.{Chip}
use Rattle.checkpoint_laws.specs.Stored.{ClocksFit}
use Rattle.checkpoint_laws.specs.Turn.{BeforeTurn}
use Rattle.core_turns.specs.ChipAfter.{TurnChanges}
use Rattle.core_turns.specs.Giving.{Gives, HasRegisters, IsSureCommit, KeepsRegisters, SeenBy, TurnGives, after_outcome}
use Rattle.core_turns.specs.Held.{CorePool, HeldBy, IsThere, RunsWith, SparesAre, core_of}
use Rattle.core_turns.specs.Meeting.{Goes, IsRow, WaitsAs, event_of, next_cause, why_met}
use Rattle.core_turns.specs.Recovered.{Recovers}
use Rattle.core_turns.specs.declared.held.Held.{Held}
use Rattle.core_turns.specs.declared.held.Held.TheVariants.{Running, Recovering, Lost, Taken}
use Rattle.core_turns.specs.Made.{Made}
use Rattle.core_turns.specs.declared.outcomes.Outcome.{Outcome}
use Rattle.core_turns.specs.declared.outcomes.Outcome.TheVariants as outcome
use Rattle.core_turns.proofs.Commits.{commit_runs}
use Rattle.core_turns.proofs.Meets.{commit_begun, same_turn}
use Rattle.core_turns.specs.Following.{IsBefore, bits_then, did}

-- ---- what is held

pub core_held : (h : Held) (s : Cores) (i : ℕ) → HeldBy h s i → IsThere h → core_of h ≡ s.core i
core_held (Running k) s i h there = sym h.1
core_held (Recovering k) s i h there = sym h.1
core_held (Lost c retries) s i h there = sym h.1
core_held Taken s i h there = absurd there

pub live_small : (h : Held) (s : Cores) (i : ℕ) → HeldBy h s i → IsThere h
    → is_lost (s.mode i) ≡ false → s.core i < 16
live_small (Running k) s i h there live = subst (λ c. c < 16) (sym h.1) k.small
live_small (Recovering k) s i h there live = subst (λ c. c < 16) (sym h.1) k.small
live_small (Lost c retries) s i h there live = absurd (true≢false (sym (ap is_lost h.0) ∙ live))
live_small Taken s i h there live = absurd there

pub waits_as : (h : Held) (m : Machine) (i : ℕ) (bytes : List ℕ) (seen : Side) → HasRegisters h m i
    → SeenBy m i bytes seen → WaitsAs h i seen (idle m i)
unfolding idle due_at
waits_as (Running k) m i bytes seen own of =
    rw (own, ap (λ (s : Side). s.clock) of.side, ap (λ (s : Side). s.bus) of.side) refl
waits_as (Recovering k) m i bytes seen own of = tt
waits_as (Lost c retries) m i bytes seen own of = tt
waits_as Taken m i bytes seen own of = tt

pub runs_with : (h : Held) (m : Machine) (i : ℕ) → HasRegisters h m i → RunsWith h (m.registers i)
runs_with (Running k) m i own = sym own
runs_with (Recovering k) m i own = tt
runs_with (Lost c retries) m i own = tt
runs_with Taken m i own = tt

-- the registers of a running core, or these
abbrev pub registers_or : Held → Registers → Registers
registers_or (Running k) r = k.registers
registers_or (Recovering k) r = r
registers_or (Lost c retries) r = r
registers_or Taken r = r

pub runs_with_own : (h : Held) (r : Registers) → RunsWith h (registers_or h r)
runs_with_own (Running k) r = refl
runs_with_own (Recovering k) r = tt
runs_with_own (Lost c retries) r = tt
runs_with_own Taken r = tt

pub own_registers : (h : Held) (m : Machine) (i : ℕ) → HasRegisters h m i
    → registers_or h (m.registers i) ≡ m.registers i
own_registers (Running k) m i own = sym own
own_registers (Recovering k) m i own = refl
own_registers (Lost c retries) m i own = refl
own_registers Taken m i own = refl

pub held_counted : (h : Held) (s : Cores) (i : ℕ) → HeldBy h s i → HeldBy h (counted s) i
held_counted (Running k) s i h = h
held_counted (Recovering k) s i h = h
held_counted (Lost c retries) s i h = h
held_counted Taken s i h = h

abbrev pub IsRunning : Held → Type 0
IsRunning (Running k) = ⊤
IsRunning (Recovering k) = ⊥
IsRunning (Lost c retries) = ⊥
IsRunning Taken = ⊥

-- ---- a turn of a CPU: what is known of it over every silicon, with two exact units

pub record IsTurn (c : Config) (n i : ℕ) (h : Held) (z z2 : Chip) (bytes bytes2 : List ℕ)
    (seen seen2 : Side) (p p2 : CorePool) (es : List Entry) (t : Made) : Type 0 where
  pub goes : (s : Cores) (w : Bool) → HeldBy h s i → WaitsAs h i seen w → SparesAre p s.spare
      → Goes c.threshold n i s w z (why_met z h t.outcome) es t.outcome t.held p2
  pub chip : TurnChanges c.threshold i h seen p (why_met z h t.outcome) t.held z z2
  pub gives : (t.outcome ≡ outcome.Committed → WithinAt z.lines (core_of h) (z.begun (core_of h)))
      → TurnGives i h bytes seen es t bytes2 seen2
  pub recovers : Recovers h z t.held
  pub sure : why_met z h t.outcome ≡ next_cause z (core_of h)
  pub fits : (r : Registers) → RunsWith t.held r → IsRunning t.held → AreRegisters r × ClocksFit r

pub before_of : (c : Config) (n : ℕ) (cpu : CpuNo) (h : Held) (z : Chip) (bytes : List ℕ)
    (seen : Side) (p : CorePool) (x : Model) → IsBefore c n cpu h z bytes seen p x
    → is_lost (x.fate.cores.mode cpu.0) ≡ false
    → BeforeTurn z x.fate (x.fate.cores.core cpu.0) (x.machine.registers cpu.0)
before_of c n cpu h z bytes seen p x b live = record {
  form = b.form;
  begun = b.begun (x.fate.cores.core cpu.0) (live_small h x.fate.cores cpu.0 b.at.held b.there live);
  stored = (b.at.stores live).words;
  few = b.few live;
}

-- the row of the table, by the definitions
pub row_of : (c : Config) (n : ℕ) (cpu : CpuNo) (h : Held) (z z2 : Chip) (bytes bytes2 : List ℕ)
    (seen seen2 : Side) (p p2 : CorePool) (es : List Entry) (t : Made) (x : Model)
    → IsTurn c n cpu.0 h z z2 bytes bytes2 seen seen2 p p2 es t
    → IsBefore c n cpu h z bytes seen p x
    → IsRow n cpu.0 (x.fate.cores.core cpu.0) (did z c x cpu.0) es t.outcome t.held p2
row_of c n cpu h z z2 bytes bytes2 seen seen2 p p2 es t x turn b =
    let i = cpu.0 in
    let core = core_held h x.fate.cores i b.at.held b.there in
    let why = turn.sure ∙ ap (next_cause z) core in
    subst (λ (d : Did). IsRow n i (x.fate.cores.core i) d es t.outcome t.held p2)
    (same_turn x.machine z c.threshold x.fate i (x.machine.registers i)
    (why_met z h t.outcome) (x.fate.cores.mode i) refl
    (before_of c n cpu h z bytes seen p x b) why)
    (turn.goes x.fate.cores (idle x.machine i) b.at.held
    (waits_as h x.machine i bytes seen b.at.registers b.seen_by) b.spares).row

-- ---- a commit was made within the premise

committed_event : (o : Outcome) (i : ℕ) (d : Did) → event_of i o ≡ d.event
    → o ≡ outcome.Committed → d.event ≡ Some (Commit (cpu_no i))
committed_event o i d e is = sym e ∙ ap (event_of i) is

-- an attempt was begun
pub within_begun : (c : Config) (n : ℕ) (cpu : CpuNo) (h : Held) (z : Chip) (bytes : List ℕ)
    (seen : Side) (p : CorePool) (x : Model) → IsBefore c n cpu h z bytes seen p x
    → is_lost (x.fate.cores.mode cpu.0) ≡ false
    → (bits_then z c x cpu.0).begun (x.fate.cores.core cpu.0)
    ≡ x.fate.begun (x.fate.cores.core cpu.0) + 1
    → WithinAt z.lines (core_of h) (z.begun (core_of h))
unfolding turned
within_begun c n cpu h z bytes seen p x b live more =
    let k = x.fate.cores.core cpu.0 in
    let core = core_held h x.fate.cores cpu.0 b.at.held b.there in
    let was = b.begun k (live_small h x.fate.cores cpu.0 b.at.held b.there live) in
    let lt : x.fate.begun k < (bits_then z c x cpu.0).begun k = omega (arith, more) in
    let here : WithinAt z.lines k (x.fate.begun k) = b.sound k (x.fate.begun k) lt in
    subst (λ q. WithinAt z.lines q (z.begun q)) (sym core)
    (subst (λ q. WithinAt z.lines k q) (sym was) here)

within_of : (c : Config) (n : ℕ) (cpu : CpuNo) (h : Held) (z : Chip) (bytes : List ℕ)
    (seen : Side) (p : CorePool) (x : Model) → IsBefore c n cpu h z bytes seen p x
    → (did z c x cpu.0).event ≡ Some (Commit (cpu_no cpu.0))
    → WithinAt z.lines (core_of h) (z.begun (core_of h))
within_of c n cpu h z bytes seen p x b is =
    let i = cpu.0 in
    let runs = commit_runs c.threshold x.fate.cores i (met z.lines (sight x.machine i) x.fate i) is in
    within_begun c n cpu h z bytes seen p x b (ap is_lost runs.0)
    (commit_begun z.lines c.threshold (sight x.machine i) x.fate i is)

pub sure_by : (o : Outcome) (a b : Bool) (z : Chip) (k : ℕ) → IsTrue a → IsTrue b
    → (o ≡ outcome.Committed → WithinAt z.lines k (z.begun k)) → IsSureCommit o a b z k
sure_by outcome.Committed a b z k ea eb h = (ea, eb, h refl)
sure_by outcome.Idle a b z k ea eb h = tt
sure_by (outcome.Failed why) a b z k ea eb h = tt
sure_by (outcome.Retried r) a b z k ea eb h = tt
sure_by (outcome.Spared j) a b z k ea eb h = tt
sure_by outcome.Stopped a b z k ea eb h = tt

pub gives_of : (c : Config) (n : ℕ) (cpu : CpuNo) (h : Held) (z z2 : Chip) (bytes bytes2 : List ℕ)
    (seen seen2 : Side) (p p2 : CorePool) (es : List Entry) (t : Made) (x : Model)
    → IsTurn c n cpu.0 h z z2 bytes bytes2 seen seen2 p p2 es t
    → IsBefore c n cpu h z bytes seen p x
    → Gives x.machine cpu.0 h es t bytes2 seen2
gives_of c n cpu h z z2 bytes bytes2 seen seen2 p p2 es t x turn b =
    let row = row_of c n cpu h z z2 bytes bytes2 seen seen2 p p2 es t x turn b in
    turn.gives (λ is. within_of c n cpu h z bytes seen p x b
    (committed_event t.outcome cpu.0 (did z c x cpu.0) row.event is))
    x.machine b.at.registers b.seen_by

-- ---- what the silicon stores

-- registers that a commit leaves, where the core ran
pub step_by : (h h2 : Held) (m : Machine) (i : ℕ) (o : Outcome) → o ≡ outcome.Committed
    → IsRunning h → KeepsRegisters h h2 (after_outcome m i o) i
    → registers_or h2 ((next m i).registers i) ≡ (next m i).registers i
step_by (Running k) h2 m i o is run keeps =
    own_registers_of h2 (subst (λ q. HasRegisters h2 (after_outcome m i q) i) is keeps)
  where
    own_registers_of : (h2 : Held) → HasRegisters h2 (after_outcome m i outcome.Committed) i
        → registers_or h2 ((next m i).registers i) ≡ (next m i).registers i
    own_registers_of (Running k2) own = sym own
    own_registers_of (Recovering k2) own = refl
    own_registers_of (Lost c retries) own = refl
    own_registers_of Taken own = refl
step_by (Recovering k) h2 m i o is run keeps = absurd run
step_by (Lost c retries) h2 m i o is run keeps = absurd run
step_by Taken h2 m i o is run keeps = absurd run

pub running_held : (h : Held) (s : Cores) (i : ℕ) → HeldBy h s i → IsThere h
    → s.mode i ≡ mode.Running → IsRunning h
running_held (Running k) s i h there is = tt
running_held (Recovering k) s i h there is = absurd (cc (sym h.0 ∙ is))
running_held (Lost c retries) s i h there is = absurd (cc (sym h.0 ∙ is))
running_held Taken s i h there is = absurd there
