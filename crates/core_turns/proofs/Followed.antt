-- What machine and silicon stand for after a turn of a CPU.
use Rattle.std.proofs.Common.{◌≡◌, ◌⊎◌, ℕ, ◌+◌, false, List, Some, None, refl, sym, ap, ◌∙◌, subst, inl, inr}
use Rattle.std.proofs.lemmas.Bool.{true≢false}
use Rattle.esa_model.specs.Bus.{cpu_no}
use Rattle.esa_model.specs.Line.{Side}
use Rattle.esa_model.specs.Machine.{Machine, idle, next, side_of}
use Rattle.esa_model.specs.Run.{run}
use Rattle.esa_model.specs.declared.machine.CpuNo.{CpuNo}
use Rattle.esa_model.specs.declared.machine.Event.TheVariants.{Commit}
use Rattle.esa_model.specs.declared.machine.Registers.{Registers}
use Rattle.run_model.specs.declared.faults.Mode.{Mode}
use Rattle.run_model.specs.declared.faults.Mode.TheVariants as mode
use Rattle.run_model.specs.declared.logs.Config.{Config}
use Rattle.run_model.specs.declared.logs.Entry.{Entry}
use Rattle.run_model.specs.declared.schedules.RunKind.TheVariants.{Turns}
use Rattle.run_model.specs.Cores.{Cores, Did, Met, by_mode, does, is_lost, stamped}
use Rattle.run_model.specs.Fate.{Fate, Sight, met, read, sight}
use Rattle.run_model.specs.Reading.{Reading}
use Rattle.run_model.specs.Runs.{Model, events_of, tells, tells_by, turned}
use Rattle.runit_ecc.specs.Bounds.{AreRegisters}
use Rattle.run_model.specs.declared.faults.Strike.{Strike}
use Rattle.silicon.specs.Chip.{Chip}
use Rattle.core_states.specs.Read.{registers_read}
use Rattle.checkpoint_laws.specs.Stored.{ClocksFit}
use Rattle.checkpoint_laws.proofs.Begun.{fate_reads}
use Rattle.checkpoint_laws.proofs.Exits.{fate_registers}
use Rattle.core_turns.specs.Giving.{HasRegisters, KeepsRegisters, after_outcome, KeepsCount}
use Rattle.core_turns.specs.Held.{CorePool, HeldBy, HoldsRegisters, IsThere, RunsWith}
use Rattle.core_turns.specs.Meeting.{event_of, met_on_chip, next_cause, why_met}
use Rattle.core_turns.specs.Recovered.{Recovers}
use Rattle.core_turns.specs.declared.held.Held.{Held}
use Rattle.core_turns.specs.declared.held.Held.TheVariants.{Running, Recovering, Lost, Taken}
use Rattle.core_turns.specs.Made.{Made}
use Rattle.core_turns.specs.declared.outcomes.Outcome.{Outcome}
use Rattle.core_turns.specs.declared.outcomes.Outcome.TheVariants as outcome
use Rattle.core_turns.proofs.Commits.{commit_runs, lost_stays, runs_again}
use Rattle.core_turns.proofs.Meets.{same_turn}
use Rattle.core_turns.proofs.Following.{IsTurn, IsRunning, before_of, core_held, gives_of, held_counted, own_registers, registers_or, row_of, running_held, runs_with, runs_with_own, step_by, waits_as}
use Rattle.core_turns.proofs.Stores.{turn_leaves}
use Rattle.core_turns.specs.Following.{Followed, IsBefore, Leaves, bits_then, did, registers_then}

-- ---- a commit, or none

is_commit : (o : Outcome) (i : ℕ) → event_of i o ≡ Some (Commit (cpu_no i)) → o ≡ outcome.Committed
is_commit outcome.Committed i e = refl
is_commit outcome.Idle i e = absurd (cc e)
is_commit (outcome.Failed why) i e = absurd (cc e)
is_commit (outcome.Retried r) i e = absurd (cc e)
is_commit (outcome.Spared j) i e = absurd (cc e)
is_commit outcome.Stopped i e = absurd (cc e)

-- without one the registers stay
commits_or_keeps : (o : Outcome) (m : Machine) (i : ℕ) (d : Did) → event_of i o ≡ d.event
    → (d.event ≡ Some (Commit (cpu_no i))) ⊎ (registers_then m i d ≡ m.registers i)
commits_or_keeps outcome.Committed m i d e = inl (sym e)
commits_or_keeps outcome.Idle m i d e = inr (ap (λ q. (run m (events_of q)).registers i) (sym e))
commits_or_keeps (outcome.Failed why) m i d e =
    inr (ap (λ q. (run m (events_of q)).registers i) (sym e))
commits_or_keeps (outcome.Retried r) m i d e =
    inr (ap (λ q. (run m (events_of q)).registers i) (sym e))
commits_or_keeps (outcome.Spared j) m i d e =
    inr (ap (λ q. (run m (events_of q)).registers i) (sym e))
commits_or_keeps outcome.Stopped m i d e =
    inr (ap (λ q. (run m (events_of q)).registers i) (sym e))

live_before : (t : ℕ) (s : Cores) (i : ℕ) (x : Met) (m : Mode) → s.mode i ≡ m
    → is_lost ((does t s i x).after.mode i) ≡ false → is_lost (s.mode i) ≡ false
live_before t s i x mode.Running is live = ap is_lost is
live_before t s i x mode.Recovering is live = ap is_lost is
live_before t s i x mode.Lost is live =
    absurd (true≢false (sym (ap is_lost (lost_stays t s i x is)) ∙ live))

there_of : (h : Held) (s : Cores) (i : ℕ) → HeldBy h s i → IsThere h
there_of (Running k) s i h = tt
there_of (Recovering k) s i h = tt
there_of (Lost c retries) s i h = tt
there_of Taken s i h = h

-- ---- what the silicon stores

does_is : (t : ℕ) (s : Cores) (i : ℕ) (x : Met) → by_mode t s i x (s.mode i) ≡ does t s i x
unfolding does
does_is t s i x = refl

pub leaves_of : (c : Config) (n : ℕ) (cpu : CpuNo) (h : Held) (z z2 : Chip)
    (bytes bytes2 : List ℕ) (seen seen2 : Side) (p p2 : CorePool) (es : List Entry) (t : Made)
    (x : Model) → IsTurn c n cpu.0 h z z2 bytes bytes2 seen seen2 p p2 es t
    → IsBefore c n cpu h z bytes seen p x
    → Leaves z z2 x.fate (bits_then z c x cpu.0) (did z c x cpu.0) cpu.0
    (registers_then x.machine cpu.0 (did z c x cpu.0))
leaves_of c n cpu h z z2 bytes bytes2 seen seen2 p p2 es t x turn b =
    let i = cpu.0 in
    let m = x.machine in
    let s = x.fate.cores in
    let d = did z c x i in
    let why = why_met z h t.outcome in
    let row = row_of c n cpu h z z2 bytes bytes2 seen seen2 p p2 es t x turn b in
    let gives = gives_of c n cpu h z z2 bytes bytes2 seen seen2 p p2 es t x turn b in
    let cause_is = turn.sure ∙ ap (next_cause z) (core_held h s i b.at.held b.there) in
    let before = before_of c n cpu h z bytes seen p x b in
    let same : by_mode c.threshold s i (met_on_chip z (idle m i) (s.core i) why) (s.mode i) ≡ d =
    does_is c.threshold s i (met_on_chip z (idle m i) (s.core i) why)
    ∙ same_turn m z c.threshold x.fate i (m.registers i) why (s.mode i) refl before cause_is in
    let r2 = registers_or t.held ((next m i).registers i) in
    let step : (by_mode c.threshold s i (met_on_chip z (idle m i) (s.core i) why) (s.mode i)).event
    ≡ Some (Commit (cpu_no i)) → r2 ≡ (next m i).registers i =
    λ is.
    let commits : d.event ≡ Some (Commit (cpu_no i)) = sym (ap (λ (q : Did). q.event) same) ∙ is in
    step_by h t.held m i t.outcome (is_commit t.outcome i (row.event ∙ commits))
    (running_held h s i b.at.held b.there
    (commit_runs c.threshold s i (met z.lines (sight m i) x.fate i) commits).0)
    gives.registers in
    subst (λ (q : Did). Leaves z z2 x.fate (bits_then z c x i) q i (registers_then m i q)) same
    (turn_leaves m z z2 c.threshold x.fate i r2 (idle m i) why (s.mode i) refl before refl cause_is
    (λ none live. fate_registers z x.fate (s.core i) (m.registers i) (before live)
    (b.at.stores live).registers (b.at.stores live).clocks none)
    step
    (turn.chip s (idle m i) (m.registers i) r2 b.at.held
    (waits_as h m i bytes seen b.at.registers b.seen_by) b.spares
    (runs_with h m i b.at.registers) (runs_with_own t.held ((next m i).registers i))))

-- ---- the registers after it

pub storable : (h : Held) → HoldsRegisters h → (r : Registers) → RunsWith h r → IsRunning h
    → AreRegisters r × ClocksFit r
storable (Running k) fits r is run =
    subst (λ (q : Registers). AreRegisters q × ClocksFit q) is (fits.registers, fits.clocks)
storable (Recovering k) fits r is run = absurd run
storable (Lost c retries) fits r is run = absurd run
storable Taken fits r is run = absurd run

met_reading : (ls : List Strike) (g : Sight) (s : Fate) (i : ℕ)
    → (met ls g s i).reading ≡ read s (s.cores.core i)
unfolding met
met_reading ls g s i = refl

registers_after : (c : Config) (n : ℕ) (cpu : CpuNo) (h h2 : Held) (o : Outcome) (z : Chip)
    (bytes : List ℕ) (seen : Side) (p : CorePool) (x : Model)
    → IsBefore c n cpu h z bytes seen p x → event_of cpu.0 o ≡ (did z c x cpu.0).event
    → HeldBy h2 (did z c x cpu.0).after cpu.0 → Recovers h z h2
    → KeepsRegisters h h2 (after_outcome x.machine cpu.0 o) cpu.0
    → HasRegisters h2 (run x.machine (events_of (did z c x cpu.0).event)) cpu.0
registers_after c n cpu (Running k) h2 o z bytes seen p x b e held again keeps =
    subst (λ q. HasRegisters h2 (run x.machine (events_of q)) cpu.0) e keeps
registers_after c n cpu (Recovering k) (Running k2) o z bytes seen p x b e held again keeps =
    let i = cpu.0 in
    let s = x.fate.cores in
    let live : is_lost (s.mode i) ≡ false = ap is_lost b.at.held.0 in
    let before = before_of c n cpu (Recovering k) z bytes seen p x b live in
    let none : (read x.fate (s.core i)).lost ≡ None =
    sym (ap (λ (r : Reading). r.lost) (met_reading z.lines (sight x.machine i) x.fate i))
    ∙ runs_again c.threshold s i (met z.lines (sight x.machine i) x.fate i) b.at.held.0 held.0 in
    let reads = ap (λ (r : Reading). r.lost) (fate_reads z x.fate (s.core i) (x.machine.registers i) before) in
    let says = fate_registers z x.fate (s.core i) (x.machine.registers i) before
    (b.at.stores live).registers (b.at.stores live).clocks (reads ∙ none) in
    elim (commits_or_keeps o x.machine i (did z c x i) e) [
      | inl is ↦ absurd (cc (sym b.at.held.0
          ∙ (commit_runs c.threshold s i (met z.lines (sight x.machine i) x.fate i) is).0))
      | inr same ↦ same ∙ (sym says ∙ (ap (registers_read z) b.at.held.1 ∙ sym again))
    ]
registers_after c n cpu (Recovering k) (Recovering k2) o z bytes seen p x b e held again keeps = tt
registers_after c n cpu (Recovering k) (Lost q r) o z bytes seen p x b e held again keeps = tt
registers_after c n cpu (Recovering k) Taken o z bytes seen p x b e held again keeps = tt
registers_after c n cpu (Lost q r) (Running k2) o z bytes seen p x b e held again keeps =
    absurd (cc (sym (lost_stays c.threshold x.fate.cores cpu.0
    (met z.lines (sight x.machine cpu.0) x.fate cpu.0) b.at.held.0) ∙ held.0))
registers_after c n cpu (Lost q r) (Recovering k2) o z bytes seen p x b e held again keeps = tt
registers_after c n cpu (Lost q r) (Lost q2 r2) o z bytes seen p x b e held again keeps = tt
registers_after c n cpu (Lost q r) Taken o z bytes seen p x b e held again keeps = tt
registers_after c n cpu Taken h2 o z bytes seen p x b e held again keeps = absurd b.there

pub followed : (c : Config) (n : ℕ) (cpu : CpuNo) (h : Held) (z z2 : Chip)
    (bytes bytes2 : List ℕ) (seen seen2 : Side) (p p2 : CorePool) (es : List Entry) (t : Made)
    (x : Model) → IsTurn c n cpu.0 h z z2 bytes bytes2 seen seen2 p p2 es t
    → IsBefore c n cpu h z bytes seen p x
    → Followed c cpu z z2 bytes2 seen2 p2 es t x (turned z.lines c x (Turns cpu))
unfolding turned tells
followed c n cpu h z z2 bytes bytes2 seen seen2 p p2 es t x turn b =
    let i = cpu.0 in
    let m = x.machine in
    let s = x.fate.cores in
    let d = did z c x i in
    let row = row_of c n cpu h z z2 bytes bytes2 seen seen2 p p2 es t x turn b in
    let gives = gives_of c n cpu h z z2 bytes bytes2 seen seen2 p p2 es t x turn b in
    let leaves = leaves_of c n cpu h z z2 bytes bytes2 seen seen2 p p2 es t x turn b in
    let own = registers_after c n cpu h t.held t.outcome z bytes seen p x b row.event row.held
    turn.recovers gives.registers in
    let entries : es ≡ stamped (s.turns + 1) i (s.core i) d.whats =
    row.entries ∙ ap (λ q. stamped q i (s.core i) d.whats) (sym b.turns) in
    let after : Machine = run m (events_of d.event) in
    record {
      told = gives.told ∙ (ap (λ q. tells_by m es q) row.event ∙ ap (λ q. tells_by m q d.event) entries);
      at = record {
        held = held_counted t.held d.after i row.held;
        registers = own;
        stores = λ live.
            let was = live_before c.threshold s i (met z.lines (sight m i) x.fate i) (s.mode i) refl live in
            let fits : AreRegisters (after.registers i) × ClocksFit (after.registers i) = elim (commits_or_keeps t.outcome m i d row.event) [
              | inl is ↦
                  subst (λ (r : Registers). AreRegisters r × ClocksFit r)
                  (own_registers t.held after i own)
                  (turn.fits (registers_or t.held (after.registers i))
                  (runs_with_own t.held (after.registers i))
                  (running_held t.held d.after i row.held (there_of t.held d.after i row.held)
                  (commit_runs c.threshold s i (met z.lines (sight m i) x.fate i) is).1))
              | inr same ↦
                  subst (λ (r : Registers). AreRegisters r × ClocksFit r) (sym same)
                  ((b.at.stores was).registers, (b.at.stores was).clocks)
            ] in
            record { registers = fits.0; clocks = fits.1; words = leaves.own live };
      };
      storage = ap (λ q. (run m (events_of q)).storage) (sym row.event) ∙ gives.storage;
      side = ap (λ q. side_of (run m (events_of q))) (sym row.event) ∙ gives.side;
      spares = row.spares;
      registers = λ j ne. ap (λ q. (run m (events_of q)).registers j) (sym row.event) ∙ gives.others j ne;
      console = subst (λ q. KeepsCount m (run m (events_of q)) t.written.console.items) row.event
          gives.console;
      leaves = leaves;
    }
