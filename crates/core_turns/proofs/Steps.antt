-- What each exit of a turn makes of the machine of the definitions, and what it tells.
use Rattle.std.proofs.Common.{◌≡◌, ◌≢◌, ℕ, List, ◌++◌, Bool, true, false, Option, Some, None, length, length-append, length-drop, drop, refl, sym, ap, ◌∙◌, subst, ◌+◌, ◌≤◌, arith, []}
use Rattle.std.proofs.Math.Seq.{drop-append_seam}
use Rattle.esa_model.specs.declared.machine.Event.{Event}
use Rattle.esa_model.specs.declared.machine.Event.TheVariants as event
use Rattle.esa_model.specs.declared.machine.Registers.{Registers}
use Rattle.esa_model.specs.Apply.{apply, carried_out, applied_storage, console_in, console_out}
use Rattle.esa_model.specs.Bus.{cpu_no}
use Rattle.esa_model.specs.Changes.{changed_bytes}
use Rattle.esa_model.specs.Line.{Side}
use Rattle.esa_model.specs.Machine.{Machine, side_of, idle, is_idle, due_at, next}
use Rattle.esa_model.specs.Packet.{Fields, read}
use Rattle.esa_model.specs.Run.{run}
use Rattle.result_packet.specs.Applied.{keys_left, bus_left, console_left}
use Rattle.run_laws.proofs.At.{at_same, at_other}
use Rattle.run_model.specs.declared.faults.Cause.{Cause}
use Rattle.run_model.specs.declared.faults.CoreNo.{CoreNo}
use Rattle.run_model.specs.declared.faults.Strike.{Strike}
use Rattle.run_model.specs.declared.logs.Entry.{Entry}
use Rattle.run_model.specs.Runs.{events_of, tells_by, tells_nothing_else}
use Rattle.run_model.specs.Strikes.{cause, cause_by, same_masks, fetch_bit, store_bit}
use Rattle.core_states.specs.declared.cores.RunningCore.{RunningCore}
use Rattle.core_states.specs.declared.cores.RecoveringCore.{RecoveringCore}
use Rattle.twin_units.specs.Units.{IsAt, due_beside}
use Rattle.core_turns.specs.declared.held.Held.{Held}
use Rattle.core_turns.specs.declared.held.Held.TheVariants.{Running, Recovering, Lost}
use Rattle.core_turns.specs.Made.{Made}
use Rattle.core_turns.specs.declared.outcomes.Outcome.{Outcome}
use Rattle.core_turns.specs.declared.outcomes.Outcome.TheVariants as outcome
use Rattle.core_turns.specs.Ends.{Quits, idle_side, stopped_side}
use Rattle.core_turns.specs.Giving.{Gives, TurnGives, KeepsRegisters, SeenBy, after_outcome, KeepsCount}
use Rattle.core_turns.specs.Meeting.{event_of}

-- ---- no commit

abbrev SameConsole : Machine → Machine → Type 0
SameConsole m m2 = (m2.console_read ≡ m.console_read) × (m2.console ≡ m.console)
    × (m2.console_written ≡ m.console_written)

none_read : (m m2 : Machine) → SameConsole m m2 → KeepsCount m m2 []
none_read m m2 same = record {
  read = rw (same.0, same.1) refl;
  more = rw same.0 (omega arith);
  few = rw same.0 (omega arith);
  written = rw same.2 (omega arith);
}

gives_by : (m : Machine) (i : ℕ) (h h2 : Held) (es : List Entry) (t : Made) (came : Outcome)
    (e : Option Event) (bytes : List ℕ) (seen : Side) → Quits h2 came t → event_of i came ≡ e
    → (run m (events_of e)).storage ≡ bytes → side_of (run m (events_of e)) ≡ seen
    → tells_nothing_else es e ≡ tells_by m es e
    → KeepsRegisters h h2 (run m (events_of e)) i
    → ((j : ℕ) → j ≢ i → (run m (events_of e)).registers j ≡ m.registers j)
    → SameConsole m (run m (events_of e))
    → Gives m i h es t bytes seen
gives_by m i h h2 es t came e bytes seen q is storage side tells own others same =
    let event_is : event_of i t.outcome ≡ e = ap (event_of i) q.outcome ∙ is in
    record {
      storage = ap (λ (x : Option Event). (run m (events_of x)).storage) event_is ∙ storage;
      side = ap (λ (x : Option Event). side_of (run m (events_of x))) event_is ∙ side;
      told = rw (event_is, q.psw, q.changed, q.console) tells;
      registers = subst (λ (x : Held). KeepsRegisters h x (after_outcome m i t.outcome) i)
          (sym q.holds)
          (subst (λ (x : Option Event). KeepsRegisters h h2 (run m (events_of x)) i)
          (sym event_is) own);
      others = λ j ne. ap (λ (x : Option Event). (run m (events_of x)).registers j) event_is
          ∙ others j ne;
      console = subst (λ (x : Option Event). KeepsCount m (run m (events_of x)) t.written.console.items)
          (sym event_is)
          (subst (λ (out : List ℕ). KeepsCount m (run m (events_of e)) out) (sym q.console)
          (none_read m (run m (events_of e)) same));
    }

pub gives_idle : (i : ℕ) (k : RunningCore) (es : List Entry) (t : Made) (bytes : List ℕ)
    (seen seen2 : Side) → Quits (Running k) outcome.Idle t → seen2 ≡ idle_side seen
    → TurnGives i (Running k) bytes seen es t bytes seen2
gives_idle i k es t bytes seen seen2 q is m has sees =
    gives_by m i (Running k) (Running k) es t outcome.Idle (Some (event.Idle (cpu_no i))) bytes
    seen2 q refl sees.storage (ap idle_side sees.side ∙ sym is) refl has (λ j ne. refl) (refl, refl, refl)

pub gives_gone : (i : ℕ) (c : CoreNo) (r : ℕ) (es : List Entry) (t : Made) (bytes : List ℕ)
    (seen seen2 : Side) → Quits (Lost c r) outcome.Idle t → seen2 ≡ idle_side seen
    → TurnGives i (Lost c r) bytes seen es t bytes seen2
gives_gone i c r es t bytes seen seen2 q is m has sees =
    gives_by m i (Lost c r) (Lost c r) es t outcome.Idle (Some (event.Idle (cpu_no i))) bytes
    seen2 q refl sees.storage (ap idle_side sees.side ∙ sym is) refl tt (λ j ne. refl) (refl, refl, refl)

-- a running core is never left recovering with registers
pub gives_failed : (i : ℕ) (k : RunningCore) (k2 : RecoveringCore) (why : Cause) (es : List Entry)
    (t : Made) (bytes bytes2 : List ℕ) (seen : Side)
    → Quits (Recovering k2) (outcome.Failed why) t → bytes2 ≡ bytes
    → TurnGives i (Running k) bytes seen es t bytes2 seen
gives_failed i k k2 why es t bytes bytes2 seen q same m has sees =
    gives_by m i (Running k) (Recovering k2) es t (outcome.Failed why) None bytes2 seen q refl
    (sees.storage ∙ sym same) sees.side refl tt (λ j ne. refl) (refl, refl, refl)

pub gives_lost : (i : ℕ) (k : RunningCore) (c : CoreNo) (r : ℕ) (es : List Entry) (t : Made)
    (bytes bytes2 : List ℕ) (seen seen2 : Side) → Quits (Lost c r) outcome.Stopped t
    → bytes2 ≡ bytes → seen2 ≡ stopped_side i seen
    → TurnGives i (Running k) bytes seen es t bytes2 seen2
gives_lost i k c r es t bytes bytes2 seen seen2 q same is m has sees =
    gives_by m i (Running k) (Lost c r) es t outcome.Stopped (Some (event.Stop (cpu_no i))) bytes2
    seen2 q refl (sees.storage ∙ sym same) (ap (stopped_side i) sees.side ∙ sym is) refl tt
    (λ j ne. refl) (refl, refl, refl)

pub gives_stopped : (i : ℕ) (k : RecoveringCore) (c : CoreNo) (r : ℕ) (es : List Entry)
    (t : Made) (bytes : List ℕ) (seen seen2 : Side) → Quits (Lost c r) outcome.Stopped t
    → seen2 ≡ stopped_side i seen → TurnGives i (Recovering k) bytes seen es t bytes seen2
gives_stopped i k c r es t bytes seen seen2 q is m has sees =
    gives_by m i (Recovering k) (Lost c r) es t outcome.Stopped (Some (event.Stop (cpu_no i)))
    bytes seen2 q refl sees.storage (ap (stopped_side i) sees.side ∙ sym is) refl tt
    (λ j ne. refl) (refl, refl, refl)

pub gives_again : (i : ℕ) (k : RecoveringCore) (k2 : RunningCore) (came : Outcome)
    (es : List Entry) (t : Made) (bytes : List ℕ) (seen : Side) → Quits (Running k2) came t
    → event_of i came ≡ None → TurnGives i (Recovering k) bytes seen es t bytes seen
gives_again i k k2 came es t bytes seen q none m has sees =
    gives_by m i (Recovering k) (Running k2) es t came None bytes seen q none sees.storage
    sees.side refl tt (λ j ne. refl) (refl, refl, refl)

-- ---- the law of a packet that was not struck

same_by : (o p : Option ℕ) (same : Bool) → cause_by o same p ≡ None → same ≡ true
same_by None p true e = refl
same_by None p false e = absurd cc
same_by (Some q) p same e = absurd cc

pub same_if_none : (ls : List Strike) (c n : ℕ) → cause ls c n ≡ None → same_masks ls c n ≡ true
unfolding cause
same_if_none ls c n e = same_by (fetch_bit ls c n) (store_bit ls c n) (same_masks ls c n) e

idle_is : (m : Machine) (i : ℕ) (r : Registers) (bytes : List ℕ) (seen : Side)
    → IsAt m i r bytes seen → idle m i ≡ is_idle (due_beside r i seen)
unfolding idle due_at
idle_is m i r bytes seen here =
    rw (here.registers, ap (λ (s : Side). s.clock) here.side, ap (λ (s : Side). s.bus) here.side)
    refl

-- ---- a commit

-- what a packet of CPU i, whose registers are r, makes of storage, side and registers
pub record Carries (i : ℕ) (r : Registers) (p : List ℕ) (bytes bytes2 : List ℕ)
    (seen seen2 : Side) : Type 0 where
  pub storage : bytes2 ≡ applied_storage r (read p) bytes
  pub keys : seen2.keys ≡ keys_left r (read p) (length bytes) seen.keys
  pub bus : seen2.bus ≡ bus_left i (read p) seen.bus
  pub console : seen2.console ≡ console_left (read p) seen.console
  pub clock : seen2.clock ≡ seen.clock

-- the machine x has these parts after m
record Becomes (m x : Machine) (i : ℕ) (f : Fields) (bytes2 : List ℕ) (seen2 : Side) : Type 0 where
  storage : x.storage ≡ bytes2
  side : side_of x ≡ seen2
  registers : x.registers i ≡ f.registers
  others : (j : ℕ) → j ≢ i → x.registers j ≡ m.registers j
  console : x.console_written ≡ m.console_written ++ console_out f
  left : x.console_read + length x.console ≡ m.console_read + length m.console
  more : m.console_read ≤ x.console_read
  few : x.console_read ≤ m.console_read + 256

read_most : (f : Fields) (left : ℕ) → console_in f left ≤ left
read_most f left = grind arith

read_few : (f : Fields) (left : ℕ) → console_in f left ≤ 256
read_few f left = grind arith

left_over : (f : Fields) (console : List ℕ) (before : ℕ)
    → before + console_in f (length console)
    + length (drop (console_in f (length console)) console) ≡ before + length console
left_over f console before =
    let most = read_most f (length console) in
    let rest = length-drop (console_in f (length console)) console in
    omega (arith, most, rest)

carried_becomes : (m : Machine) (i : ℕ) (r : Registers) (p : List ℕ) (bytes bytes2 : List ℕ)
    (seen seen2 : Side) → m.registers i ≡ r → SeenBy m i bytes seen
    → Carries i r p bytes bytes2 seen seen2 → Becomes m (apply m i p) i (read p) bytes2 seen2
unfolding apply carried_out
carried_becomes m i r p bytes bytes2 seen seen2 own sees by =
    let keys_are : m.keys ≡ seen.keys = ap (λ (s : Side). s.keys) sees.side in
    let bus_is : m.bus ≡ seen.bus = ap (λ (s : Side). s.bus) sees.side in
    let console_is : m.console ≡ seen.console = ap (λ (s : Side). s.console) sees.side in
    let clock_is : m.clock ≡ seen.clock = ap (λ (s : Side). s.clock) sees.side in
    record {
      storage = rw (own, sees.storage) (sym by.storage);
      side = rw (
        own,
        sees.storage,
        keys_are,
        bus_is,
        console_is,
        clock_is,
        sym by.keys,
        sym by.bus,
        sym by.console,
        sym by.clock,
      ) refl;
      registers = at_same m.registers i (read p).registers;
      others = λ j ne. at_other m.registers i (read p).registers j ne;
      console = refl;
      left = left_over (read p) m.console m.console_read;
      more = omega arith;
      few = let n = read_few (read p) (length m.console) in omega (arith, n);
    }

pub record Commits (k2 : RunningCore) (t : Made) (p : List ℕ) (bytes bytes2 : List ℕ) : Type 0 where
  pub holds : t.held ≡ Running k2
  pub registers : k2.registers ≡ (read p).registers
  pub outcome : t.outcome ≡ outcome.Committed
  pub psw : t.psw ≡ (read p).registers.psw
  pub changed : t.written.changed.items ≡ changed_bytes bytes bytes2
  pub console : t.written.console.items ≡ console_out (read p)

pub gives_committed : (i : ℕ) (k k2 : RunningCore) (es : List Entry) (t : Made) (p : List ℕ)
    (bytes bytes2 : List ℕ) (seen seen1 seen2 : Side)
    → is_idle (due_beside k.registers i seen) ≡ false
    → ((m : Machine) → IsAt m i k.registers bytes seen → idle m i ≡ false
    → apply m i p ≡ next m i)
    → Carries i k.registers p bytes bytes2 seen seen1 → seen2 ≡ idle_side seen1
    → Commits k2 t p bytes bytes2
    → TurnGives i (Running k) bytes seen es t bytes2 seen2
gives_committed i k k2 es t p bytes bytes2 seen seen1 seen2 busy law by later c m has sees =
    let here : IsAt m i k.registers bytes seen = record {
      registers = has;
      storage = sees.storage;
      side = sees.side;
      there = sees.there;
    } in
    let step = law m here (idle_is m i k.registers bytes seen here ∙ busy) in
    let b : Becomes m (next m i) i (read p) bytes2 seen1 =
    subst (λ (x : Machine). Becomes m x i (read p) bytes2 seen1) step
    (carried_becomes m i k.registers p bytes bytes2 seen seen1 has sees by) in
    let event_is : event_of i t.outcome ≡ Some (event.Commit (cpu_no i)) =
    ap (event_of i) c.outcome in
    record {
      storage = ap (λ (x : Option Event). (run m (events_of x)).storage) event_is ∙ b.storage;
      side = ap (λ (x : Option Event). side_of (run m (events_of x))) event_is
          ∙ ap idle_side b.side ∙ sym later;
      told =
          let psw_is : t.psw ≡ ((next m i).registers i).psw =
          c.psw ∙ ap (λ (r : Registers). r.psw) (sym b.registers) in
          let changed_is : t.written.changed.items ≡ changed_bytes m.storage (next m i).storage =
          c.changed ∙ ap (λ (s : List ℕ). changed_bytes s bytes2) (sym sees.storage)
          ∙ ap (changed_bytes m.storage) (sym b.storage) in
          let console_is : t.written.console.items
          ≡ drop (length m.console_written) (next m i).console_written =
          c.console ∙ sym (drop-append_seam m.console_written (console_out (read p)))
          ∙ ap (drop (length m.console_written)) (sym b.console) in
          rw (event_is, psw_is, changed_is, console_is) refl;
      registers = subst (λ (x : Held). KeepsRegisters (Running k) x
          (after_outcome m i t.outcome) i) (sym c.holds)
          (ap (λ (x : Option Event). (run m (events_of x)).registers i) event_is
          ∙ b.registers ∙ sym c.registers);
      others = λ j ne. ap (λ (x : Option Event). (run m (events_of x)).registers j) event_is
          ∙ b.others j ne;
      console =
          let out : length (next m i).console_written
          ≡ length m.console_written + length t.written.console.items =
          ap length b.console ∙ length-append m.console_written (console_out (read p))
          ∙ ap (λ (xs : List ℕ). length m.console_written + length xs) (sym c.console) in
          subst (λ (x : Option Event). KeepsCount m (run m (events_of x)) t.written.console.items)
          (sym event_is) (record { read = b.left; more = b.more; few = b.few; written = out });
    }

-- the same of equal registers and bytes
pub carries_as : (i : ℕ) (r r0 : Registers) (p : List ℕ) (bytes bytes0 bytes2 : List ℕ)
    (seen seen2 : Side) → r0 ≡ r → bytes0 ≡ bytes → Carries i r0 p bytes0 bytes2 seen seen2
    → Carries i r p bytes bytes2 seen seen2
carries_as i r r0 p bytes bytes0 bytes2 seen seen2 own view by =
    subst (λ (q : Registers). Carries i q p bytes bytes2 seen seen2) own
    (subst (λ (s : List ℕ). Carries i r0 p s bytes2 seen seen2) view by)
