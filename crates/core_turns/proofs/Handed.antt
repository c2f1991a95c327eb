-- What a turn of a CPU handed in to the silicon is what the definitions say, where the script is
-- within the premise.
use Rattle.std.proofs.Common.{◌≡◌, ℕ, ◌<◌, Bool, true, false, List, [], Option, Some, refl, sym, ap, ◌∙◌, subst}
use Rattle.std.specs.Prelude.{⊤}
use Rattle.esa_model.specs.Line.{Side}
use Rattle.esa_model.specs.Machine.{Machine}
use Rattle.esa_model.specs.declared.machine.CpuNo.{CpuNo}
use Rattle.run_model.specs.declared.faults.Cause.{Cause}
use Rattle.run_model.specs.declared.faults.Cause.TheVariants as causes
use Rattle.run_model.specs.declared.faults.CoreNo.{CoreNo}
use Rattle.run_model.specs.declared.faults.Mode.{Mode}
use Rattle.run_model.specs.declared.faults.Mode.TheVariants as mode
use Rattle.run_model.specs.declared.faults.Strike.{Strike}
use Rattle.run_model.specs.declared.faults.Unit.TheVariants.{A}
use Rattle.run_model.specs.declared.logs.Config.{Config}
use Rattle.run_model.specs.declared.logs.Entry.{Entry}
use Rattle.run_model.specs.declared.schedules.RunKind.TheVariants.{Turns}
use Rattle.run_model.specs.Cores.{Cores, Met, is_lost}
use Rattle.run_model.specs.Fate.{Fate, Sight, met, sight}
use Rattle.run_model.specs.Runs.{Model}
use Rattle.run_model.specs.Script.{AllInRange, core_no}
use Rattle.run_model.specs.Strikes.{cause, mask_byte, same_masks}
use Rattle.silicon.specs.Chip.{Chip}
use Rattle.silicon.specs.Tape.{Tape, tells}
use Rattle.silicon.specs.declared.handed.Handed.{Handed}
use Rattle.core_states.specs.Trial.{Setting, Trial, all_of, bytes_in, fetch_latch, hands_by, next_trial, packet_due, packets_of, passed_a, setting}
use Rattle.core_states.specs.declared.cores.RunningCore.{RunningCore}
use Rattle.twin_units.specs.Results.{UnitView}
use Rattle.core_turns.specs.Following.{IsBefore, did}
use Rattle.core_turns.specs.Giving.{SeenBy}
use Rattle.core_turns.specs.Handing.{AnswersDue, HandsIn, attempt_hands, both_packets, calls_of, hands, hands_if, hands_in, setting_of, tries, with_store}
use Rattle.core_turns.specs.Held.{CorePool, core_of}
use Rattle.core_turns.specs.Meeting.{IsRow, next_cause, why_by, why_met}
use Rattle.core_turns.specs.declared.held.Held.{Held}
use Rattle.core_turns.specs.declared.held.Held.TheVariants.{Running, Recovering, Lost, Taken}
use Rattle.core_turns.specs.declared.outcomes.Outcome.{Outcome}
use Rattle.core_turns.specs.declared.outcomes.Outcome.TheVariants as outcome
use Rattle.core_turns.proofs.Following.{live_small, within_begun}
use Rattle.core_turns.proofs.Steps.{same_if_none}
use Rattle.core_turns.proofs.Tried.{IsTriedAs, same_if_store, tried_as, tried_begun, unstruck}

-- ---- an attempt that is the one of the definitions: its core and number, and its fetch latch

record IsDueTrial (t : Trial) (c : CoreNo) (n : ℕ) (s : Setting) : Type 0 where
  core : t.core ≡ c
  number : t.number ≡ n
  latch : t.latch ≡ fetch_latch s

-- both units answered the packet
record HasPackets (t : Trial) (s : Setting) : Type 0 where
  a : t.a ≡ packet_due s
  b : t.b ≡ packet_due s

fetch_is : (t : Trial) (c : CoreNo) (n : ℕ) (s : Setting) → IsDueTrial t c n s
    → hands_by t (Some causes.Fetch) ≡ attempt_hands c n s (Some causes.Fetch)
fetch_is t c n s d = rw (d.core, d.number, d.latch) refl

both_are : (t : Trial) (c : CoreNo) (n : ℕ) (s : Setting) (rest : List Handed)
    → IsDueTrial t c n s → HasPackets t s → packets_of t rest ≡ both_packets c n s rest
both_are t c n s rest d p = rw (d.core, d.number, d.latch, p.a, p.b) refl

all_are : (t : Trial) (c : CoreNo) (n : ℕ) (s : Setting) → IsDueTrial t c n s → HasPackets t s
    → passed_a t ≡ packet_due s → all_of t ≡ with_store c n s
all_are t c n s d p stored = rw (stored, d.core, d.number, d.latch, p.a, p.b) refl

-- ---- by what the turn came to

-- unit A's packet was sealed in a store latch
abbrev IsStored : Outcome → Type 0
IsStored outcome.Committed = ⊤
IsStored outcome.Idle = ⊥
IsStored (outcome.Failed causes.Fetch) = ⊥
IsStored (outcome.Failed causes.Mismatch) = ⊥
IsStored (outcome.Failed causes.Store) = ⊤
IsStored (outcome.Retried r) = ⊥
IsStored (outcome.Spared k) = ⊥
IsStored outcome.Stopped = ⊥

by_outcome : (t : Trial) (c : CoreNo) (n : ℕ) (s : Setting) (came : Outcome) (tried : Bool)
    (why : Option Cause) (old new : Tape) → IsTriedAs came tried why → IsDueTrial t c n s
    → (calls_of came ≡ 1 → HasPackets t s) → (IsStored came → passed_a t ≡ packet_due s)
    → new ≡ tells old (hands_in t came)
    → new ≡ tells old (hands_if tried (attempt_hands c n s why))
by_outcome t c n s outcome.Committed tried why old new is d p st e =
    rw (is.0, is.1) (e ∙ ap (tells old) (all_are t c n s d (p refl) (st tt)))
by_outcome t c n s (outcome.Failed causes.Fetch) tried why old new is d p st e =
    rw (is.0, is.1) (e ∙ ap (tells old) (fetch_is t c n s d))
by_outcome t c n s (outcome.Failed causes.Mismatch) tried why old new is d p st e =
    rw (is.0, is.1) (e ∙ ap (tells old) (both_are t c n s [] d (p refl)))
by_outcome t c n s (outcome.Failed causes.Store) tried why old new is d p st e =
    rw (is.0, is.1) (e ∙ ap (tells old) (all_are t c n s d (p refl) (st tt)))
by_outcome t c n s outcome.Idle tried why old new is d p st e = rw is e
by_outcome t c n s (outcome.Retried r) tried why old new is d p st e = rw is e
by_outcome t c n s (outcome.Spared k) tried why old new is d p st e = rw is e
by_outcome t c n s outcome.Stopped tried why old new is d p st e = rw is e

-- ---- a sealed packet came back from the silicon as it was

stored_tried : (came : Outcome) (tried : Bool) (why : Option Cause) → IsStored came
    → IsTriedAs came tried why → tried ≡ true
stored_tried outcome.Committed tried why st is = is.0
stored_tried outcome.Idle tried why st is = absurd st
stored_tried (outcome.Failed causes.Fetch) tried why st is = absurd st
stored_tried (outcome.Failed causes.Mismatch) tried why st is = absurd st
stored_tried (outcome.Failed causes.Store) tried why st is = is.0
stored_tried (outcome.Retried r) tried why st is = absurd st
stored_tried (outcome.Spared k) tried why st is = absurd st
stored_tried outcome.Stopped tried why st is = absurd st

stored_same : (came : Outcome) (ls : List Strike) (c n : ℕ) → IsStored came
    → why_by came (cause ls c n) ≡ cause ls c n → same_masks ls c n ≡ true
stored_same outcome.Committed ls c n st e = same_if_none ls c n (sym e)
stored_same outcome.Idle ls c n st e = absurd st
stored_same (outcome.Failed causes.Fetch) ls c n st e = absurd st
stored_same (outcome.Failed causes.Mismatch) ls c n st e = absurd st
stored_same (outcome.Failed causes.Store) ls c n st e = same_if_store ls c n (sym e)
stored_same (outcome.Retried r) ls c n st e = absurd st
stored_same (outcome.Spared k) ls c n st e = absurd st
stored_same outcome.Stopped ls c n st e = absurd st

stored_calls : (came : Outcome) → IsStored came → calls_of came ≡ 1
stored_calls outcome.Committed st = refl
stored_calls outcome.Idle st = absurd st
stored_calls (outcome.Failed causes.Fetch) st = absurd st
stored_calls (outcome.Failed causes.Mismatch) st = absurd st
stored_calls (outcome.Failed causes.Store) st = refl
stored_calls (outcome.Retried r) st = absurd st
stored_calls (outcome.Spared k) st = absurd st
stored_calls outcome.Stopped st = absurd st

came_back : (z : Chip) (c : CoreNo) (s : Setting) (a b : UnitView) → AllInRange z.lines
    → ((j : ℕ) → j < 512 → mask_byte z.lines c.0 A (z.begun c.0) j ≡ 0)
    → passed_a (next_trial z c s a b) ≡ bytes_in a.last
unfolding passed_a
came_back z c s a b form none =
    unstruck z.lines c.0 (z.begun c.0) (bytes_in a.last) form none

-- ---- a CPU whose core runs

attempt_number : (ls : List Strike) (g : Sight) (s : Fate) (i : ℕ)
    → s.begun (s.cores.core i) ≡ (met ls g s i).attempt
unfolding met
attempt_number ls g s i = refl

setting_is : (m : Machine) (i : ℕ) (k : RunningCore) (bytes : List ℕ) (seen : Side)
    → m.registers i ≡ k.registers → SeenBy m i bytes seen
    → setting k.registers i bytes seen ≡ setting_of m i
setting_is m i k bytes seen own of = rw (own, of.storage, of.side) refl

handed_running : (c : Config) (n : ℕ) (cpu : CpuNo) (k : RunningCore) (z : Chip)
    (bytes : List ℕ) (seen : Side) (p : CorePool) (x : Model) (a b : UnitView) (came : Outcome)
    (old new : Tape) → IsBefore c n cpu (Running k) z bytes seen p x
    → IsTriedAs came (tries (x.fate.cores.mode cpu.0)
    (met z.lines (sight x.machine cpu.0) x.fate cpu.0))
    (met z.lines (sight x.machine cpu.0) x.fate cpu.0).cause
    → why_met z (Running k) came ≡ next_cause z k.core.0
    → AnswersDue (Running k) cpu.0 bytes seen came a
    → AnswersDue (Running k) cpu.0 bytes seen came b
    → HandsIn (Running k) z cpu.0 bytes seen a b came old new
    → new ≡ tells old (hands z.lines x (Turns cpu))
unfolding hands
handed_running c n cpu k z bytes seen p x a b came old new before tried sure due_a due_b e =
    let i : ℕ = cpu.0 in
    let s : Cores = x.fate.cores in
    let g : Sight = sight x.machine i in
    let y : Met = met z.lines g x.fate i in
    let own : Setting = setting k.registers i bytes seen in
    let t : Trial = next_trial z k.core own a b in
    let held = before.at.held in
    let live : is_lost (s.mode i) ≡ false = ap is_lost held.0 in
    let small = live_small (Running k) s i held before.there live in
    let same : own ≡ setting_of x.machine i =
    setting_is x.machine i k bytes seen before.at.registers before.seen_by in
    let packets : calls_of came ≡ 1 → HasPackets t (setting_of x.machine i) =
    λ one. record {
      a = due_a one ∙ ap packet_due same;
      b = due_b one ∙ ap packet_due same;
    } in
    by_outcome t (core_no (s.core i)) y.attempt (setting_of x.machine i) came (tries (s.mode i) y)
    y.cause old new tried
    (record {
      core = sym (ap core_no held.1);
      number = ap z.begun (sym held.1) ∙ before.begun (s.core i) small
          ∙ attempt_number z.lines g x.fate i;
      latch = ap fetch_latch same;
    })
    packets
    (λ stored.
    let more = tried_begun z.lines c.threshold g x.fate i held.0
    (stored_tried came (tries (s.mode i) y) y.cause stored tried) in
    let within = within_begun c n cpu (Running k) z bytes seen p x before live more in
    let masks = within.masks
    (stored_same came z.lines k.core.0 (z.begun k.core.0) stored sure) in
    came_back z k.core own a b before.form.ranges masks ∙ (packets (stored_calls came stored)).a)
    e

-- ---- any CPU

quiet : (c : Config) (cpu : CpuNo) (z : Chip) (x : Model) (m : Mode) (old new : Tape)
    → x.fate.cores.mode cpu.0 ≡ m
    → tries m (met z.lines (sight x.machine cpu.0) x.fate cpu.0) ≡ false → new ≡ old
    → new ≡ tells old (hands z.lines x (Turns cpu))
unfolding hands
quiet c cpu z x m old new is none e =
    let y : Met = met z.lines (sight x.machine cpu.0) x.fate cpu.0 in
    let off : tries (x.fate.cores.mode cpu.0) y ≡ false = ap (λ (q : Mode). tries q y) is ∙ none in
    rw off e

pub handed : (c : Config) (n : ℕ) (cpu : CpuNo) (h h2 : Held) (z : Chip) (bytes : List ℕ)
    (seen : Side) (p p2 : CorePool) (x : Model) (a b : UnitView) (es : List Entry)
    (came : Outcome) (old new : Tape) → IsBefore c n cpu h z bytes seen p x
    → IsRow n cpu.0 (x.fate.cores.core cpu.0) (did z c x cpu.0) es came h2 p2
    → why_met z h came ≡ next_cause z (core_of h)
    → AnswersDue h cpu.0 bytes seen came a → AnswersDue h cpu.0 bytes seen came b
    → HandsIn h z cpu.0 bytes seen a b came old new
    → new ≡ tells old (hands z.lines x (Turns cpu))
handed c n cpu (Running k) h2 z bytes seen p p2 x a b es came old new before row sure da db e =
    let y : Met = met z.lines (sight x.machine cpu.0) x.fate cpu.0 in
    handed_running c n cpu k z bytes seen p x a b came old new before
    (subst (λ (o : Outcome). IsTriedAs o (tries (x.fate.cores.mode cpu.0) y) y.cause)
    (sym row.outcome) (tried_as c.threshold x.fate.cores cpu.0 y before.at.held.0)) sure da db e
handed c n cpu (Recovering k) h2 z bytes seen p p2 x a b es came old new before row sure da db e =
    quiet c cpu z x mode.Recovering old new before.at.held.0 refl e
handed c n cpu (Lost q r) h2 z bytes seen p p2 x a b es came old new before row sure da db e =
    quiet c cpu z x mode.Lost old new before.at.held.0 refl e
handed c n cpu Taken h2 z bytes seen p p2 x a b es came old new before row sure da db e =
    absurd before.there
