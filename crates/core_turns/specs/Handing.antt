-- What a turn of a CPU hands in to the silicon, what its attempt finds, and how often it calls the two
-- units. Source: choice of this project.
use Rattle.std.specs.Prelude.{⊤, ◌≡◌, ℕ, List, [], ◌∷◌, Bool, true, false, Option, Some, None}
use Rattle.esa_model.specs.Line.{Side}
use Rattle.esa_model.specs.Machine.{Machine, side_of}
use Rattle.run_model.specs.Cores.{Met}
use Rattle.run_model.specs.Fate.{met, sight}
use Rattle.run_model.specs.Runs.{Model}
use Rattle.run_model.specs.Script.{core_no}
use Rattle.run_model.specs.declared.faults.Cause.{Cause}
use Rattle.run_model.specs.declared.faults.Cause.TheVariants.{Fetch, Mismatch, Store}
use Rattle.run_model.specs.declared.faults.CoreNo.{CoreNo}
use Rattle.run_model.specs.declared.faults.Mode.{Mode}
use Rattle.run_model.specs.declared.faults.Mode.TheVariants as mode
use Rattle.run_model.specs.declared.faults.Strike.{Strike}
use Rattle.run_model.specs.declared.faults.Unit.TheVariants.{A, B}
use Rattle.run_model.specs.declared.schedules.RunKind.{RunKind}
use Rattle.run_model.specs.declared.schedules.RunKind.TheVariants.{Turns, Key, Return}
use Rattle.silicon.specs.Chip.{Chip}
use Rattle.silicon.specs.Tape.{Tape, tells}
use Rattle.silicon.specs.declared.handed.Handed.{Handed}
use Rattle.silicon.specs.declared.handed.Handed.TheVariants as handed
use Rattle.core_states.specs.Trial.{Setting, Trial, FailsBy, bytes_in, hands_by, calls_by, fetch_latch, next_trial, packet_due, setting, store_latch}
use Rattle.twin_units.specs.Results.{UnitView}
use Rattle.core_turns.specs.declared.held.Held.{Held}
use Rattle.core_turns.specs.declared.held.Held.TheVariants.{Running, Recovering, Lost, Taken}
use Rattle.core_turns.specs.declared.outcomes.Outcome.{Outcome}
use Rattle.core_turns.specs.declared.outcomes.Outcome.TheVariants.{Committed, Idle, Failed, Retried, Spared, Stopped}

-- an attempt that was made failed for its cause, or for none
abbrev pub FoundBy : Trial → Outcome → Type 0
FoundBy t Committed = FailsBy t None
FoundBy t Idle = ⊤
FoundBy t (Failed why) = FailsBy t (Some why)
FoundBy t (Retried r) = ⊤
FoundBy t (Spared k) = ⊤
FoundBy t Stopped = ⊤

-- what it handed in, in its order; a turn without an attempt hands in nothing
abbrev pub hands_in : Trial → Outcome → List Handed
hands_in t Committed = hands_by t None
hands_in t Idle = []
hands_in t (Failed why) = hands_by t (Some why)
hands_in t (Retried r) = []
hands_in t (Spared k) = []
hands_in t Stopped = []

-- each of the two units makes so many calls: one where the fetch latch came back good
abbrev pub calls_of : Outcome → ℕ
calls_of Committed = calls_by None
calls_of Idle = 0
calls_of (Failed why) = calls_by (Some why)
calls_of (Retried r) = 0
calls_of (Spared k) = 0
calls_of Stopped = 0

-- no attempt was made that ended
abbrev pub IsWithoutAttempt : Outcome → Type 0
IsWithoutAttempt Committed = ⊥
IsWithoutAttempt Idle = ⊤
IsWithoutAttempt (Failed why) = ⊥
IsWithoutAttempt (Retried r) = ⊤
IsWithoutAttempt (Spared k) = ⊤
IsWithoutAttempt Stopped = ⊤

-- the attempt is the next one of the CPU's core, which runs with its registers; a and b are the units
-- after it
abbrev pub Finds :
    Held → Chip → ℕ → List ℕ → Side → UnitView → UnitView → Outcome → Type 0
Finds (Running k) z i storage side a b came =
    FoundBy (next_trial z k.core (setting k.registers i storage side) a b) came
Finds (Recovering k) z i storage side a b came = ⊤
Finds (Lost c retries) z i storage side a b came = ⊤
Finds Taken z i storage side a b came = ⊤

abbrev pub HandsIn :
    Held → Chip → ℕ → List ℕ → Side → UnitView → UnitView → Outcome → Tape → Tape → Type 0
HandsIn (Running k) z i storage side a b came old new =
    new ≡ tells old
    (hands_in (next_trial z k.core (setting k.registers i storage side) a b) came)
HandsIn (Recovering k) z i storage side a b came old new = new ≡ old
HandsIn (Lost c retries) z i storage side a b came old new = new ≡ old
HandsIn Taken z i storage side a b came old new = new ≡ old

-- where the turn called this unit, it answered the packet of what was due
abbrev pub AnswersDue : Held → ℕ → List ℕ → Side → Outcome → UnitView → Type 0
AnswersDue (Running k) i storage side came u =
    calls_of came ≡ 1 → bytes_in u.last ≡ packet_due (setting k.registers i storage side)
AnswersDue (Recovering k) i storage side came u = ⊤
AnswersDue (Lost c retries) i storage side came u = ⊤
AnswersDue Taken i storage side came u = ⊤

-- ---- what a turn hands in by the definitions

-- whether a turn on a running core makes an attempt: not where the CPU is idle, and not where the
-- words of the core are read first and one is lost
abbrev pub tries_by : Bool → Bool → Option ℕ → Bool
tries_by true scrubs lost = false
tries_by false true (Some w) = false
tries_by false true None = true
tries_by false false lost = true

abbrev pub tries : Mode → Met → Bool
tries mode.Running t = tries_by t.waits t.scrubs t.reading.lost
tries mode.Recovering t = false
tries mode.Lost t = false

-- what CPU i of a machine computes with
abbrev pub setting_of : Machine → ℕ → Setting
setting_of m i = setting (m.registers i) i m.storage (side_of m)

-- the sealed fetch latch, and the packet of what is due, once from each unit
abbrev pub both_packets : CoreNo → ℕ → Setting → List Handed → List Handed
both_packets c n s rest =
    handed.Fetch c n (fetch_latch s)
    ∷ handed.Packet c n A (packet_due s)
    ∷ handed.Packet c n B (packet_due s)
    ∷ rest

-- and the sealed store latch of that packet
abbrev pub with_store : CoreNo → ℕ → Setting → List Handed
with_store c n s = both_packets c n s (handed.Store c n (store_latch (packet_due s)) ∷ [])

-- attempt n of core c, by why it fails: a latch that comes back bad ends it, and so do packets that
-- differ
abbrev pub attempt_hands : CoreNo → ℕ → Setting → Option Cause → List Handed
attempt_hands c n s (Some Fetch) = handed.Fetch c n (fetch_latch s) ∷ []
attempt_hands c n s (Some Mismatch) = both_packets c n s []
attempt_hands c n s (Some Store) = with_store c n s
attempt_hands c n s None = with_store c n s

abbrev pub hands_if : Bool → List Handed → List Handed
hands_if true hs = hs
hands_if false hs = []

abbrev pub cpu_hands : Model → ℕ → Met → List Handed
cpu_hands x i t = hands_if (tries (x.fate.cores.mode i) t)
    (attempt_hands (core_no (x.fate.cores.core i)) t.attempt (setting_of x.machine i) t.cause)

-- what a turn hands in to the silicon, in its order
unfoldable pub hands : List Strike → Model → RunKind → List Handed
hands ls x (Turns i) = cpu_hands x i.0 (met ls (sight x.machine i.0) x.fate i.0)
hands ls x (Key i) = []
hands ls x (Return k) = []
