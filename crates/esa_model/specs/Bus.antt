-- States of CPUs and the requests that are pending at them; the orders of SIGNAL PROCESSOR.
-- Source: Principles of Operation, chapters on interruptions (external) and on control (CPU signaling and response).
-- That orders take effect at the sender's commit, and that orders other than 1 to 6 are invalid, are choices of this project.
use Rattle.std.specs.Prelude.{ℕ, ◌+◌, ◌==◌, nat_lt, if◌then◌else◌, List, [], ◌∷◌, true, false, Option, Some, None, length, replicate, slice_get, slice_set}
use Rattle.std.specs.Option.{unwrap_or}
use Rattle.esa_model.specs.declared.machine.CpuNo.{CpuNo}
use Rattle.esa_model.specs.declared.machine.CpuState.{CpuState}
use Rattle.esa_model.specs.declared.machine.CpuState.TheVariants.{Operating, Stopped, CheckStop}
use Rattle.esa_model.specs.declared.machine.Request.{Request}
use Rattle.esa_model.specs.declared.machine.Request.TheVariants.{Key, Malfunction, Emergency, ExternalCall, Comparator, Timer}
use Rattle.esa_model.specs.declared.machine.Signals.{Signals}
use Rattle.esa_model.specs.declared.events.SentOrder.{SentOrder}
use Rattle.esa_model.specs.declared.events.Taken.{Taken}
use Rattle.esa_model.specs.declared.events.Taken.TheVariants as taking

-- a CPU's number as the code has it
abbrev pub cpu_no : ℕ → CpuNo
cpu_no k = record { 0 = k }

-- nothing pending
abbrev pub quiet : CpuState → Signals
quiet state = record {
  state = state;
  restart = false;
  key = false;
  malfunction = replicate 8 false;
  emergency = replicate 8 false;
  external_call = None;
}

-- the signals of a CPU; one that is not there is check-stopped with nothing pending
unfoldable pub signals_of : List Signals → ℕ → Signals
signals_of bus i = unwrap_or (slice_get bus i) (quiet CheckStop)

-- the bus with other signals at a CPU; one that is not there is passed over
abbrev pub with_signals : List Signals → ℕ → Signals → List Signals
with_signals bus i s = slice_set bus i s

-- an external call of one sender is no longer pending
abbrev pub call_without : ℕ → Option CpuNo → Option CpuNo
call_without sender None = None
call_without sender (Some c) = if c.0 == sender then None else Some c

-- a request that is taken is no longer pending; the clock's and the timer's are not signals, and stay as long as they hold
abbrev pub without : Request → Signals → Signals
without Key s = record s { key = false }
without (Malfunction c) s = record s { malfunction = slice_set s.malfunction c.0 false }
without (Emergency c) s = record s { emergency = slice_set s.emergency c.0 false }
without (ExternalCall c) s = record s { external_call = call_without c.0 s.external_call }
without Comparator s = s
without Timer s = s

-- what is taken; a restart that is taken makes the CPU operating
abbrev pub after_taking : Option Taken → Signals → Signals
after_taking None s = s
after_taking (Some (taking.Request q)) s = without q s
after_taking (Some taking.Restart) s = record s { restart = false; state = Operating }

unfoldable pub taken : Option Taken → ℕ → List Signals → List Signals
taken t i bus = with_signals bus i (after_taking t (signals_of bus i))

-- an order that was accepted: 2 external call, 3 emergency signal, 4 start, 5 stop, 6 restart; any other does nothing
abbrev pub ordered : ℕ → ℕ → Signals → Signals
ordered order sender s =
    if order == 2 then record s { external_call = Some (cpu_no sender) } else
    if order == 3 then record s { emergency = slice_set s.emergency sender true } else
    if order == 4 then record s { state = Operating } else
    if order == 5 then record s { state = Stopped } else
    if order == 6 then record s { restart = true } else s

unfoldable pub signalled : ℕ → ℕ → ℕ → List Signals → List Signals
signalled order sender to bus = with_signals bus to (ordered order sender (signals_of bus to))

-- an order that an event of a CPU sends, if it sends one
abbrev pub after_sending : Option SentOrder → ℕ → List Signals → List Signals
after_sending None sender bus = bus
after_sending (Some o) sender bus = signalled o.order sender o.to bus

-- the interrupt key
unfoldable pub keyed : ℕ → List Signals → List Signals
keyed i bus = with_signals bus i (record (signals_of bus i) { key = true })

-- a malfunction alert of CPU i, pending at each CPU from number k on but i itself, which is check-stopped
abbrev pub alerted : ℕ → ℕ → List Signals → List Signals
alerted i k [] = []
alerted i k (s ∷ ss) =
    (if k == i then record s { state = CheckStop } else record s { malfunction = slice_set s.malfunction i true }) ∷ alerted i (k + 1) ss

unfoldable pub check_stopped : ℕ → List Signals → List Signals
check_stopped i bus = if nat_lt i (length bus) then alerted i 0 bus else bus
