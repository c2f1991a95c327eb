-- What SIGNAL PROCESSOR answers to an order, and what an order does.
-- Source: Principles of Operation, chapter on control (CPU signaling and response). That orders other than 1 to 6 are
-- invalid, that an order to a check-stopped CPU answers check stop, and the order of the cases are choices of this project.
use Rattle.std.specs.Prelude.{ℕ, ◌+◌, ◌==◌, ◌&&◌, ◌||◌, nat_lt, nat_le, if◌then◌else◌, List, Bool, true, false, is_some, length}
use Rattle.esa_model.specs.declared.machine.Signals.{Signals}
use Rattle.esa_model.specs.declared.machine.CpuState.{CpuState}
use Rattle.esa_model.specs.declared.machine.CpuState.TheVariants.{Operating, Stopped, CheckStop}
use Rattle.esa_model.specs.declared.signalling.SigpAnswer.{SigpAnswer}
use Rattle.esa_model.specs.Bus.{signals_of, signalled}

-- X'40' stopped, X'10' check stop
abbrev pub state_status : CpuState → ℕ
state_status Operating = 0
state_status Stopped = 0x40
state_status CheckStop = 0x10

-- X'80' external call pending
abbrev pub call_status : Signals → ℕ
call_status s = if is_some s.external_call then 0x80 else 0

abbrev pub is_check_stopped : CpuState → Bool
is_check_stopped Operating = false
is_check_stopped Stopped = false
is_check_stopped CheckStop = true

-- a status that is stored
abbrev pub stored : ℕ → SigpAnswer
stored status = record { cc = 1; status = status; accepted = false }

abbrev pub accepted : SigpAnswer
accepted = record { cc = 0; status = 0; accepted = true }

-- a sense that finds nothing stores nothing and is accepted
abbrev pub sensed : Signals → SigpAnswer
sensed s = let status = call_status s + state_status s.state in if status == 0 then accepted else stored status

-- an order: 1 sense, 2 external call, 3 emergency signal, 4 start, 5 stop, 6 restart
unfoldable pub answer_in : Signals → ℕ → SigpAnswer
answer_in s order =
    if nat_lt order 1 || nat_lt 6 order then stored 2 else
    if order == 1 then sensed s else
    if is_check_stopped s.state then stored 0x10 else
    if order == 2 && is_some s.external_call then stored 0x80 else accepted

-- the answer to an order to a CPU; there may be no CPU of that number
unfoldable pub answer_of : List Signals → ℕ → ℕ → SigpAnswer
answer_of bus to order =
    if nat_le (length bus) to then record { cc = 3; status = 0; accepted = false } else answer_in (signals_of bus to) order

-- the bus after an order: one that is not accepted, and one of a sender that is not there, changes nothing
unfoldable pub after_order : ℕ → ℕ → ℕ → List Signals → List Signals
after_order order from to bus =
    if nat_lt from (length bus) && (answer_of bus to order).accepted then signalled order from to bus else bus
