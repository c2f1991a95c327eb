-- The request that is taken, put together from one sort of requests after the other.
-- Source: Principles of Operation, chapter on interruptions (external); the order of the sorts is that of `requests`.
use Rattle.std.specs.Prelude.{ℕ, ◌&&◌, if◌then◌else◌, List, Bool, Option, Some, None, find}
use Rattle.std.specs.List.{position_from}
use Rattle.std.specs.Option.{unwrap_or}
use Rattle.esa_model.specs.declared.events.Interruption.{Interruption}
use Rattle.esa_model.specs.declared.events.Interruption.TheVariants as interruption
use Rattle.esa_model.specs.declared.machine.CpuNo.{CpuNo}
use Rattle.esa_model.specs.declared.machine.Registers.{Registers}
use Rattle.esa_model.specs.declared.machine.Signals.{Signals}
use Rattle.esa_model.specs.declared.machine.Request.{Request}
use Rattle.esa_model.specs.declared.machine.Request.TheVariants.{ExternalCall}
use Rattle.esa_model.specs.declared.machine.Due.{Due}
use Rattle.esa_model.specs.declared.machine.Due.TheVariants.{Idle, Restart, UnitOfOperation}
use Rattle.esa_model.specs.Bus.{cpu_no}
use Rattle.esa_model.specs.Psw.{is_waiting}
use Rattle.esa_model.specs.Event.{masked, mask_bit, requests}
use Rattle.esa_model.specs.PacketCodes.{interruption_of}

-- the first request that is pending and that its bit of control register 0 enables
unfoldable pub first_unmasked : ℕ → List ℕ → ℕ → Signals → Option Request
first_unmasked cr0 words clock s = find (λ q. masked cr0 (mask_bit q)) (requests words clock s)

-- a request without a sender that holds and is enabled, or something else
abbrev pub one_or : Request → Bool → Bool → Option Request → Option Request
one_or q on holds otherwise = if on && holds then Some q else otherwise

abbrev pub sender_or : (CpuNo → Request) → Option ℕ → Option Request → Option Request
sender_or sort None otherwise = otherwise
sender_or sort (Some k) otherwise = Some (sort (cpu_no k))

-- a request of the lowest CPU that sent one of a sort that is enabled, or something else
abbrev pub sent_or : Bool → (CpuNo → Request) → List Bool → Option Request → Option Request
sent_or on sort flags otherwise = if on then sender_or sort (position_from (λ b. b) 0 flags) otherwise else otherwise

abbrev pub from_sender : Option CpuNo → Option Request → Option Request
from_sender None otherwise = otherwise
from_sender (Some c) otherwise = Some (ExternalCall c)

-- the external call, where it is enabled, or something else
abbrev pub call_or : Bool → Option CpuNo → Option Request → Option Request
call_or on pending otherwise = if on then from_sender pending otherwise else otherwise

-- what an operating CPU does where no external request is taken
abbrev pub without_request : Registers → Signals → Due
without_request r s = if s.restart then Restart else if is_waiting r.psw then Idle else UnitOfOperation

-- the interruption of a packet's number; the number of none has the places of a restart
abbrev pub kind_of : ℕ → Interruption
kind_of kind = unwrap_or (interruption_of kind) interruption.Restart
