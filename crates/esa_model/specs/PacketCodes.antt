-- How interruptions, what is taken, keys and orders are written as numbers in a packet, and read from it.
-- Source: choice of this project. A number that is none of these is nothing.
use Rattle.std.specs.Prelude.{ℕ, ◌==◌, if◌then◌else◌, Option, Some, None}
use Rattle.esa_model.specs.declared.events.Interruption.{Interruption}
use Rattle.esa_model.specs.declared.events.Interruption.TheVariants.{Program, SupervisorCall, External, Restart}
use Rattle.esa_model.specs.declared.events.KeySet.{KeySet}
use Rattle.esa_model.specs.declared.events.SentOrder.{SentOrder}
use Rattle.esa_model.specs.declared.events.Taken.{Taken}
use Rattle.esa_model.specs.declared.events.Taken.TheVariants as taking
use Rattle.esa_model.specs.declared.machine.Request.{Request}
use Rattle.esa_model.specs.declared.machine.Request.TheVariants.{Key, Malfunction, Emergency, ExternalCall, Comparator, Timer}
use Rattle.esa_model.specs.Bus.{cpu_no}
use Rattle.esa_model.specs.Event.{sender_of}

-- ---- interruptions

abbrev pub interruption_number : Option Interruption → ℕ
interruption_number None = 0
interruption_number (Some Program) = 1
interruption_number (Some SupervisorCall) = 2
interruption_number (Some External) = 3
interruption_number (Some Restart) = 4

abbrev pub interruption_of : ℕ → Option Interruption
interruption_of n =
    if n == 1 then Some Program else
    if n == 2 then Some SupervisorCall else
    if n == 3 then Some External else
    if n == 4 then Some Restart else None

-- ---- what is taken, and the CPU that sent it

abbrev pub request_number : Request → ℕ
request_number Key = 1
request_number (Malfunction c) = 2
request_number (Emergency c) = 3
request_number (ExternalCall c) = 4
request_number Comparator = 6
request_number Timer = 7

abbrev pub taken_number : Option Taken → ℕ
taken_number None = 0
taken_number (Some (taking.Request q)) = request_number q
taken_number (Some taking.Restart) = 5

abbrev pub taken_sender : Option Taken → ℕ
taken_sender None = 0
taken_sender (Some (taking.Request q)) = sender_of q
taken_sender (Some taking.Restart) = 0

-- the sender of the key, of a restart and of the clock's requests is not looked at
abbrev pub taken_of : ℕ → ℕ → Option Taken
taken_of n sender =
    if n == 1 then Some (taking.Request Key) else
    if n == 2 then Some (taking.Request (Malfunction (cpu_no sender))) else
    if n == 3 then Some (taking.Request (Emergency (cpu_no sender))) else
    if n == 4 then Some (taking.Request (ExternalCall (cpu_no sender))) else
    if n == 5 then Some taking.Restart else
    if n == 6 then Some (taking.Request Comparator) else
    if n == 7 then Some (taking.Request Timer) else None

-- ---- a key that is set: block X'FFFF' is none

abbrev pub key_block : Option KeySet → ℕ
key_block None = 0xFFFF
key_block (Some k) = k.block

abbrev pub key_byte : Option KeySet → ℕ
key_byte None = 0
key_byte (Some k) = k.key

abbrev pub key_set_of : ℕ → ℕ → Option KeySet
key_set_of block key = if block == 0xFFFF then None else Some (record { block = block; key = key })

-- ---- an order to another CPU: CPU X'FF' and order 0 for none

abbrev pub order_number : Option SentOrder → ℕ
order_number None = 0
order_number (Some o) = o.order

abbrev pub order_target : Option SentOrder → ℕ
order_target None = 0xFF
order_target (Some o) = o.to
