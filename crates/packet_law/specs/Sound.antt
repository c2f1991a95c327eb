-- What the law asks of an event beside the width of its numbers.
-- Source: choice of this project: what a packet has room for, and what is told apart in it.
use Rattle.std.specs.Prelude.{◌≡◌, ◌⊎◌, ℕ, ◌+◌, ◌<◌, ◌≤◌, true, List, [], length, Option, Some, None}
use Rattle.esa_model.specs.declared.events.SentOrder.{SentOrder}
use Rattle.esa_model.specs.declared.machine.Signals.{Signals}
use Rattle.esa_model.specs.Access.{place}
use Rattle.esa_model.specs.Bus.{taken}
use Rattle.esa_model.specs.SigpAnswers.{answer_of}
use Rattle.esa_model.specs.Unit.{Done}
use Rattle.esa_model.specs.Machine.{Machine}
use Rattle.esa_model.specs.Packet.{Fields, fields, packet}
use Rattle.row_frame.specs.Made.{ReadsConsole, SetsKey}

-- an order of a sender that is there, and that the bus accepts
pub record IsTaken (order i to : ℕ) (bus : List Signals) : Type 0 where
  pub sender : i < length bus
  pub accepted : (answer_of bus to order).accepted ≡ true

-- no order, or one that is taken
abbrev pub IsSent : Option SentOrder → ℕ → List Signals → Type 0
IsSent None i bus = Unit {0}
IsSent (Some o) i bus = IsTaken o.order i o.to bus

-- an event of CPU i whose stored bytes lie in the storage and are at most 256, which stores or writes to the console or
-- neither, which references at most eight blocks, and whose key and order, if any, are told apart from none and taken
pub record IsSound (m : Machine) (i : ℕ) (d : Done) : Type 0 where
  pub stored : length d.stored ≤ 256
  pub inside : (k : ℕ) → k < length d.stored → place (m.registers i) (d.to + k) < length m.storage
  pub written : length d.console_out ≤ 256
  pub one : (d.stored ≡ []) ⊎ (d.console_out ≡ [])
  pub read : ReadsConsole d.console_in (length m.console) d.console_out
  pub blocks : length d.blocks ≤ 8
  pub key : SetsKey d.set_key
  pub order : IsSent d.sent i (taken d.taken i m.bus)

-- the fields of an event of CPU i, and its packet
abbrev pub fields_at : Machine → ℕ → Done → Fields
fields_at m i d = fields (m.registers i) d m.storage

abbrev pub packet_at : Machine → ℕ → Done → List ℕ
packet_at m i d = packet (m.registers i) d m.storage
