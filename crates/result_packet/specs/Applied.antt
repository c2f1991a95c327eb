-- What a packet makes of each part of the machine, part by part.
-- Source: choice of this project; the parts are those of `carried_out`.
use Rattle.std.specs.Prelude.{ℕ, List, length, drop}
use Rattle.esa_model.specs.declared.machine.Registers.{Registers}
use Rattle.esa_model.specs.declared.machine.Signals.{Signals}
use Rattle.esa_model.specs.Bus.{taken}
use Rattle.esa_model.specs.SigpAnswers.{after_order}
use Rattle.esa_model.specs.Machine.{swap_stored, swap_changed, with_key}
use Rattle.esa_model.specs.Packet.{Fields}
use Rattle.esa_model.specs.PacketCodes.{interruption_of, taken_of, key_set_of}
use Rattle.esa_model.specs.Apply.{piece, piece_keys, first_bytes, second_bytes, applied_keys, console_in}

-- the keys after all that it stores and references, and with the key that it sets
abbrev pub keys_left : Registers → Fields → ℕ → List ℕ → List ℕ
keys_left r f size keys = with_key (key_set_of f.block f.key) (applied_keys r f size keys)

abbrev pub bus_left : ℕ → Fields → List Signals → List Signals
bus_left cpu f bus = after_order f.order cpu f.order_to (taken (taken_of f.request f.sender) cpu bus)

abbrev pub console_left : Fields → List ℕ → List ℕ
console_left f console = drop (console_in f (length console)) console

-- the storage and the keys after the two pieces
abbrev pub pieces_stored : Fields → List ℕ → List ℕ
pieces_stored f storage = piece f.second_at (second_bytes f) (piece f.first_at (first_bytes f) storage)

abbrev pub pieces_changed : Fields → ℕ → List ℕ → List ℕ
pieces_changed f size keys = piece_keys size f.second_at (second_bytes f) (piece_keys size f.first_at (first_bytes f) keys)

-- the storage and the keys after what an interruption stores
abbrev pub interruption_stored : Registers → Fields → List ℕ → List ℕ
interruption_stored r f storage = swap_stored r (interruption_of f.kind) f.old f.identification storage

abbrev pub interruption_changed : Registers → Fields → ℕ → List ℕ → List ℕ
interruption_changed r f size keys = swap_changed r (interruption_of f.kind) f.old f.identification size keys
