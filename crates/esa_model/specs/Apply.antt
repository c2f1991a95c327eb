-- Carrying out what a packet says, whatever its 512 bytes are.
-- Source: choice of this project. What lies outside its range is ignored.
use Rattle.std.specs.Prelude.{ℕ, ◌+◌, ◌/◌, ◌==◌, nat_le, ◌&&◌, Bool, if◌then◌else◌, List, [], ◌∷◌, ◌++◌, take, drop, length, slice_set}
use Rattle.esa_model.specs.declared.machine.Registers.{Registers}
use Rattle.esa_model.specs.Bus.{taken}
use Rattle.esa_model.specs.SigpAnswers.{after_order}
use Rattle.esa_model.specs.Machine.{Machine, at, swap_stored, swap_changed, reference_all, with_key, with_change, key_at}
use Rattle.esa_model.specs.Packet.{Fields, read}
use Rattle.esa_model.specs.PacketCodes.{interruption_of, taken_of, key_set_of}

-- bytes stored from an absolute address on, and the keys of their blocks
abbrev pub put_all : ℕ → List ℕ → List ℕ → List ℕ
put_all a [] storage = storage
put_all a (x ∷ xs) storage = put_all (a + 1) xs (slice_set storage a x)

-- bytes to be stored from an absolute address on
pub record Piece : Type 0 where
  pub at : ℕ
  pub bytes : List ℕ

-- the storage after pieces are stored in their order
abbrev pub stored_all : List Piece → List ℕ → List ℕ
stored_all [] storage = storage
stored_all (p ∷ ps) storage = stored_all ps (put_all p.at p.bytes storage)

abbrev pub change_all : ℕ → List ℕ → List ℕ → List ℕ
change_all a [] keys = keys
change_all a (x ∷ xs) keys = change_all (a + 1) xs (slice_set keys (a / 4096) (with_change (key_at keys (a / 4096))))

-- a piece that is not wholly inside is passed over
abbrev pub fits : ℕ → ℕ → List ℕ → Bool
fits size a xs = nat_le (a + length xs) size

abbrev pub piece : ℕ → List ℕ → List ℕ → List ℕ
piece a xs storage = if fits (length storage) a xs then put_all a xs storage else storage

abbrev pub piece_keys : ℕ → ℕ → List ℕ → List ℕ → List ℕ
piece_keys size a xs keys = if fits size a xs then change_all a xs keys else keys

-- the bytes of a piece end with the packet; those of the second begin after the first one's length
abbrev pub first_bytes : Fields → List ℕ
first_bytes f = take f.first_len f.tail

abbrev pub second_bytes : Fields → List ℕ
second_bytes f = take f.second_len (drop f.first_len f.tail)

-- a count above 8 tells no block
abbrev pub told_blocks : Fields → List ℕ
told_blocks f = if nat_le f.block_count 8 then take f.block_count f.blocks else []

unfoldable pub applied_storage : Registers → Fields → List ℕ → List ℕ
applied_storage r f storage =
    swap_stored r (interruption_of f.kind) f.old f.identification
    (piece f.second_at (second_bytes f) (piece f.first_at (first_bytes f) storage))

unfoldable pub applied_keys : Registers → Fields → ℕ → List ℕ → List ℕ
applied_keys r f size keys =
    swap_changed r (interruption_of f.kind) f.old f.identification size
    (piece_keys size f.second_at (second_bytes f) (piece_keys size f.first_at (first_bytes f) (reference_all (told_blocks f) keys)))

-- bytes for the console: a write of at most 256
abbrev pub console_out : Fields → List ℕ
console_out f = if f.console == 1 && nat_le f.count 256 then take f.count f.tail else []

-- bytes read from the console input: at most 256, and at most those left
abbrev pub console_in : Fields → ℕ → ℕ
console_in f left = if f.console == 2 && (nat_le f.count 256 && nat_le f.count left) then f.count else 0

unfoldable pub carried_out : Machine → ℕ → Fields → Machine
carried_out m i f = record {
  storage = applied_storage (m.registers i) f m.storage;
  keys = with_key (key_set_of f.block f.key) (applied_keys (m.registers i) f (length m.storage) m.keys);
  clock = m.clock;
  console = drop (console_in f (length m.console)) m.console;
  console_read = m.console_read + console_in f (length m.console);
  console_written = m.console_written ++ console_out f;
  bus = after_order f.order i f.order_to (taken (taken_of f.request f.sender) i m.bus);
  registers = at m.registers i f.registers;
}

-- the machine after the 512 bytes of a packet of CPU i
unfoldable pub apply : Machine → ℕ → List ℕ → Machine
apply m i p = carried_out m i (read p)
