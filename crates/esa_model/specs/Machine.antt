-- The state of the machine, its start, and the step that the event that is due makes.
-- Source: Principles of Operation, chapters on storage (keys), interruptions (PSW swaps) and control (prefixing).
-- The start state, the load address and what is done with places outside the storage are choices of this project.
use Rattle.std.specs.Prelude.{ℕ, ◌+◌, ◌*◌, ◌/◌, ◌%◌, ◌^◌, ◌==◌, nat_lt, if◌then◌else◌, List, [], ◌∷◌, ◌++◌, Bool, false, true, Option, Some, None, length, drop, replicate, slice_get, slice_set}
use Rattle.std.specs.Option.{unwrap_or}
use Rattle.std.specs.Int.{w32, to_be_bytes}
use Rattle.esa_model.specs.declared.codes.TheConstants.{SPECIFICATION}
use Rattle.esa_model.specs.declared.events.Interruption.{Interruption}
use Rattle.esa_model.specs.declared.events.Interruption.TheVariants as interruption
use Rattle.esa_model.specs.declared.events.KeySet.{KeySet}
use Rattle.esa_model.specs.declared.events.Taken.TheVariants as taking
use Rattle.esa_model.specs.declared.machine.Psw.{Psw}
use Rattle.esa_model.specs.declared.machine.Registers.{Registers}
use Rattle.esa_model.specs.declared.machine.Request.{Request}
use Rattle.esa_model.specs.declared.machine.Signals.{Signals}
use Rattle.esa_model.specs.declared.machine.Due.{Due}
use Rattle.esa_model.specs.declared.machine.Due.TheVariants.{Idle, Early, External, Restart, UnitOfOperation}
use Rattle.esa_model.specs.Access.{written, place}
use Rattle.esa_model.specs.Bus.{signals_of, taken, after_sending}
use Rattle.esa_model.specs.Line.{Side, word_at}
use Rattle.esa_model.specs.Unit.{Done, interrupted, unit}
use Rattle.esa_model.specs.Event.{due, signals_at_start, request_code, sender_of}
use Rattle.esa_model.specs.Places.{old_at, new_at, identification_at}

-- the whole state: storage bytes, key bytes, the clock, the console input that is left and how many of its bytes were read,
-- the bytes written to the console, and of each CPU its registers, state and pending requests
pub record Machine : Type 0 where
  pub storage : List ℕ
  pub keys : List ℕ
  pub clock : ℕ
  pub console : List ℕ
  pub console_read : ℕ
  pub console_written : List ℕ
  pub bus : List Signals
  pub registers : ℕ → Registers

abbrev pub side_of : Machine → Side
side_of m = record { keys = m.keys; bus = m.bus; console = m.console; clock = m.clock }

-- a function of the number with another value at one number
abbrev pub at : {A : Type 0} → (ℕ → A) → ℕ → A → ℕ → A
at f i x j = if j == i then x else f j

-- ---- the start

unfoldable pub start_registers : ℕ → ℕ → Registers
start_registers entry i = record {
  general = replicate 16 0;
  control = 0x000000E0 ∷ (replicate 13 0 ++ (0xC2000000 ∷ 0 ∷ []));
  psw = if i == 0 then record { w0 = 0x00080000; w1 = 2 ^ 31 + entry } else record { w0 = 0; w1 = 0 };
  prefix = 0;
  clocks = replicate 4 0;
}

-- so many CPUs, a storage image, an entry address and a console input
unfoldable pub start : ℕ → List ℕ → ℕ → List ℕ → Machine
start cpus image entry console = record {
  storage = image;
  keys = replicate (length image / 4096) 0;
  clock = 0;
  console = console;
  console_read = 0;
  console_written = [];
  bus = signals_at_start cpus;
  registers = start_registers entry;
}

-- ---- keys

abbrev pub with_reference : ℕ → ℕ
with_reference key = key / 8 * 8 + 4 + key % 4

abbrev pub with_change : ℕ → ℕ
with_change key = key / 8 * 8 + 6 + key % 2

abbrev pub key_at : List ℕ → ℕ → ℕ
key_at keys b = unwrap_or (slice_get keys b) 0

abbrev pub reference_all : List ℕ → List ℕ → List ℕ
reference_all [] keys = keys
reference_all (b ∷ bs) keys = reference_all bs (slice_set keys b (with_reference (key_at keys b)))

-- the keys, after bytes of the effective addresses from one on were stored; a byte outside is not stored
abbrev pub changed : Registers → ℕ → ℕ → List ℕ → List ℕ → List ℕ
changed r size at [] keys = keys
changed r size at (x ∷ xs) keys =
    let a = place r at in
    changed r size (at + 1) xs (if nat_lt a size then slice_set keys (a / 4096) (with_change (key_at keys (a / 4096))) else keys)

-- ---- interruptions: the old PSW is stored, and then the identification where the kind has one

abbrev pub psw_bytes : Psw → List ℕ
psw_bytes p = to_be_bytes w32 p.w0 ++ to_be_bytes w32 p.w1

abbrev pub identification_bytes : Interruption → ℕ → List ℕ
identification_bytes interruption.Restart identification = []
identification_bytes k identification = to_be_bytes w32 identification

abbrev pub swap_stored : Registers → Option Interruption → Psw → ℕ → List ℕ → List ℕ
swap_stored r None old identification storage = storage
swap_stored r (Some k) old identification storage =
    written r (identification_at k) (identification_bytes k identification) (written r (old_at k) (psw_bytes old) storage)

abbrev pub swap_changed : Registers → Option Interruption → Psw → ℕ → ℕ → List ℕ → List ℕ
swap_changed r None old identification size keys = keys
swap_changed r (Some k) old identification size keys =
    changed r size (identification_at k) (identification_bytes k identification) (changed r size (old_at k) (psw_bytes old) keys)

-- the storage after an event: the operand's bytes, then those of an interruption
unfoldable pub storage_after : Registers → Done → List ℕ → List ℕ
storage_after r d storage = swap_stored r d.interruption d.registers.psw d.identification (written r d.to d.stored storage)

-- the keys after it, but for a key that it sets
unfoldable pub keys_after : Registers → Done → ℕ → List ℕ → List ℕ
keys_after r d size keys =
    swap_changed r d.interruption d.registers.psw d.identification size (changed r size d.to d.stored (reference_all d.blocks keys))

-- the PSW at an effective address
abbrev pub psw_at : Registers → List ℕ → ℕ → Psw
psw_at r storage at = record { w0 = word_at r storage at; w1 = word_at r storage (at + 4) }

-- the PSW after an event: that of an interruption is fetched after all stores
abbrev pub psw_by : Registers → Option Interruption → Psw → List ℕ → Psw
psw_by r None p storage = p
psw_by r (Some k) p storage = psw_at r storage (new_at k)

unfoldable pub psw_after : Registers → Done → List ℕ → Psw
psw_after r d storage = psw_by r d.interruption d.registers.psw (storage_after r d storage)

unfoldable pub registers_after : Registers → Done → List ℕ → Registers
registers_after r d storage = record d.registers { psw = psw_after r d storage }

abbrev pub with_key : Option KeySet → List ℕ → List ℕ
with_key None keys = keys
with_key (Some k) keys = slice_set keys k.block k.key

-- ---- the event that is due, and the step

-- the external interruption of a request stores its sender and its code
abbrev pub request_identification : Request → ℕ
request_identification q = sender_of q * 2 ^ 16 + request_code q

abbrev pub done_of : Registers → ℕ → List ℕ → Side → Due → Done
done_of r i storage side Idle = interrupted r None 0 []
done_of r i storage side Early = interrupted r (Some interruption.Program) SPECIFICATION []
done_of r i storage side (External q) =
    record (interrupted r (Some interruption.External) (request_identification q) []) { taken = Some (taking.Request q) }
done_of r i storage side Restart = record (interrupted r (Some interruption.Restart) 0 []) { taken = Some taking.Restart }
done_of r i storage side UnitOfOperation = unit r i storage side

-- what the event does that is due at a CPU with these registers
unfoldable pub done : Registers → ℕ → List ℕ → Side → Done
done r i storage side = done_of r i storage side (due r side.clock (signals_of side.bus i))

unfoldable pub due_at : Machine → ℕ → Due
due_at m i = due (m.registers i) m.clock (signals_of m.bus i)

abbrev pub is_idle : Due → Bool
is_idle Idle = true
is_idle d = false

unfoldable pub idle : Machine → ℕ → Bool
idle m i = is_idle (due_at m i)

abbrev pub is_unit : Due → Bool
is_unit UnitOfOperation = true
is_unit d = false

-- the machine after what an event of CPU i does
unfoldable pub after : Machine → ℕ → Done → Machine
after m i d = record {
  storage = storage_after (m.registers i) d m.storage;
  keys = with_key d.set_key (keys_after (m.registers i) d (length m.storage) m.keys);
  clock = m.clock;
  console = drop (unwrap_or d.console_in 0) m.console;
  console_read = m.console_read + unwrap_or d.console_in 0;
  console_written = m.console_written ++ d.console_out;
  bus = after_sending d.sent i (taken d.taken i m.bus);
  registers = at m.registers i (registers_after (m.registers i) d m.storage);
}

-- what the event does that is due at CPU i
unfoldable pub done_at : Machine → ℕ → Done
done_at m i = done (m.registers i) i m.storage (side_of m)

-- one step of one CPU that is not idle
unfoldable pub next : Machine → ℕ → Machine
next m i = after m i (done_at m i)
