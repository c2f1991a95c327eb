-- The packet: fields at places of 512 bytes, each number with its most significant byte first.
-- Source: choice of this project.
use Rattle.std.specs.Prelude.{ℕ, zero, suc, ◌+◌, ◌-◌, ◌%◌, ◌==◌, if◌then◌else◌, List, [], ◌∷◌, ◌++◌, take, drop, length, replicate, min, Option, Some, None}
use Rattle.std.specs.List.{flat_map}
use Rattle.byteorder.specs.Endian.{big_number, big_bytes}
use Rattle.esa_model.specs.declared.events.Interruption.{Interruption}
use Rattle.esa_model.specs.declared.machine.Psw.{Psw}
use Rattle.esa_model.specs.declared.machine.Registers.{Registers}
use Rattle.esa_model.specs.Access.{place}
use Rattle.esa_model.specs.Unit.{Done}
use Rattle.esa_model.specs.Machine.{registers_after}
use Rattle.esa_model.specs.PacketCodes.{interruption_number, taken_number, taken_sender, key_block, key_byte, order_number, order_target}

-- the list with these bytes at a place
unfoldable pub put : ℕ → List ℕ → List ℕ → List ℕ
put at bytes xs = take at xs ++ (bytes ++ drop (at + length bytes) xs)

-- the number in n bytes at a place
abbrev pub number_at : ℕ → ℕ → List ℕ → ℕ
number_at n at p = big_number n (drop at p)

-- so many numbers of n bytes each
abbrev pub numbers : ℕ → List ℕ → List ℕ
numbers n ws = flat_map (big_bytes n) ws

unfoldable pub numbers_at : ℕ → ℕ → ℕ → List ℕ → List ℕ
numbers_at n zero at p = []
numbers_at n (suc k) at p = number_at n at p ∷ numbers_at n k (at + n) p

abbrev pub two_words : Psw → List ℕ
two_words p = big_bytes 4 p.w0 ++ big_bytes 4 p.w1

abbrev pub psw_of : ℕ → List ℕ → Psw
psw_of at p = record { w0 = number_at 4 at p; w1 = number_at 4 (at + 4) p }

-- ---- what a packet says

pub record Fields : Type 0 where
  pub registers : Registers
  pub kind : ℕ
  pub old : Psw
  pub identification : ℕ
  pub request : ℕ
  pub sender : ℕ
  pub order_to : ℕ
  pub order : ℕ
  pub block : ℕ
  pub key : ℕ
  pub console : ℕ
  pub count : ℕ
  pub first_len : ℕ
  pub first_at : ℕ
  pub second_len : ℕ
  pub second_at : ℕ
  pub block_count : ℕ
  pub blocks : List ℕ  -- eight
  pub tail : List ℕ  -- 256 bytes

-- the fields and their places
abbrev pub parts : Fields → List (ℕ × List ℕ)
parts f =
    (0, two_words f.registers.psw) ∷
    (8, numbers 4 f.registers.general) ∷
    (72, numbers 4 f.registers.control) ∷
    (136, big_bytes 4 f.registers.prefix) ∷
    (140, big_bytes 1 f.kind) ∷
    (142, two_words f.old) ∷
    (150, big_bytes 4 f.identification) ∷
    (154, big_bytes 1 f.request) ∷
    (155, big_bytes 1 f.sender) ∷
    (156, big_bytes 1 f.order_to) ∷
    (157, big_bytes 1 f.order) ∷
    (158, big_bytes 2 f.block) ∷
    (160, big_bytes 1 f.key) ∷
    (161, big_bytes 1 f.console) ∷
    (162, big_bytes 2 f.count) ∷
    (164, big_bytes 2 f.first_len) ∷
    (166, big_bytes 4 f.first_at) ∷
    (170, big_bytes 2 f.second_len) ∷
    (172, big_bytes 4 f.second_at) ∷
    (176, big_bytes 1 f.block_count) ∷
    (178, numbers 2 f.blocks) ∷
    (196, numbers 8 f.registers.clocks) ∷
    (256, f.tail) ∷
    []

-- bytes at their places, written one after another
abbrev pub built : List (ℕ × List ℕ) → List ℕ → List ℕ
built [] p = p
built (f ∷ fs) p = built fs (put f.0 f.1 p)

unfoldable pub packet_of : Fields → List ℕ
packet_of f = built (parts f) (replicate 512 0)

unfoldable pub read : List ℕ → Fields
read p = record {
  registers = record {
    general = numbers_at 4 16 8 p;
    control = numbers_at 4 16 72 p;
    psw = psw_of 0 p;
    prefix = number_at 4 136 p;
    clocks = numbers_at 8 4 196 p;
  };
  kind = number_at 1 140 p;
  old = psw_of 142 p;
  identification = number_at 4 150 p;
  request = number_at 1 154 p;
  sender = number_at 1 155 p;
  order_to = number_at 1 156 p;
  order = number_at 1 157 p;
  block = number_at 2 158 p;
  key = number_at 1 160 p;
  console = number_at 1 161 p;
  count = number_at 2 162 p;
  first_len = number_at 2 164 p;
  first_at = number_at 4 166 p;
  second_len = number_at 2 170 p;
  second_at = number_at 4 172 p;
  block_count = number_at 1 176 p;
  blocks = numbers_at 2 8 178 p;
  tail = take 256 (drop 256 p);
}

-- ---- the fields of an event

-- bytes filled up to so many
abbrev pub filled : ℕ → List ℕ → List ℕ
filled n xs = xs ++ replicate (n - length xs) 0

-- the first piece ends with its block, the second is the rest
abbrev pub first_piece : Done → ℕ
first_piece d = min (length d.stored) (4096 - d.to % 4096)

abbrev pub piece_at : Registers → ℕ → ℕ → ℕ
piece_at r at len = if len == 0 then 0 else place r at

-- the console: 0 none, 1 write, 2 read, also where no byte was left to be read
abbrev pub console_kind : Option ℕ → List ℕ → ℕ
console_kind (Some n) out = 2
console_kind None out = if length out == 0 then 0 else 1

abbrev pub console_count : Option ℕ → List ℕ → ℕ
console_count (Some n) out = n
console_count None out = length out

-- the PSW that an interruption stores, zeros where nothing interrupts
abbrev pub old_psw : Option Interruption → Psw → Psw
old_psw None p = record { w0 = 0; w1 = 0 }
old_psw (Some k) p = p

unfoldable pub fields : Registers → Done → List ℕ → Fields
fields r d storage = record {
  registers = registers_after r d storage;
  kind = interruption_number d.interruption;
  old = old_psw d.interruption d.registers.psw;
  identification = d.identification;
  request = taken_number d.taken;
  sender = taken_sender d.taken;
  order_to = order_target d.sent;
  order = order_number d.sent;
  block = key_block d.set_key;
  key = key_byte d.set_key;
  console = console_kind d.console_in d.console_out;
  count = console_count d.console_in d.console_out;
  first_len = first_piece d;
  first_at = piece_at r d.to (first_piece d);
  second_len = length d.stored - first_piece d;
  second_at = piece_at r (d.to + first_piece d) (length d.stored - first_piece d);
  block_count = length d.blocks;
  blocks = filled 8 d.blocks;
  tail = filled 256 (if length d.stored == 0 then d.console_out else d.stored);
}

unfoldable pub packet : Registers → Done → List ℕ → List ℕ
packet r d storage = packet_of (fields r d storage)
