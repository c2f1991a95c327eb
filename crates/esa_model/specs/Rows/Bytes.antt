-- Rows on bytes in storage, and the units of the long moves and comparisons.
-- Source: Principles of Operation, chapter on general instructions; the bytes are those of Moves and LongMoves. That a
-- unit of a long operand has at most 256 bytes, and which bytes are tested, are choices of this project.
use Rattle.std.specs.Prelude.{ℕ, zero, suc, ◌+◌, ◌-◌, ◌*◌, ◌/◌, ◌^◌, ◌&&◌, min, max, if◌then◌else◌, List, [], ◌∷◌, ◌++◌, Bool, true, false, Option, Some, None, take, replicate, slice_set}
use Rattle.esa_model.specs.declared.machine.Registers.{Registers}
use Rattle.esa_model.specs.declared.kinds.ByteKind.{ByteKind}
use Rattle.esa_model.specs.declared.kinds.ByteKind.TheVariants.{Move, Combine, Compare, Translate, TranslateAndTest, MoveInverse, MoveLong, CompareLong}
use Rattle.esa_model.specs.declared.long_operands.LongOperands.{LongOperands}
use Rattle.esa_model.specs.declared.long_operands.MoveUnit.{MoveUnit}
use Rattle.esa_model.specs.declared.long_operands.CompareUnit.{CompareUnit}
use Rattle.esa_model.specs.declared.long_operands.Hit.{Hit}
use Rattle.esa_model.specs.Psw.{is_wide, wrapped}
use Rattle.esa_model.specs.Access.{Operand, written, whole, byte, bytes}
use Rattle.esa_model.specs.Moves.{is_move, combined, move_code, compare_code, hit_of, hit_code, inverted}
use Rattle.esa_model.specs.LongMoves.{long_operands, after_unit, move_row, compare_row}
use Rattle.esa_model.specs.Line.{Line, Inputs, general, first_at, second_at, advanced, coded, marked, is_even, always, two, leaves, stores}

-- the number of bytes of SS with one length
abbrev pub size : Inputs → ℕ
size i = i.decoded.len + 1

abbrev pub to : Inputs → ℕ
to i = first_at i.registers i.decoded

abbrev pub from : Inputs → ℕ
from i = second_at i.registers i.decoded

abbrev pub first_bytes : Inputs → List ℕ
first_bytes i = bytes i.registers i.storage (to i) (size i)

abbrev pub second_bytes : Inputs → List ℕ
second_bytes i = bytes i.registers i.storage (from i) (size i)

-- ---- MVN MVC MVZ NC OC XC: byte by byte from the left, each from the storage as the bytes before it have left it

-- the byte that place n gets where the storage is this
abbrev pub moved_byte : ℕ → Registers → ℕ → ℕ → ℕ → List ℕ → ℕ
moved_byte op r to from n storage = combined op (byte r storage (to + n)) (byte r storage (from + n))

unfoldable pub moved : ℕ → Registers → List ℕ → ℕ → ℕ → ℕ → List ℕ
moved op r storage to from zero = []
moved op r storage to from (suc n) =
    moved op r storage to from n ++ (moved_byte op r to from n (written r to (moved op r storage to from n) storage) ∷ [])

abbrev pub moved_bytes : ℕ → Inputs → List ℕ
moved_bytes op i = moved op i.registers i.storage (to i) (from i) (size i)

-- MVC does not fetch its first operand
abbrev pub move_line : ℕ → Bool → Line
move_line op fetches = record {
  in_order = always;
  operands = λ i. two (whole (to i) (size i) fetches true) (whole (from i) (size i) true false);
  effect = λ i. stores (coded (advanced i.registers i.len) (move_code op (moved_bytes op i))) (moved_bytes op i);
}

-- ---- CLC

abbrev pub compare_line : Line
compare_line = record {
  in_order = always;
  operands = λ i. two (whole (to i) (size i) true false) (whole (from i) (size i) true false);
  effect = λ i. leaves (coded (advanced i.registers i.len) (compare_code (first_bytes i) (second_bytes i)));
}

-- ---- TR: byte by byte from the left; of the table only the bytes that are used are tested

unfoldable pub translated : Registers → List ℕ → ℕ → ℕ → ℕ → List ℕ
translated r storage to table zero = []
translated r storage to table (suc n) =
    translated r storage to table n ++
    (byte r (written r to (translated r storage to table n) storage) (table + byte r storage (to + n)) ∷ [])

abbrev pub used_of : ℕ → List ℕ → Operand
used_of at offsets = record { at = at; offsets = offsets; fetch = true; store = false }

abbrev pub translate_line : Line
translate_line = record {
  in_order = always;
  operands = λ i. two (whole (to i) (size i) true true) (used_of (from i) (first_bytes i));
  effect = λ i. stores (advanced i.registers i.len) (translated i.registers i.storage (to i) (from i) (size i));
}

-- ---- TRT: byte and function byte in turn, up to the first whose function byte is not zero

abbrev pub hit : Inputs → Option Hit
hit i = hit_of (first_bytes i) (bytes i.registers i.storage (from i) 256)

-- how many bytes are used
abbrev pub used_by : ℕ → Option Hit → ℕ
used_by n None = n
used_by n (Some h) = h.at + 1

-- at a hit register 1 gets the address of the byte, and the low byte of register 2 the function byte
abbrev pub hit_registers : Registers → ℕ → Option Hit → Registers
hit_registers r at None = r
hit_registers r at (Some h) =
    record r { general = slice_set (slice_set r.general 1 (marked r (at + h.at))) 2 (general r 2 / 256 * 256 + h.function) }

abbrev pub translate_and_test_line : Line
translate_and_test_line = record {
  in_order = always;
  operands = λ i. record {
    first = whole (to i) (used_by (size i) (hit i)) true false;
    second = used_of (from i) (take (used_by (size i) (hit i)) (first_bytes i));
    paired = true;
  };
  effect = λ i. leaves (coded (hit_registers (advanced i.registers i.len) (to i) (hit i)) (hit_code (size i) (hit i)));
}

-- ---- MVCIN: the second address is that of the rightmost byte

abbrev pub leftmost : Inputs → ℕ
leftmost i = wrapped i.registers.psw (from i + 2 ^ 31 - i.decoded.len)

abbrev pub move_inverse_line : Line
move_inverse_line = record {
  in_order = always;
  operands = λ i. two (whole (to i) (size i) false true) (whole (leftmost i) (size i) true false);
  effect = λ i. stores (advanced i.registers i.len) (inverted (bytes i.registers i.storage (leftmost i) (size i)));
}

-- ---- MVCL CLCL

abbrev pub long_of : Inputs → LongOperands
long_of i = long_operands i.registers.general i.decoded.r1 i.decoded.r2 (is_wide i.registers.psw)

abbrev pub first_long : Inputs → ℕ
first_long i = wrapped i.registers.psw (general i.registers i.decoded.r1)

abbrev pub second_long : Inputs → ℕ
second_long i = wrapped i.registers.psw (general i.registers i.decoded.r2)

abbrev pub has_pairs : Inputs → Bool
has_pairs i = is_even i.decoded.r1 && is_even i.decoded.r2

-- the last unit sets the condition code and advances; another one leaves the PSW
abbrev pub ended_by : Registers → ℕ → Option ℕ → Registers
ended_by r len None = r
ended_by r len (Some code) = coded (advanced r len) code

abbrev pub move_unit : Inputs → MoveUnit
move_unit i = move_row (long_of i)

-- a destructive move leaves the general registers
abbrev pub move_long_registers : Inputs → MoveUnit → Registers
move_long_registers i u =
    if u.destructive then ended_by i.registers i.len u.cc else
    ended_by (record i.registers {
      general = after_unit i.registers.general i.decoded.r1 i.decoded.r2 (is_wide i.registers.psw) (u.copied + u.padded) u.copied;
    }) i.len u.cc

abbrev pub move_long_line : Line
move_long_line = record {
  in_order = has_pairs;
  operands = λ i. two (whole (first_long i) ((move_unit i).copied + (move_unit i).padded) false true)
      (whole (second_long i) (move_unit i).copied true false);
  effect = λ i. stores (move_long_registers i (move_unit i))
      (bytes i.registers i.storage (second_long i) (move_unit i).copied ++ replicate (move_unit i).padded (long_of i).pad);
}

-- the bytes of both operands at the places of a unit
abbrev pub first_len : LongOperands → ℕ
first_len c = min (min 256 (max c.to_len c.from_len)) c.to_len

abbrev pub second_len : LongOperands → ℕ
second_len c = min (min 256 (max c.to_len c.from_len)) c.from_len

abbrev pub compare_unit : Inputs → CompareUnit
compare_unit i =
    compare_row (bytes i.registers i.storage (first_long i) (first_len (long_of i)))
    (bytes i.registers i.storage (second_long i) (second_len (long_of i))) (long_of i)

abbrev pub compare_long_registers : Inputs → CompareUnit → Registers
compare_long_registers i u =
    ended_by (record i.registers {
      general = after_unit i.registers.general i.decoded.r1 i.decoded.r2 (is_wide i.registers.psw)
          (min u.equal (long_of i).to_len) (min u.equal (long_of i).from_len);
    }) i.len u.cc

abbrev pub compare_long_line : Line
compare_long_line = record {
  in_order = has_pairs;
  operands = λ i. two (whole (first_long i) (first_len (long_of i)) true false) (whole (second_long i) (second_len (long_of i)) true false);
  effect = λ i. leaves (compare_long_registers i (compare_unit i));
}

unfoldable pub bytes_line : ByteKind → ℕ → Line
bytes_line Move op = move_line op false
bytes_line Combine op = move_line op true
bytes_line Compare op = compare_line
bytes_line Translate op = translate_line
bytes_line TranslateAndTest op = translate_and_test_line
bytes_line MoveInverse op = move_inverse_line
bytes_line MoveLong op = move_long_line
bytes_line CompareLong op = compare_long_line

-- whether Moves has the byte of a row of this kind and opcode
unfoldable pub has_bytes : ByteKind → ℕ → Bool
has_bytes Move op = is_move op
has_bytes Combine op = is_move op
has_bytes k op = true
