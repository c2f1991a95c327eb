-- Decimal rows, and the conversions.
-- Source: Principles of Operation, chapter on decimal instructions; the fields are those of DecimalRows and Edit.
use Rattle.std.specs.Prelude.{ℕ, ◌+◌, ◌%◌, nat_lt, nat_le, ◌==◌, ◌&&◌, if◌then◌else◌, List, [], Bool, true, false, Option, Some, None, slice_set}
use Rattle.esa_model.specs.declared.machine.Registers.{Registers}
use Rattle.esa_model.specs.declared.kinds.DecimalKind.{DecimalKind}
use Rattle.esa_model.specs.declared.kinds.DecimalKind.TheVariants.{Fields, Products, Replaced, Compared, Shifted, Edited, EditedAndMarked, ToBinary, ToDecimal}
use Rattle.esa_model.specs.declared.decimals.Edited.{Edited as EditResult}
use Rattle.esa_model.specs.Access.{whole, bytes}
use Rattle.esa_model.specs.DecimalRows.{Decimal, is_two, two_row, shift_row, to_binary, to_decimal}
use Rattle.esa_model.specs.Edit.{state, answer, edited_pattern}
use Rattle.esa_model.specs.Line.{Line, Inputs, Effect, general, indexed, first_at, second_at, advanced, coded, marked, always, one, two, stores, ended, interrupts_after, valued, refuses}

-- the numbers of bytes of SS with two lengths, and the fields
abbrev pub first_size : Inputs → ℕ
first_size i = i.decoded.r1 + 1

abbrev pub second_size : Inputs → ℕ
second_size i = i.decoded.r2 + 1

abbrev pub first_field : Inputs → List ℕ
first_field i = bytes i.registers i.storage (first_at i.registers i.decoded) (first_size i)

abbrev pub second_field : Inputs → List ℕ
second_field i = bytes i.registers i.storage (second_at i.registers i.decoded) (second_size i)

-- MP and DP: the second operand has at most eight bytes, and fewer than the first
abbrev pub lengths_in_order : Inputs → Bool
lengths_in_order i = nat_le i.decoded.r2 7 && nat_lt i.decoded.r2 i.decoded.r1

-- what a row with this field and value does
abbrev pub decimal_effect : Inputs → Bool → Decimal → Effect
decimal_effect i store d =
    record (ended (coded (advanced i.registers i.len) d.value.cc) (interrupts_after i.registers.psw d.value.fault) d.value.fault) {
      stored = if store then d.field else [];
    }

-- two fields, of which the first is fetched, or stored, or both
abbrev pub field_line : ℕ → (Inputs → Bool) → Bool → Bool → Line
field_line op in_order fetches storing = record {
  in_order = in_order;
  operands = λ i. two (whole (first_at i.registers i.decoded) (first_size i) fetches storing)
      (whole (second_at i.registers i.decoded) (second_size i) true false);
  effect = λ i. decimal_effect i storing (two_row op (first_field i) (second_field i));
}

-- SRP: the shift is the low six bits of the second address, the rounding digit is I3
abbrev pub shift_line : Line
shift_line = record {
  in_order = always;
  operands = λ i. one (whole (first_at i.registers i.decoded) (first_size i) true true);
  effect = λ i. decimal_effect i true (shift_row (first_field i) (second_at i.registers i.decoded % 64) i.decoded.r2);
}

-- ---- ED EDMK: of the source only the bytes that are used are tested

abbrev pub pattern : Inputs → List ℕ
pattern i = bytes i.registers i.storage (first_at i.registers i.decoded) (i.decoded.len + 1)

abbrev pub source : Inputs → List ℕ
source i = bytes i.registers i.storage (second_at i.registers i.decoded) 256

abbrev pub edited : Inputs → EditResult
edited i = answer (state (source i) (pattern i))

-- EDMK: register 1 gets the address of the marked digit
abbrev pub with_mark : Bool → Registers → ℕ → Option ℕ → Registers
with_mark marking r at None = r
with_mark marking r at (Some k) = if marking then record r { general = slice_set r.general 1 (marked r (at + k)) } else r

abbrev pub edit_line : Bool → Line
edit_line marking = record {
  in_order = always;
  operands = λ i. two (whole (first_at i.registers i.decoded) (i.decoded.len + 1) true true)
      (whole (second_at i.registers i.decoded) (edited i).used true false);
  effect = λ i.
      if (edited i).fault == 0
      then stores (coded (with_mark marking (advanced i.registers i.len) (first_at i.registers i.decoded) (edited i).mark) (edited i).cc)
      (edited_pattern (source i) (pattern i))
      else refuses i.registers (edited i).fault;
}

-- ---- CVB CVD

abbrev pub to_binary_line : Line
to_binary_line = record {
  in_order = always;
  operands = λ i. one (whole (indexed i.registers i.decoded) 8 true false);
  effect = λ i. valued i.registers i.decoded.r1 i.len (to_binary (bytes i.registers i.storage (indexed i.registers i.decoded) 8));
}

abbrev pub to_decimal_line : Line
to_decimal_line = record {
  in_order = always;
  operands = λ i. one (whole (indexed i.registers i.decoded) 8 false true);
  effect = λ i. stores (advanced i.registers i.len) (to_decimal (general i.registers i.decoded.r1));
}

unfoldable pub decimals_line : DecimalKind → ℕ → Line
decimals_line Fields op = field_line op always true true
decimals_line Products op = field_line op lengths_in_order true true
decimals_line Replaced op = field_line op always false true
decimals_line Compared op = field_line op always true false
decimals_line Shifted op = shift_line
decimals_line Edited op = edit_line false
decimals_line EditedAndMarked op = edit_line true
decimals_line ToBinary op = to_binary_line
decimals_line ToDecimal op = to_decimal_line

-- whether DecimalRows has the field of a row of this kind and opcode
unfoldable pub has_decimal : DecimalKind → ℕ → Bool
has_decimal Fields op = is_two op
has_decimal Products op = is_two op
has_decimal Replaced op = is_two op
has_decimal Compared op = is_two op
has_decimal k op = true
