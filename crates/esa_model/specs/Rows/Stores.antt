-- Rows of one operand in storage: stores, multiple loads, bytes under a mask, immediate bytes, compare and swap.
-- Source: Principles of Operation, chapter on general instructions; masks and swaps are those of MaskRows.
use Rattle.std.specs.Prelude.{ℕ, ◌+◌, ◌-◌, ◌*◌, ◌/◌, ◌%◌, ◌^◌, nat_lt, ◌==◌, ◌&&◌, not, if◌then◌else◌, List, [], ◌∷◌, ◌++◌, Bool, true, false, length, map}
use Rattle.esa_model.specs.declared.kinds.StoreKind.{StoreKind}
use Rattle.esa_model.specs.declared.kinds.StoreKind.TheVariants.{Character, Halfword, Word, StoreMultiple, LoadMultiple, InsertCharacter, InsertUnderMask, CompareUnderMask, StoreUnderMask, TestUnderMask, MoveImmediate, CombineImmediate, CompareImmediate, TestAndSet, CompareAndSwap, CompareDoubleAndSwap}
use Rattle.std.specs.List.{range_with_len, flat_map}
use Rattle.byteorder.specs.Endian.{big_bytes}
use Rattle.esa_model.specs.declared.machine.Registers.{Registers}
use Rattle.esa_model.specs.declared.machine.Value.{Value}
use Rattle.esa_model.specs.declared.instructions.Decoded.{Decoded}
use Rattle.esa_model.specs.Access.{Operand, whole, byte, bytes}
use Rattle.esa_model.specs.WordRows.{bits_code}
use Rattle.esa_model.specs.MaskRows.{test_under_mask_code, insert_character_row, places, selected, insert_under_mask_row, compare_under_mask_code, compare_and_swap_row, compare_double_and_swap_row, order_of_bytes}
use Rattle.esa_model.specs.Moves.{combined, is_move}
use Rattle.esa_model.specs.Line.{Line, Inputs, general, indexed, second_at, first_at, advanced, coded, word_at, is_even, always, one, leaves, stores, valued, with_value, with_pair, register_count}

-- STC STH ST: the right 1, 2 or 4 bytes of R1
abbrev pub store_line : ℕ → Line
store_line len = record {
  in_order = always;
  operands = λ i. one (whole (indexed i.registers i.decoded) len false true);
  effect = λ i. stores (advanced i.registers i.len) (big_bytes len (general i.registers i.decoded.r1 % 256 ^ len));
}

-- ---- STM LM: registers R1 to R3 in ascending order, 0 after 15

unfoldable pub registers_stored : Registers → Decoded → List ℕ
registers_stored r d = flat_map (λ k. big_bytes 4 (general r ((d.r1 + k) % 16))) (range_with_len 0 (register_count d))

-- register n is the word at its place after R1, where it is one of them
abbrev pub loaded : Registers → List ℕ → Decoded → ℕ → ℕ
loaded r storage d n =
    let k = (n + 16 - d.r1) % 16 in
    if nat_lt k (register_count d) then word_at r storage (second_at r d + 4 * k) else general r n

unfoldable pub registers_loaded : Registers → List ℕ → Decoded → List ℕ
registers_loaded r storage d = map (loaded r storage d) (range_with_len 0 16)

abbrev pub store_multiple : Line
store_multiple = record {
  in_order = always;
  operands = λ i. one (whole (second_at i.registers i.decoded) (4 * register_count i.decoded) false true);
  effect = λ i. stores (advanced i.registers i.len) (registers_stored i.registers i.decoded);
}

abbrev pub load_multiple : Line
load_multiple = record {
  in_order = always;
  operands = λ i. one (whole (second_at i.registers i.decoded) (4 * register_count i.decoded) true false);
  effect = λ i. leaves (record (advanced i.registers i.len) { general = registers_loaded i.registers i.storage i.decoded });
}

-- ---- IC, ICM CLM STCM

abbrev pub insert_character : Line
insert_character = record {
  in_order = always;
  operands = λ i. one (whole (indexed i.registers i.decoded) 1 true false);
  effect = λ i. valued i.registers i.decoded.r1 i.len
      (insert_character_row (general i.registers i.decoded.r1) (byte i.registers i.storage (indexed i.registers i.decoded)));
}

-- the bytes that a mask selects; a zero mask fetches one byte
abbrev pub masked_len : ℕ → ℕ
masked_len mask = if mask == 0 then 1 else length (places mask)

abbrev pub masked_bytes : Inputs → List ℕ
masked_bytes i = bytes i.registers i.storage (second_at i.registers i.decoded) (masked_len i.decoded.r2)

abbrev pub masked_operand : Inputs → Operand
masked_operand i = whole (second_at i.registers i.decoded) (masked_len i.decoded.r2) true false

abbrev pub insert_under_mask : Line
insert_under_mask = record {
  in_order = always;
  operands = λ i. one (masked_operand i);
  effect = λ i. valued i.registers i.decoded.r1 i.len
      (insert_under_mask_row (general i.registers i.decoded.r1) i.decoded.r2 (masked_bytes i));
}

abbrev pub compare_under_mask : Line
compare_under_mask = record {
  in_order = always;
  operands = λ i. one (masked_operand i);
  effect = λ i. leaves (coded (advanced i.registers i.len)
      (compare_under_mask_code (general i.registers i.decoded.r1) i.decoded.r2 (masked_bytes i)));
}

abbrev pub store_under_mask : Line
store_under_mask = record {
  in_order = always;
  operands = λ i. one (whole (second_at i.registers i.decoded) (length (places i.decoded.r2)) false true);
  effect = λ i. stores (advanced i.registers i.len) (selected (general i.registers i.decoded.r1) i.decoded.r2);
}

-- ---- TM MVI NI OI XI CLI TS: one byte, the immediate one beside it

abbrev pub first_byte : Inputs → ℕ
first_byte i = byte i.registers i.storage (first_at i.registers i.decoded)

-- the immediate byte
abbrev pub immediate : Inputs → ℕ
immediate i = i.decoded.imm % 2 ^ 8

abbrev pub test_under_mask : Line
test_under_mask = record {
  in_order = always;
  operands = λ i. one (whole (first_at i.registers i.decoded) 1 true false);
  effect = λ i. leaves (coded (advanced i.registers i.len) (test_under_mask_code (first_byte i) (immediate i)));
}

abbrev pub move_immediate : Line
move_immediate = record {
  in_order = always;
  operands = λ i. one (whole (first_at i.registers i.decoded) 1 false true);
  effect = λ i. stores (advanced i.registers i.len) (immediate i ∷ []);
}

-- NI OI XI: and, or, exclusive or, as NC OC XC, whose opcodes are X'40' higher
abbrev pub combined_byte : ℕ → Inputs → ℕ
combined_byte op i = combined (op + 0x40) (first_byte i) (immediate i)

abbrev pub combine_immediate : ℕ → Line
combine_immediate op = record {
  in_order = always;
  operands = λ i. one (whole (first_at i.registers i.decoded) 1 true true);
  effect = λ i. stores (coded (advanced i.registers i.len) (bits_code (combined_byte op i))) (combined_byte op i ∷ []);
}

abbrev pub compare_immediate : Line
compare_immediate = record {
  in_order = always;
  operands = λ i. one (whole (first_at i.registers i.decoded) 1 true false);
  effect = λ i. leaves (coded (advanced i.registers i.len) (order_of_bytes (first_byte i ∷ []) (immediate i ∷ [])));
}

-- TS: the code is the byte's left bit
abbrev pub test_and_set : Line
test_and_set = record {
  in_order = always;
  operands = λ i. one (whole (second_at i.registers i.decoded) 1 true true);
  effect = λ i. stores (coded (advanced i.registers i.len) (byte i.registers i.storage (second_at i.registers i.decoded) / 128)) (0xFF ∷ []);
}

-- ---- CS CDS: tested for storing; where they do not store they fetch

abbrev pub swap_value : Inputs → Value
swap_value i = compare_and_swap_row (general i.registers i.decoded.r1) (word_at i.registers i.storage (second_at i.registers i.decoded))

abbrev pub compare_and_swap : Line
compare_and_swap = record {
  in_order = λ i. second_at i.registers i.decoded % 4 == 0;
  operands = λ i. one (whole (second_at i.registers i.decoded) 4 (not ((swap_value i).cc == 0)) true);
  effect = λ i.
      if (swap_value i).cc == 0
      then stores (with_value i.registers i.decoded.r1 i.len (swap_value i)) (big_bytes 4 (general i.registers i.decoded.r2))
      else leaves (with_value i.registers i.decoded.r1 i.len (swap_value i));
}

abbrev pub pair_swap_value : Inputs → Value
pair_swap_value i =
    compare_double_and_swap_row (general i.registers i.decoded.r1) (general i.registers (i.decoded.r1 + 1))
    (word_at i.registers i.storage (second_at i.registers i.decoded)) (word_at i.registers i.storage (second_at i.registers i.decoded + 4))

abbrev pub compare_double_and_swap : Line
compare_double_and_swap = record {
  in_order = λ i. is_even i.decoded.r1 && (is_even i.decoded.r2 && second_at i.registers i.decoded % 8 == 0);
  operands = λ i. one (whole (second_at i.registers i.decoded) 8 (not ((pair_swap_value i).cc == 0)) true);
  effect = λ i.
      if (pair_swap_value i).cc == 0
      then stores (with_pair i.registers i.decoded.r1 i.len (pair_swap_value i))
      (big_bytes 4 (general i.registers i.decoded.r2) ++ big_bytes 4 (general i.registers (i.decoded.r2 + 1)))
      else leaves (with_pair i.registers i.decoded.r1 i.len (pair_swap_value i));
}

unfoldable pub stores_line : StoreKind → ℕ → Line
stores_line Character op = store_line 1
stores_line Halfword op = store_line 2
stores_line Word op = store_line 4
stores_line StoreMultiple op = store_multiple
stores_line LoadMultiple op = load_multiple
stores_line InsertCharacter op = insert_character
stores_line InsertUnderMask op = insert_under_mask
stores_line CompareUnderMask op = compare_under_mask
stores_line StoreUnderMask op = store_under_mask
stores_line TestUnderMask op = test_under_mask
stores_line MoveImmediate op = move_immediate
stores_line CombineImmediate op = combine_immediate op
stores_line CompareImmediate op = compare_immediate
stores_line TestAndSet op = test_and_set
stores_line CompareAndSwap op = compare_and_swap
stores_line CompareDoubleAndSwap op = compare_double_and_swap

-- whether Moves has the byte of a row of this kind and opcode
unfoldable pub has_store : StoreKind → ℕ → Bool
has_store CombineImmediate op = is_move (op + 0x40)
has_store k op = true
