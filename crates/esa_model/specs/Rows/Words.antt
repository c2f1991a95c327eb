-- Rows that put a value of words into a register or a pair.
-- Source: Principles of Operation, chapter on general instructions; the values are those of WordRows.
use Rattle.std.specs.Prelude.{ℕ, ◌+◌, ◌%◌, ◌==◌, if◌then◌else◌, Bool, true, false}
use Rattle.esa_model.specs.declared.kinds.WordKind.{WordKind}
use Rattle.esa_model.specs.declared.kinds.WordKind.TheVariants.{Registers, Pairs, Storage, PairStorage, Halfwords, Immediates, Shifts, PairShifts, Address}
use Rattle.esa_model.specs.Access.{whole}
use Rattle.esa_model.specs.WordRows.{plain, rr_row, is_rr, half_row, is_half, shift_row, is_shift}
use Rattle.esa_model.specs.Line.{Line, Inputs, general, indexed, second_at, word_at, half_at, is_even, always, one, no_operands, valued, pair_valued}

-- the opcode by which WordRows has the value of a row on two words
abbrev pub word_row : ℕ → ℕ
word_row op = if op == 0xB252 then 0x71 else op

-- and that of a row on an immediate halfword
abbrev pub immediate_row : ℕ → ℕ
immediate_row op =
    if op == 0xA70 then 0xA0 else if op == 0xA71 then 0xA1 else if op == 0xA78 then 0x48 else
    if op == 0xA7A then 0x4A else if op == 0xA7C then 0x4C else 0x49

abbrev pub first : Inputs → ℕ
first i = general i.registers i.decoded.r1

-- the odd neighbour of R1
abbrev pub low : Inputs → ℕ
low i = general i.registers (i.decoded.r1 + 1)

abbrev pub at_second : Inputs → ℕ
at_second i = indexed i.registers i.decoded

abbrev pub has_pair : Inputs → Bool
has_pair i = is_even i.decoded.r1

-- the number of places of a shift: the low six bits of the second address
abbrev pub places : Inputs → ℕ
places i = second_at i.registers i.decoded % 64

abbrev pub by_words : ℕ → Line
by_words op = record {
  in_order = always;
  operands = no_operands;
  effect = λ i. valued i.registers i.decoded.r1 i.len (rr_row (word_row op) (first i) 0 (general i.registers i.decoded.r2));
}

abbrev pub by_pairs : ℕ → Line
by_pairs op = record {
  in_order = has_pair;
  operands = no_operands;
  effect = λ i. pair_valued i.registers i.decoded.r1 i.len (rr_row op (first i) (low i) (general i.registers i.decoded.r2));
}

abbrev pub by_words_at : ℕ → Line
by_words_at op = record {
  in_order = always;
  operands = λ i. one (whole (at_second i) 4 true false);
  effect = λ i. valued i.registers i.decoded.r1 i.len (rr_row op (first i) 0 (word_at i.registers i.storage (at_second i)));
}

abbrev pub by_pairs_at : ℕ → Line
by_pairs_at op = record {
  in_order = has_pair;
  operands = λ i. one (whole (at_second i) 4 true false);
  effect = λ i. pair_valued i.registers i.decoded.r1 i.len (rr_row op (first i) (low i) (word_at i.registers i.storage (at_second i)));
}

abbrev pub by_halves_at : ℕ → Line
by_halves_at op = record {
  in_order = always;
  operands = λ i. one (whole (at_second i) 2 true false);
  effect = λ i. valued i.registers i.decoded.r1 i.len (half_row op (first i) (half_at i.registers i.storage (at_second i)));
}

abbrev pub by_immediates : ℕ → Line
by_immediates op = record {
  in_order = always;
  operands = no_operands;
  effect = λ i. valued i.registers i.decoded.r1 i.len (half_row (immediate_row op) (first i) i.decoded.imm);
}

abbrev pub by_shifts : ℕ → Line
by_shifts op = record {
  in_order = always;
  operands = no_operands;
  effect = λ i. valued i.registers i.decoded.r1 i.len (shift_row op (first i) 0 (places i));
}

abbrev pub by_pair_shifts : ℕ → Line
by_pair_shifts op = record {
  in_order = has_pair;
  operands = no_operands;
  effect = λ i. pair_valued i.registers i.decoded.r1 i.len (shift_row op (first i) (low i) (places i));
}

-- LA: the effective address
abbrev pub by_address : Line
by_address = record {
  in_order = always;
  operands = no_operands;
  effect = λ i. valued i.registers i.decoded.r1 i.len (plain (at_second i));
}

unfoldable pub words_line : WordKind → ℕ → Line
words_line Registers op = by_words op
words_line Pairs op = by_pairs op
words_line Storage op = by_words_at op
words_line PairStorage op = by_pairs_at op
words_line Halfwords op = by_halves_at op
words_line Immediates op = by_immediates op
words_line Shifts op = by_shifts op
words_line PairShifts op = by_pair_shifts op
words_line Address op = by_address

-- whether WordRows has a value for a row of this kind and opcode
unfoldable pub has_words : WordKind → ℕ → Bool
has_words Registers op = is_rr (word_row op)
has_words Pairs op = is_rr op
has_words Storage op = is_rr op
has_words PairStorage op = is_rr op
has_words Halfwords op = is_half op
has_words Immediates op = is_half (immediate_row op)
has_words Shifts op = is_shift op
has_words PairShifts op = is_shift op
has_words Address op = true
