-- The rows that move, combine, compare, translate and invert strings of bytes, over lists of bytes.
-- Source: Principles of Operation, chapter on general instructions (MVN, MVC, MVZ, NC, OC, XC, CLC, TR, TRT, MVCIN).
use Rattle.std.specs.Prelude.{ℕ, zero, suc, ◌+◌, ◌*◌, ◌/◌, ◌%◌, Bool, not, ◌||◌, ◌==◌, if◌then◌else◌, List, [], ◌∷◌, map, reverse, slice_index, slice_set, bit_and, bit_or, bit_xor, Option, Some, None, position}
use Rattle.std.specs.List.{list_all}
use Rattle.std.specs.declared.cmp.Ordering.{Ordering}
use Rattle.std.specs.declared.cmp.Ordering.TheVariants.{Less, Equal, Greater}
use Rattle.std.specs.Ordering.{nat_cmp}
use Rattle.std.specs.Cmp.Lexicographic.{slice_cmp}
use Rattle.esa_model.specs.declared.codes.TheConstants.{STAYS}
use Rattle.esa_model.specs.declared.long_operands.Hit.{Hit}

-- ---- MVN, MVC, MVZ, NC, OC, XC: a byte of the first operand is made of itself and the byte of the second

abbrev pub is_move : ℕ → Bool
is_move op = (op == 0xD1) || ((op == 0xD2) || ((op == 0xD3) || ((op == 0xD4) || ((op == 0xD6) || (op == 0xD7)))))

-- these and CLC
abbrev pub is_logical : ℕ → Bool
is_logical op = (op == 0xD5) || is_move op

-- the byte that is stored over a, from the byte b of the second operand: MVN takes the low half of b, MVC all of it,
-- MVZ the high half; NC, OC and XC combine bit by bit
unfoldable pub combined : ℕ → ℕ → ℕ → ℕ
combined op a b =
    if op == 0xD1 then a / 16 * 16 + b % 16
    else (if op == 0xD2 then b
    else (if op == 0xD3 then b / 16 * 16 + a % 16
    else (if op == 0xD4 then bit_and a b
    else (if op == 0xD6 then bit_or a b
    else bit_xor a b))))

-- the first operand afterwards, where the operands do not overlap
abbrev pub merged : ℕ → List ℕ → List ℕ → List ℕ
merged op [] second = []
merged op (a ∷ first) [] = a ∷ first
merged op (a ∷ first) (b ∷ second) = combined op a b ∷ merged op first second

-- One area, after the first n places from the place `to` on are written, from left to right; `byte` gives the byte
-- for a place from the area as it stands, so each place is made where the earlier ones are already written.
abbrev pub filled : (List ℕ → ℕ → ℕ) → ℕ → ℕ → List ℕ → List ℕ
filled byte to zero area = area
filled byte to (suc n) area = let before = filled byte to n area in slice_set before (to + n) (byte before n)

-- the byte of a row for place k of two operands of one area
abbrev pub combined_in : ℕ → ℕ → ℕ → List ℕ → ℕ → ℕ
combined_in op to from area k = combined op (slice_index area (to + k)) (slice_index area (from + k))

-- the area afterwards, where both operands, of n bytes, are in it
abbrev pub moved : ℕ → ℕ → ℕ → ℕ → List ℕ → List ℕ
moved op to from n area = filled (combined_in op to from) to n area

abbrev pub is_zero : ℕ → Bool
is_zero b = b == 0

-- NC, OC and XC: 0 where the whole result is zero, else 1; the others leave the condition code
unfoldable pub move_code : ℕ → List ℕ → ℕ
move_code op stored = if (op == 0xD4) || ((op == 0xD6) || (op == 0xD7)) then (if list_all is_zero stored then 0 else 1) else STAYS

-- ---- CLC

abbrev pub order_code : Ordering → ℕ
order_code Equal = 0
order_code Less = 1
order_code Greater = 2

-- the first unequal pair of bytes decides: 0 equal, 1 first low, 2 first high
unfoldable pub compare_code : List ℕ → List ℕ → ℕ
compare_code first second = order_code (slice_cmp nat_cmp first second)

-- ---- TR

-- the byte of a table that an argument byte names
abbrev pub looked_up : List ℕ → ℕ → ℕ
looked_up table b = slice_index table b

-- the first operand afterwards, where the table does not overlap it
abbrev pub translated : List ℕ → List ℕ → List ℕ
translated table first = map (looked_up table) first

-- the byte for place k of an operand of one area with the table
abbrev pub looked_up_in : ℕ → ℕ → List ℕ → ℕ → ℕ
looked_up_in to table area k = slice_index area (table + slice_index area (to + k))

-- the area afterwards, where the operand, of n bytes, and the table are in it
abbrev pub translated_in : ℕ → ℕ → ℕ → List ℕ → List ℕ
translated_in to table n area = filled (looked_up_in to table) to n area

-- ---- TRT

-- whether the function byte of an argument byte is other than zero
abbrev pub has_function : List ℕ → ℕ → Bool
has_function functions b = not (slice_index functions b == 0)

abbrev pub hit_at : List ℕ → List ℕ → Option ℕ → Option Hit
hit_at first functions None = None
hit_at first functions (Some i) = Some (record { at = i; function = slice_index functions (slice_index first i) })

-- the first byte from the left whose function byte is not zero
unfoldable pub hit_of : List ℕ → List ℕ → Option Hit
hit_of first functions = hit_at first functions (position (has_function functions) first)

-- 0 without a hit, 2 at the last of n bytes, else 1
abbrev pub hit_code : ℕ → Option Hit → ℕ
hit_code n None = 0
hit_code n (Some h) = if h.at + 1 == n then 2 else 1

-- ---- MVCIN

-- The bytes that are stored: those of the second operand, fetched in ascending addresses, in inverse order. All are
-- fetched before one is stored, so overlapping operands need no second form.
abbrev pub inverted : List ℕ → List ℕ
inverted second = reverse second
