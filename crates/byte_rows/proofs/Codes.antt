-- The condition codes of decimal rows are below 5, and the opcodes of rows on bytes and fields
-- below 256.
use Rattle.std.proofs.Common.{ℕ, ◌<◌, Bool, true, false, List, length, arith}
use Rattle.std.specs.Prelude.{if◌then◌else◌, IsTrue, ℤ, ◌==◌, ◌&&◌, nat_le, int_lt, pos, negsuc, unsigned_abs, ◌+ℤ◌, ◌-ℤ◌}
use Rattle.std.specs.Int.{is_negative, int_rem_euclid}
use Rattle.std.proofs.lemmas.Bool.Decides.{nat_tests}
use Rattle.esa_model.specs.declared.codes.TheConstants.{STAYS, SPECIFICATION, DATA, FIXED_DIVIDE, DECIMAL_OVERFLOW, DECIMAL_DIVIDE}
use Rattle.esa_model.specs.declared.machine.Value.{Value}
use Rattle.esa_model.specs.Packed.{is_packed, value_of, limit, whole, is_negative_field, magnitude_of, shifted}
use Rattle.esa_model.specs.DecimalRows.{Decimal, ends, suppressed, sum_value, order_code, signed_shift, has_room, product, has_quotient, quotient_and_remainder, stored, add_row, subtract_row, zero_and_add_row, compare_row, multiply_row, divide_row, shift_row, halves_row, is_two, two_row, word_value, to_binary}
use Rattle.std.specs.declared.cmp.Ordering.{Ordering}
use Rattle.std.specs.declared.cmp.Ordering.TheVariants.{Less, Equal, Greater}
use Rattle.std.specs.Ordering.{nat_cmp}
use Rattle.std.specs.Cmp.Lexicographic.{slice_cmp}
use Rattle.esa_model.specs.Moves.{is_move, order_code as bytes_order_code, compare_code as bytes_code}

either : (b : Bool) (x y : Decimal) → x.value.cc < 5 → y.value.cc < 5
    → (if b then x else y).value.cc < 5
either true x y p q = p
either false x y p q = q

number : (b : Bool) (x y : ℕ) → x < 5 → y < 5 → (if b then x else y) < 5
number true x y p q = p
number false x y p q = q

worth : (b : Bool) (x y : Value) → x.cc < 5 → y.cc < 5 → (if b then x else y).cc < 5
worth true x y p q = p
worth false x y p q = q

sum_code : (n : ℕ) (negative : Bool) (m : ℕ) → (sum_value n negative m).cc < 5
sum_code n negative m =
    worth (nat_le (limit n) m) (ends 3 DECIMAL_OVERFLOW)
    (if m == 0 then ends 0 0 else (if negative then ends 1 0 else ends 2 0)) (omega arith)
    (worth (m == 0) (ends 0 0) (if negative then ends 1 0 else ends 2 0) (omega arith)
    (worth negative (ends 1 0) (ends 2 0) (omega arith) (omega arith)))

order_small : (x y : ℤ) → order_code x y < 5
order_small x y =
    number (int_lt x y) 1 (if int_lt y x then 2 else 0) (omega arith)
    (number (int_lt y x) 2 0 (omega arith) (omega arith))

stored_code : (n : ℕ) (z : ℤ) → (stored n z).value.cc < 5
unfolding stored
stored_code n z = sum_code n (is_negative z) (unsigned_abs z)

stored_or : (b : Bool) (n : ℕ) (z : ℤ) (f : List ℕ)
    → (if b then stored n z else suppressed f DATA).value.cc < 5
stored_or b n z f = either b (stored n z) (suppressed f DATA) (stored_code n z) (omega arith)

add_code : (f s : List ℕ) → (add_row f s).value.cc < 5
unfolding add_row
add_code f s = stored_or _ (length f) (value_of f +ℤ value_of s) f

subtract_code : (f s : List ℕ) → (subtract_row f s).value.cc < 5
unfolding subtract_row
subtract_code f s = stored_or _ (length f) (value_of f -ℤ value_of s) f

zero_and_add_code : (f s : List ℕ) → (zero_and_add_row f s).value.cc < 5
unfolding zero_and_add_row
zero_and_add_code f s = stored_or _ (length f) (value_of s) f

compare_code : (f s : List ℕ) → (compare_row f s).value.cc < 5
unfolding compare_row
compare_code f s =
    either _ (record { field = f; value = ends (order_code (value_of f) (value_of s)) 0 })
    (suppressed f DATA)
    (order_small (value_of f) (value_of s)) (omega arith)

multiply_code : (f s : List ℕ) → (multiply_row f s).value.cc < 5
unfolding multiply_row
multiply_code f s =
    let bad = suppressed f DATA in
    let fits : Bool = (is_packed f && is_packed s) && has_room f s in
    either _ (suppressed f SPECIFICATION) (if fits then product f s else bad) (omega arith)
    (either fits (product f s) bad (omega arith) (omega arith))

divide_code : (f s : List ℕ) → (divide_row f s).value.cc < 5
unfolding divide_row
divide_code f s =
    let bad = suppressed f DATA in
    let large = suppressed f DECIMAL_DIVIDE in
    let answer = if has_quotient f s then quotient_and_remainder f s else large in
    let packed : Bool = is_packed f && is_packed s in
    either _ (suppressed f SPECIFICATION) (if packed then answer else bad) (omega arith)
    (either packed answer bad
    (either (has_quotient f s) (quotient_and_remainder f s) large (omega arith) (omega arith))
    (omega arith))

pub shift_code : (f : List ℕ) (by round : ℕ) → (shift_row f by round).value.cc < 5
unfolding shift_row
shift_code f by round =
    stored_or _ (length f)
    (whole (is_negative_field f) (shifted (magnitude_of f) (signed_shift by) round)) f

pub two_code : (op : ℕ) (f s : List ℕ) → (two_row op f s).value.cc < 5
unfolding two_row
two_code op f s =
    let quotient : Decimal = if op == 0xFD then divide_row f s else halves_row op f s in
    let product : Decimal = if op == 0xFC then multiply_row f s else quotient in
    let difference : Decimal = if op == 0xFB then subtract_row f s else product in
    let sum : Decimal = if op == 0xFA then add_row f s else difference in
    let order : Decimal = if op == 0xF9 then compare_row f s else sum in
    either (op == 0xF8) (zero_and_add_row f s) order (zero_and_add_code f s)
    (either (op == 0xF9) (compare_row f s) sum (compare_code f s)
    (either (op == 0xFA) (add_row f s) difference (add_code f s)
    (either (op == 0xFB) (subtract_row f s) product (subtract_code f s)
    (either (op == 0xFC) (multiply_row f s) quotient (multiply_code f s)
    (either (op == 0xFD) (divide_row f s) (halves_row op f s) (divide_code f s) (omega arith))))))

word_code : (z : ℤ) → (word_value z).cc < 5
word_code z =
    worth (int_lt (negsuc 2147483648) z && int_lt z (pos 2147483648))
    (record {
      word = unsigned_abs (int_rem_euclid z (pos 4294967296));
      low = 0;
      cc = STAYS;
      fault = 0;
    }) (ends STAYS FIXED_DIVIDE) (omega arith) (omega arith)

pub binary_code : (f : List ℕ) → (to_binary f).cc < 5
unfolding to_binary
binary_code f = worth (is_packed f) (word_value (value_of f)) (ends STAYS DATA)
    (word_code (value_of f)) (omega arith)

order_is_small : (o : Ordering) → bytes_order_code o < 5
order_is_small Less = omega arith
order_is_small Equal = omega arith
order_is_small Greater = omega arith

pub order_of_bytes_small : (first second : List ℕ) → bytes_code first second < 5
unfolding bytes_code
order_of_bytes_small first second = order_is_small (slice_cmp nat_cmp first second)

-- ---- opcodes

pub move_byte : (op : ℕ) → IsTrue (is_move op) → op < 256
move_byte op h = grind (arith, nat_tests)

pub two_byte : (op : ℕ) → IsTrue (is_two op) → op < 256
two_byte op h = grind (arith, nat_tests)
