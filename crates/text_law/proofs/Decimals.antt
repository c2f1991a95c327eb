-- Decimals are read as their numbers.
use Rattle.std.proofs.Common.{◌≡◌, ℕ, ◌<◌, ◌≤◌, Bool, true, false, eqb, ◌&&◌, List, [], ◌∷◌, length, get_or, Some, None, refl, ap, arith}
use Rattle.std.proofs.lemmas.Bool.Decides.{nat_tests}
use Rattle.std.specs.Char.{is_ascii_digit}
use Rattle.std.specs.List.{list_all}
use Rattle.std.specs.Str.Parse.{digits_value}
use Rattle.std.proofs.lemmas.Fmt.{decimal_is_IsNumeral, length-decimal-le}
use Rattle.run_model.specs.Numbers.{decimal, is_decimal}
use Rattle.esa_words.proofs.Digits.{parts_of, is_decimal_text, digit_is}
use Rattle.asm_model.specs.Words.{within, capped, is_capital, is_name, is_name_byte, name_of, number_of}
use Rattle.text_law.proofs.Marks.{AllIn, Free, both_left, both_right, free_below}

-- ---- digits

digits_in : (xs : List ℕ) → list_all is_ascii_digit xs ≡ true → AllIn 48 57 xs
digits_in [] h = tt
digits_in (x ∷ xs) h =
    let d = digit_is x (both_left (is_ascii_digit x) (list_all is_ascii_digit xs) h) in (
      (d.0, d.1),
      digits_in xs (both_right (is_ascii_digit x) (list_all is_ascii_digit xs) h),
    )

pub decimal_in : (n : ℕ) → n < 65536 → AllIn 48 57 (decimal n)
decimal_in n h =
    digits_in (decimal n) (parts_of (decimal n) (is_decimal_text n (omega arith))).digits

pub decimal_some : (n : ℕ) → n < 65536 → 0 < length (decimal n)
decimal_some n h = (parts_of (decimal n) (is_decimal_text n (omega arith))).some

pub decimal_long : (n : ℕ) → n < 65536 → length (decimal n) ≤ 5
decimal_long n h = length-decimal-le 5 n (omega arith) (omega arith) (omega arith)

-- a mark below the digits
pub unmarked : (k n : ℕ) → k < 48 → n < 65536 → Free (λ b. eqb b k) (decimal n)
unmarked k n l h = free_below k 48 57 (decimal n) l (decimal_in n h)

-- ---- values

pub value_is : (n : ℕ) → n < 65536 → capped (digits_value 10 (decimal n)) ≡ n
value_is n h =
    let v : digits_value 10 (decimal n) ≡ n = (decimal_is_IsNumeral n (omega arith)).1 in
    omega arith

pub number_is : (n : ℕ) → n < 65536 → number_of (decimal n) ≡ Some n
unfolding number_of
number_is n h =
    let d : is_decimal (decimal n) ≡ true = is_decimal_text n (omega arith) in
    rw d (ap Some (value_is n h))

-- ---- a decimal is no name

first_in :
    (xs : List ℕ) → 0 < length xs → AllIn 48 57 xs
    → (48 ≤ get_or xs 0 0) × (get_or xs 0 0 ≤ 57)
first_in [] l h = absurd (omega arith)
first_in (x ∷ xs) l h = h.0

pub first_digit :
    (n : ℕ) → n < 65536 → (48 ≤ get_or (decimal n) 0 0) × (get_or (decimal n) 0 0 ≤ 57)
first_digit n h = first_in (decimal n) (decimal_some n h) (decimal_in n h)

no_capital : (b : ℕ) → b ≤ 57 → is_capital b ≡ false
no_capital b h = grind (arith, nat_tests)

and_none : (b c : Bool) → (b && (false && c)) ≡ false
and_none true c = refl
and_none false c = refl

-- a text that begins with no letter is no name
pub no_name : (w : List ℕ) → get_or w 0 0 ≤ 57 → name_of w ≡ None
unfolding name_of is_name
no_name w h =
    rw (no_capital (get_or w 0 0) h)
    (rw (and_none (within 1 8 (length w)) (list_all is_name_byte w)) refl)
