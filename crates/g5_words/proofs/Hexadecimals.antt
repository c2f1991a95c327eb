-- Texts of capital hexadecimal digits are numerals of std's parser.
use Rattle.std.proofs.Common.{◌≡◌, ℕ, ◌<◌, ◌^◌, ◌&&◌, ◌==◌, Bool, true, false, List, [], ◌∷◌, length, Some, Result, Ok, Err, refl, ap, sym, subst, true≢false, arith}
use Rattle.std.specs.Char.{digit_value}
use Rattle.std.specs.List.{list_all}
use Rattle.std.specs.Str.Parse.{AllDigits, IsNumeral, ParsesUnsigned, digits_value, without_leading_plus}
use Rattle.std.specs.Result.{result_ok}
use Rattle.std.proofs.lemmas.Int.Digits.{digits_value-lt}
use Rattle.program_model.specs.Addresses.{is_capital_digit}

digit_below : (b : ℕ) → is_capital_digit b ≡ true → digit_value b < 16
digit_below b e = grind arith

no_plus : (b : ℕ) → is_capital_digit b ≡ true → (b == 43) ≡ false
no_plus b e = grind arith

all_left : (a b : Bool) → (a && b) ≡ true → a ≡ true
all_left true b e = refl
all_left false b e = e

all_right : (a b : Bool) → (a && b) ≡ true → b ≡ true
all_right true b e = e
all_right false b e = absurd (true≢false (sym e))

pub all_digits : (t : List ℕ) → list_all is_capital_digit t ≡ true → AllDigits 16 t
all_digits [] e = tt
all_digits (b ∷ bs) e = (
  digit_below b (all_left (is_capital_digit b) (list_all is_capital_digit bs) e),
  all_digits bs (all_right (is_capital_digit b) (list_all is_capital_digit bs) e),
)

pub whole : (t : List ℕ) → list_all is_capital_digit t ≡ true → without_leading_plus t ≡ t
whole [] e = refl
whole (b ∷ bs) e =
    rw (no_plus b (all_left (is_capital_digit b) (list_all is_capital_digit bs) e)) refl

abbrev Reads : {E : Type 0} → List ℕ → Result ℕ E → Type 0
Reads t (Ok n) = (IsNumeral 16 t × (digits_value 16 t < 2 ^ 32)) × (n ≡ digits_value 16 t)
Reads t (Err e) = ¬ (IsNumeral 16 t × (digits_value 16 t < 2 ^ 32))

reads_whole : {E : Type 0} (t : List ℕ) (r : Result ℕ E) → list_all is_capital_digit t ≡ true
    → ParsesUnsigned 32 16 t r → Reads t r
reads_whole {E = E} t (Ok n) capital h = subst (λ u. Reads {E = E} u (Ok n)) (whole t capital) h
reads_whole {E = E} t (Err e) capital h = subst (λ u. Reads u (Err e)) (whole t capital) h

pub six_below : (t : List ℕ) → length t ≡ 6 → list_all is_capital_digit t ≡ true
    → digits_value 16 t < 2 ^ 24
six_below t six capital =
    subst (λ n. digits_value 16 t < 16 ^ n) six (digits_value-lt 16 t (all_digits t capital))

-- six of them are read as their number
pub six_read : {E : Type 0} (t : List ℕ) (r : Result ℕ E) → length t ≡ 6
    → list_all is_capital_digit t ≡ true → ParsesUnsigned 32 16 t r
    → result_ok r ≡ Some (digits_value 16 t)
six_read {E = E} t r six capital parses = read r (reads_whole t r capital parses)
  where
    small : digits_value 16 t < 2 ^ 32
    small = let below = six_below t six capital in omega arith

    read : (q : Result ℕ E) → Reads t q → result_ok q ≡ Some (digits_value 16 t)
    read (Ok n) h = ap Some h.1
    read (Err e) h = absurd (h ((omega (arith, six), all_digits t capital), small))
