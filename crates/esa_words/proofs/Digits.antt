-- The digits of a number, and the number of digits.
use Rattle.std.proofs.Common.{◌≡◌, ℕ, zero, suc, ◌+◌, ◌-◌, ◌*◌, ◌/◌, ◌%◌, ◌^◌, ◌<◌, ◌≤◌, Bool, true, false, List, [], ◌∷◌, length, take, get_or, min, sym, ◌∙◌, ap, refl, arith, length-append, ◌⊎◌, inl, inr, Some, None, nat_le}
use Rattle.std.specs.Fmt.{decimal}
use Rattle.std.specs.Int.{IsInRange}
use Rattle.std.specs.List.{list_all}
use Rattle.std.specs.Char.{is_ascii_digit, digit_value}
use Rattle.std.specs.Str.Parse.{digits_value}
use Rattle.std.proofs.lemmas.Fmt.{decimal_step, decimal_is_IsNumeral, decimal_digit, decimal_nonempty, first_decimal, decimal-digits_value}
use Rattle.std.proofs.lemmas.Str.Parse.{IsDigitsTest, IsNumeralModel, numerals_by_value}
use Rattle.std.proofs.lemmas.Int.Digits.{digits_value_more}
use Rattle.std.proofs.lemmas.Bool.Decides.{nat_tests}
use Rattle.run_model.specs.Numbers.{is_decimal, number_up_to}

pub length_step :
    (n : ℕ) → 10 ≤ n → n < 2 ^ 64 → length (decimal n) ≡ length (decimal (n / 10)) + 1
length_step n h g =
    ap length (decimal_step n h g)
    ∙ length-append (decimal (n / 10)) ((48 + n % 10) ∷ [])

pub digit_at :
    (t : List ℕ) (i : ℕ) → i < length t → list_all is_ascii_digit t ≡ true
    → is_ascii_digit (get_or t i 0) ≡ true
digit_at [] i lt h = absurd (omega arith)
digit_at (x ∷ xs) zero lt h = grind (arith, nat_tests)
digit_at (x ∷ xs) (suc i) lt h = digit_at xs i (omega arith) (grind (arith, nat_tests))

pub digit_is : (b : ℕ) → is_ascii_digit b ≡ true → (48 ≤ b) × (b ≤ 57) × (digit_value b ≡ b - 48)
digit_is b h = (grind (arith, nat_tests), grind (arith, nat_tests), grind (arith, nat_tests))

pub clipped_more :
    (t : List ℕ) (i v most : ℕ) → i < length t → list_all is_ascii_digit t ≡ true
    → v ≡ min (digits_value 10 (take i t)) (most + 1)
    → min (v * 10 + (get_or t i 0 - 48)) (most + 1)
    ≡ min (digits_value 10 (take (i + 1) t)) (most + 1)
clipped_more t i v most lt h e =
    let m = digits_value_more 10 t i lt in
    let d = digit_is (get_or t i 0) (digit_at t i lt h) in
    omega arith

-- decimals as std knows them
range_of : (b : ℕ) → is_ascii_digit b ≡ true → IsInRange 48 57 b
range_of b h = let d = digit_is b h in (d.0, d.1)

tells_digits : IsDigitsTest (λ ds. list_all is_ascii_digit ds ≡ true)
tells_digits = record {
  empty = refl;
  parts = λ c cs h. (range_of c (grind (arith, nat_tests)), grind (arith, nat_tests));
  more = λ c cs r h. let low = r.0 in let high = r.1 in grind (arith, nat_tests);
}

own : IsNumeralModel (λ ds. list_all is_ascii_digit ds ≡ true) (digits_value 10)
own = numerals_by_value (λ ds. list_all is_ascii_digit ds ≡ true) tells_digits

pub record Parts (t : List ℕ) : Type 0 where
  pub some : 0 < length t
  pub digits : list_all is_ascii_digit t ≡ true
  pub needed : get_or t 0 0 ≡ 48 → length t ≡ 1

pub parts_of : (t : List ℕ) → is_decimal t ≡ true → Parts t
unfolding is_decimal
parts_of t h = record {
  some = grind (arith, nat_tests);
  digits = grind (arith, nat_tests);
  needed = λ z. grind (arith, nat_tests);
}

whole : (t : List ℕ) → Parts t → is_decimal t ≡ true
unfolding is_decimal
whole t p =
    let some = p.some in
    let digits = p.digits in
    let needed = p.needed in
    grind (arith, nat_tests)

pub text_of :
    (t : List ℕ) → is_decimal t ≡ true → digits_value 10 t < 2 ^ 64
    → t ≡ decimal (digits_value 10 t)
text_of t h small =
    let p = parts_of t h in
    sym (decimal-digits_value own t p.digits p.some p.needed small)

needed_zero : (n : ℕ) → n < 2 ^ 64 → get_or (decimal n) 0 0 ≡ 48 → length (decimal n) ≡ 1
needed_zero zero h z = ap length (decimal_digit 0 (omega arith))
needed_zero (suc n) h z = let f = first_decimal (suc n) (omega arith) h in absurd (omega arith)

pub is_decimal_text : (n : ℕ) → n < 2 ^ 64 → is_decimal (decimal n) ≡ true
is_decimal_text n h = whole (decimal n) (record {
  some = decimal_nonempty n h;
  digits = own.from (decimal n) (decimal_is_IsNumeral n h).0.1;
  needed = needed_zero n h;
})

-- ---- a number up to a greatest one
cases_bool : (b : Bool) → (b ≡ true) ⊎ (b ≡ false)
cases_bool true = inl refl
cases_bool false = inr refl

pub not_decimal : (most : ℕ) (t : List ℕ) → is_decimal t ≡ false → number_up_to most t ≡ None
unfolding number_up_to
not_decimal most t h = rw h refl

pub too_great : (most : ℕ) (t : List ℕ) → most < digits_value 10 t → number_up_to most t ≡ None
unfolding number_up_to
too_great most t h =
    let no : nat_le (digits_value 10 t) most ≡ false = grind (arith, nat_tests) in
    elim (cases_bool (is_decimal t)) [
      | inl y ↦ rw (y, no) refl
      | inr n ↦ rw n refl
    ]

pub is_number :
    (most : ℕ) (t : List ℕ) → is_decimal t ≡ true → digits_value 10 t ≤ most
    → number_up_to most t ≡ Some (digits_value 10 t)
unfolding number_up_to
is_number most t h le =
    let yes : nat_le (digits_value 10 t) most ≡ true = grind (arith, nat_tests) in
    rw (h, yes) refl

pub of_text : (most n : ℕ) → n ≤ most → most < 2 ^ 64 → number_up_to most (decimal n) ≡ Some n
of_text most n le h =
    let v : digits_value 10 (decimal n) ≡ n = (decimal_is_IsNumeral n (omega arith)).1 in
    is_number most (decimal n) (is_decimal_text n (omega arith)) (omega arith) ∙ ap (λ x. Some x) v

pub no_text :
    (most n : ℕ) (t : List ℕ) → most < 2 ^ 64 → number_up_to most t ≡ None
    → n ≤ most → t ≡ decimal n → ⊥
no_text most n t h none le e =
    let other : number_up_to most t ≡ Some n = ap (number_up_to most) e ∙ of_text most n le h in
    cc
