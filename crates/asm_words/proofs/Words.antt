-- The bytes of names, and the values of digits.
use Rattle.std.proofs.Common.{◌≡◌, ℕ, zero, suc, ◌+◌, ◌-◌, ◌*◌, ◌^◌, ◌<◌, ◌≤◌, ◌⊎◌, inl, inr, Bool, true, false, cond, ◌&&◌, ◌==◌, nat_lt, List, [], ◌∷◌, length, take, drop, get_or, min, nat_le, Option, Some, None, refl, sym, ap, ◌∙◌, arith, length-take}
use Rattle.std.proofs.lemmas.Bool.Decides.{nat_tests}
use Rattle.std.specs.List.{list_all}
use Rattle.std.specs.Char.{is_ascii_digit, digit_value}
use Rattle.std.specs.Str.Parse.{digits_value, AllDigits}
use Rattle.std.proofs.lemmas.Int.Digits.{digits_value_more, digits_value-lt}
use Rattle.run_model.specs.Numbers.{is_decimal, number_up_to}
use Rattle.asm_model.specs.Words.{is_name, is_name_byte, is_capital, within, is_hex_byte, is_hexadecimal, is_quoted, quoted, capped, number_of}

both_left : (b c : Bool) → (b && c) ≡ true → b ≡ true
both_left true c h = refl
both_left false c h = absurd (cc)

both_right : (b c : Bool) → (b && c) ≡ true → c ≡ true
both_right true c h = h
both_right false c h = absurd (cc)

all_at :
    (p : ℕ → Bool) (w : List ℕ) (k : ℕ) → k < length w → list_all p w ≡ true
    → p (get_or w k 0) ≡ true
all_at p [] k l h = absurd (omega arith)
all_at p (x ∷ w) zero l h = both_left (p x) (list_all p w) h
all_at p (x ∷ w) (suc k) l h =
    all_at p w k (omega arith) (both_right (p x) (list_all p w) h)

-- ---- names

pub name_byte_at :
    (w : List ℕ) (k : ℕ) → k < length w → list_all is_name_byte w ≡ true
    → is_name_byte (get_or w k 0) ≡ true
name_byte_at w k l h = all_at is_name_byte w k l h

pub all_name_bytes : (w : List ℕ) → is_name w ≡ true → list_all is_name_byte w ≡ true
unfolding is_name
all_name_bytes w h =
    both_right (is_capital (get_or w 0 0)) (list_all is_name_byte w)
    (both_right (within 1 8 (length w)) (is_capital (get_or w 0 0) && list_all is_name_byte w) h)

-- ---- hexadecimal digits

pub hex_digit_at :
    (t : List ℕ) (i : ℕ) → i < length t → list_all is_hex_byte t ≡ true
    → is_hex_byte (get_or t i 0) ≡ true
hex_digit_at t i l h = all_at is_hex_byte t i l h

pub capped_more :
    (t : List ℕ) (i v : ℕ) → i < length t → v ≡ capped (digits_value 16 (take i t))
    → min (v * 16 + digit_value (get_or t i 0)) 4294967296
    ≡ capped (digits_value 16 (take (i + 1) t))
capped_more t i v lt e =
    let m = digits_value_more 16 t i lt in
    omega arith

hex_below : (b : ℕ) → is_hex_byte b ≡ true → digit_value b < 16
hex_below b h = grind (arith, nat_tests)

all_digits : (t : List ℕ) → list_all is_hex_byte t ≡ true → AllDigits 16 t
all_digits [] h = tt
all_digits (b ∷ t) h = (
  hex_below b (both_left (is_hex_byte b) (list_all is_hex_byte t) h),
  all_digits t (both_right (is_hex_byte b) (list_all is_hex_byte t) h),
)

power : (n : ℕ) → n ≤ 8 → 16 ^ n ≤ 4294967296
power zero h = omega arith
power (suc zero) h = omega arith
power (suc (suc zero)) h = omega arith
power (suc (suc (suc zero))) h = omega arith
power (suc (suc (suc (suc zero)))) h = omega arith
power (suc (suc (suc (suc (suc zero))))) h = omega arith
power (suc (suc (suc (suc (suc (suc zero)))))) h = omega arith
power (suc (suc (suc (suc (suc (suc (suc zero))))))) h = omega arith
power (suc (suc (suc (suc (suc (suc (suc (suc zero)))))))) h = omega arith
power (suc (suc (suc (suc (suc (suc (suc (suc (suc n))))))))) h = absurd (omega arith)

few_digits :
    (t : List ℕ) → length t ≤ 8 → list_all is_hex_byte t ≡ true
    → capped (digits_value 16 t) ≡ digits_value 16 t
few_digits t l h =
    let v = digits_value-lt 16 t (all_digits t h) in
    let p = power (length t) l in
    omega arith

-- ---- decimals

up_to_some :
    (v n : ℕ) (b : Bool) → nat_le v 4294967295 ≡ b → cond b (Some v) None ≡ Some n
    → n ≡ capped v
up_to_some v n true h e = let s : v ≡ n = cc in grind (arith, nat_tests)
up_to_some v n false h e = absurd (cc)

up_to_none :
    (v : ℕ) (b : Bool) → nat_le v 4294967295 ≡ b → cond {A = Option ℕ} b (Some v) None ≡ None
    → 4294967296 ≡ capped v
up_to_none v true h e = absurd (cc)
up_to_none v false h e = grind (arith, nat_tests)

pub decimal_some :
    (t : List ℕ) (n : ℕ) → is_decimal t ≡ true → number_up_to 4294967295 t ≡ Some n
    → n ≡ capped (digits_value 10 t)
unfolding number_up_to
decimal_some t n h e =
    let v : ℕ = digits_value 10 t in
    up_to_some v n (nat_le v 4294967295) refl
    (sym (ap (λ b. cond (b && nat_le v 4294967295) (Some v) None) h) ∙ e)

pub decimal_none :
    (t : List ℕ) → is_decimal t ≡ true → number_up_to 4294967295 t ≡ None
    → 4294967296 ≡ capped (digits_value 10 t)
unfolding number_up_to
decimal_none t h e =
    let v : ℕ = digits_value 10 t in
    up_to_none v (nat_le v 4294967295) refl
    (sym (ap (λ b. cond (b && nat_le v 4294967295) (Some v) None) h) ∙ e)

-- ---- digits between quotes

pub low_value :
    (b : ℕ) → is_hex_byte b ≡ true → b < 65 → (48 ≤ b) × (digit_value b ≡ b - 48)
low_value b h l = (grind (arith, nat_tests), grind (arith, nat_tests))

pub high_value :
    (b : ℕ) → is_hex_byte b ≡ true → 65 ≤ b → (b ≤ 70) × (digit_value b ≡ b - 65 + 10)
high_value b h l = (grind (arith, nat_tests), grind (arith, nat_tests))

pub quoted_long : (w : List ℕ) → is_hexadecimal w ≡ true → 3 < length w
quoted_long w h =
    let q = both_left (is_quoted 88 w) (nat_le (length w) 11 && list_all is_hex_byte (quoted w)) h in
    let y = both_left (nat_lt 3 (length w)) ((get_or w 0 0 == 88) && ((get_or w 1 0 == 39) && (get_or w (length w - 1) 0 == 39))) q in
    grind (arith, nat_tests)

pub quoted_digits :
    (w : List ℕ) → is_hexadecimal w ≡ true → list_all is_hex_byte (quoted w) ≡ true
quoted_digits w h =
    both_right (nat_le (length w) 11) (list_all is_hex_byte (quoted w))
    (both_right (is_quoted 88 w) (nat_le (length w) 11 && list_all is_hex_byte (quoted w)) h)

pub small_hex :
    (w : List ℕ) → is_hexadecimal w ≡ true
    → capped (digits_value 16 (quoted w)) ≡ digits_value 16 (quoted w)
small_hex w h =
    let r = both_right (is_quoted 88 w) (nat_le (length w) 11 && list_all is_hex_byte (quoted w)) h in
    let y = both_left (nat_le (length w) 11) (list_all is_hex_byte (quoted w)) r in
    let few : length w ≤ 11 = grind (arith, nat_tests) in
    let n = length-take (length w - 3) (drop 2 w) in
    few_digits (quoted w) (omega (arith, n, few)) (quoted_digits w h)

pub hex_number :
    (w : List ℕ) → is_decimal w ≡ false → is_hexadecimal w ≡ true
    → Some (digits_value 16 (quoted w)) ≡ number_of w
unfolding number_of
hex_number w d h =
    sym (ap (λ b. cond b (Some (capped (digits_value 10 w)))
    (cond (is_hexadecimal w) (Some (digits_value 16 (quoted w))) None)) d
    ∙ ap (λ b. cond b (Some (digits_value 16 (quoted w))) None) h)
