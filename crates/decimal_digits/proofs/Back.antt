-- A written field, read back.
use Rattle.std.proofs.Common.{◌≡◌, ℕ, zero, suc, ◌+◌, ◌-◌, ◌*◌, ◌/◌, ◌%◌, ◌^◌, ◌<◌, Bool, true, false, ◌&&◌, ltb, List, [], ◌∷◌, ◌++◌, length, take, get_or, sym, ◌∙◌, ap, refl, arith}
use Rattle.std.proofs.lemmas.List.{length_push}
use Rattle.std.proofs.Math.Seq.{take-append_seam, get_or-append_seam}
use Rattle.std.proofs.lemmas.Bool.Decides.{nat_tests}
use Rattle.std.proofs.Math.Nat.{pow-suc}
use Rattle.std.proofs.lemmas.Nat.{div-add-mod', mod_below, mod-mul-add, mul-add-lt}
use Rattle.esa_model.specs.Packed.{pair, is_pair, all_pairs, body, front, last, pairs, written, sign_code, is_sign, is_minus}
use Rattle.decimal_digits.specs.Meaning.{WrittenIsRead}
use Rattle.decimal_digits.proofs.Scales.{tens_pos}
use Rattle.decimal_digits.proofs.Places.{body_push, hundred_pos, field_limit}

-- the low digits of a number, those at its end apart
pub low_digits : (m d c : ℕ) → 0 < d → 0 < c → m / d % c * d + m % d ≡ m % (c * d)
low_digits m d c dp cp =
    let q = div-add-mod' (m / d) c in
    let p : m / d * d ≡ (m / d / c * c + m / d % c) * d = ap (λ z. z * d) (sym q) in
    let whole = div-add-mod' m d in
    let all : m ≡ m / d / c * (c * d) + (m / d % c * d + m % d) = omega arith in
    let l = mul-add-lt (m / d % c) d (m % d) c (mod_below (m / d) c cp) (mod_below m d dp) in
    let small : m / d % c * d + m % d < c * d = omega arith in
    sym (ap (λ x. x % (c * d)) all ∙ mod-mul-add (m / d / c) (c * d) (m / d % c * d + m % d) small)

two_digits : (m : ℕ) → pair (m % 100 / 10 * 16 + m % 10) ≡ m % 100
two_digits m = omega arith

are_digits : (m : ℕ) → is_pair (m % 100 / 10 * 16 + m % 10) ≡ true
are_digits m = grind (arith, nat_tests)

push_more : (x a b : Bool) → (x && a) ≡ true → (a ≡ true → b ≡ true) → (x && b) ≡ true
push_more true a b h f = f h
push_more false a b h f = h

pairs_push : (bs : List ℕ) (b : ℕ) → all_pairs bs ≡ true → is_pair b ≡ true
    → all_pairs (bs ++ b ∷ []) ≡ true
pairs_push [] b h g = ap (λ (x : Bool). x && true) g
pairs_push (x ∷ xs) b h g =
    let more : Bool = all_pairs (xs ++ b ∷ []) in
    push_more (is_pair x) (all_pairs xs) more h (λ t. pairs_push xs b t g)

length-pairs : (n m : ℕ) → length (pairs n m) ≡ n
length-pairs zero m = refl
length-pairs (suc n) m =
    let r = length-pairs n (m / 100) in
    let l = length_push (pairs n (m / 100)) (m % 100 / 10 * 16 + m % 10) in
    omega arith

body-pairs : (n m : ℕ) → body (pairs n m) ≡ m % 100 ^ n
body-pairs zero m = omega arith
body-pairs (suc n) m =
    body_push (pairs n (m / 100)) (m % 100 / 10 * 16 + m % 10)
    ∙ ap (λ x. x * 100 + pair (m % 100 / 10 * 16 + m % 10)) (body-pairs n (m / 100))
    ∙ ap (λ x. m / 100 % 100 ^ n * 100 + x) (two_digits m)
    ∙ low_digits m 100 (100 ^ n) (hundred_pos 1) (hundred_pos n)
    ∙ ap (λ x. m % x) (sym (pow-suc 100 n))

pairs_are : (n m : ℕ) → all_pairs (pairs n m) ≡ true
pairs_are zero m = refl
pairs_are (suc n) m =
    let front = pairs_are n (m / 100) in
    pairs_push (pairs n (m / 100)) (m % 100 / 10 * 16 + m % 10) front (are_digits m)

sign_small : (negative : Bool) → sign_code negative < 16
sign_small true = omega arith
sign_small false = omega arith

sign_is : (negative : Bool) → is_sign (sign_code negative) ≡ true
sign_is true = refl
sign_is false = refl

sign_back : (negative : Bool) → is_minus (sign_code negative) ≡ negative
sign_back true = refl
sign_back false = refl

-- the parts of a field whose last byte is shown
front_push : (bs : List ℕ) (x : ℕ) → front (bs ++ x ∷ []) ≡ bs
front_push bs x =
    let l = length_push bs x in
    let e : length (bs ++ x ∷ []) - 1 ≡ length bs = omega arith in
    ap (λ k. take k (bs ++ x ∷ [])) e ∙ take-append_seam bs (x ∷ [])

last_push : (bs : List ℕ) (x : ℕ) → last (bs ++ x ∷ []) ≡ x
last_push bs x =
    let l = length_push bs x in
    let e : length (bs ++ x ∷ []) - 1 ≡ length bs = omega arith in
    ap (λ k. get_or (bs ++ x ∷ []) k 0) e ∙ get_or-append_seam bs x [] 0

abbrev field_by : List ℕ → ℕ → Bool
field_by ps x = all_pairs ps && (ltb (x / 16) 10 && is_sign (x % 16))

pub written_is_read : WrittenIsRead
unfolding written
written_is_read n m negative some =
    let ps = pairs (n - 1) (m / 10) in
    let s = sign_code negative in
    let x : ℕ = m % 10 * 16 + s in
    let f = front_push ps x in
    let l = last_push ps x in
    let small = sign_small negative in
    let high : x / 16 ≡ m % 10 = omega arith in
    let low : x % 16 ≡ s = omega arith in
    let digit : ltb (m % 10) 10 ≡ true = grind (arith, nat_tests) in
    record {
      packed = ap (λ z. field_by z (last (ps ++ x ∷ []))) f
          ∙ ap (λ z. field_by ps z) l
          ∙ ap (λ (z : Bool). z && (ltb (x / 16) 10 && is_sign (x % 16)))
          (pairs_are (n - 1) (m / 10))
          ∙ ap (λ z. ltb z 10 && is_sign (x % 16)) high
          ∙ ap (λ (z : Bool). z && is_sign (x % 16)) digit
          ∙ ap is_sign low
          ∙ sign_is negative;
      sign = ap (λ z. is_minus (z % 16)) l ∙ ap is_minus low ∙ sign_back negative;
      magnitude = ap (λ z. body z * 10 + last (ps ++ x ∷ []) / 16) f
          ∙ ap (λ z. body ps * 10 + z / 16) l
          ∙ ap (λ z. body ps * 10 + z) high
          ∙ ap (λ z. z * 10 + m % 10) (body-pairs (n - 1) (m / 10))
          ∙ low_digits m 10 (100 ^ (n - 1)) (tens_pos 1) (hundred_pos (n - 1))
          ∙ ap (λ z. m % z) (sym (field_limit n (n - 1) (omega arith)));
    }
