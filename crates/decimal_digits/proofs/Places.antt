-- Digits in the bytes of a field.
use Rattle.std.proofs.Common.{◌≡◌, ℕ, zero, suc, ◌+◌, ◌-◌, ◌*◌, ◌/◌, ◌%◌, ◌^◌, ◌<◌, ◌≤◌, ◌&&◌, List, [], ◌∷◌, ◌++◌, length, take, drop, set, get_or, length-take, append_assoc, sym, ◌∙◌, ap, refl, arith, add-one, eqb, leb, not, inl, inr}
use Rattle.std.proofs.lemmas.List.{take_more, length_push, drop-set, take-append-drop, drop_all}
use Rattle.std.proofs.Math.Seq.{take-set-lt}
use Rattle.std.proofs.lemmas.Bool.Decides.{nat_tests}
use Rattle.std.proofs.lemmas.List.Folds.{list_all_more}
use Rattle.std.proofs.Math.Nat.{pow-suc, pow-le-pow_right, div-eq_of_lt, div-div-eq-div-mul}
use Rattle.std.proofs.lemmas.Nat.{pow-add, le-div}
use Rattle.std.proofs.lemmas.Bool.{cases_lt}
use Rattle.esa_model.specs.Packed.{pair, is_pair, all_pairs, body, pairs}

pub body_push : (bs : List ℕ) (b : ℕ) → body (bs ++ b ∷ []) ≡ body bs * 100 + pair b
body_push [] b = omega arith
body_push (x ∷ xs) b =
    let r = body_push xs b in
    let l = length_push xs b in
    let p : 100 ^ length (xs ++ b ∷ []) ≡ 100 ^ length xs * 100 =
    ap (λ n. 100 ^ n) l ∙ rw add-one (pow-suc 100 (length xs)) in
    let q = ap (λ z. pair x * z) p in
    omega arith

pub body_more : (bs : List ℕ) (i : ℕ) → i < length bs
    → body (take (i + 1) bs) ≡ body (take i bs) * 100 + pair (get_or bs i 0)
body_more bs i h = ap body (take_more bs i 0 h) ∙ body_push (take i bs) (get_or bs i 0)

pub pairs_more : (bs : List ℕ) (i : ℕ) → i < length bs
    → all_pairs (take (i + 1) bs) ≡ (all_pairs (take i bs) && is_pair (get_or bs i 0))
pairs_more bs i h = list_all_more is_pair bs i 0 h

pub grows : (v x i : ℕ) → v < 100 ^ i → x < 100 → v * 100 + x < 100 ^ (i + 1)
grows v x i h g = let s : 100 ^ (i + 1) ≡ 100 ^ i * 100 = rw add-one (pow-suc 100 i) in omega arith

pub within : (i : ℕ) → i ≤ 15 → 100 ^ i ≤ 100 ^ 15
within i h = let p : 0 < 100 = omega arith in pow-le-pow_right p h

-- ---- a byte more from the right
power_step : (k : ℕ) → 100 ^ (k + 1) ≡ 100 ^ k * 100
power_step k = rw add-one (pow-suc 100 k)

pub hundred_pos : (k : ℕ) → 0 < 100 ^ k
hundred_pos zero = omega arith
hundred_pos (suc k) = let r = hundred_pos k in rw (pow-suc 100 k) (omega arith)

pub high_step : (m k : ℕ) → m / 100 ^ (k + 1) ≡ m / 100 ^ k / 100
high_step m k = ap (λ w. m / w) (power_step k) ∙ sym (div-div-eq-div-mul m (100 ^ k) 100)

filled : (s : List ℕ) (n j b : ℕ) → j < n → n ≤ length s
    → drop j (take n (set s j b)) ≡ b ∷ drop (j + 1) (take n s)
filled s n j b h g =
    ap (drop j) (take-set-lt n s j b h) ∙ drop-set (take n s) j b (simp length-take (omega arith))

pub pairs_step : (s : List ℕ) (n j left b : ℕ) → j < n → n ≤ length s
    → b ≡ left % 100 / 10 * 16 + left % 10
    → pairs j (left / 100) ++ drop j (take n (set s j b))
    ≡ pairs (j + 1) left ++ drop (j + 1) (take n s)
pairs_step s n j left b h g e =
    let rest = drop (j + 1) (take n s) in
    ap (λ z. pairs j (left / 100) ++ z) (filled s n j b h g)
    ∙ ap (λ z. pairs j (left / 100) ++ (z ∷ rest)) e
    ∙ sym (append_assoc (pairs j (left / 100)) ((left % 100 / 10 * 16 + left % 10) ∷ []) rest)
    ∙ rw add-one refl

pub field_is : (new old ps : List ℕ) (n x : ℕ) → n + 1 ≡ length old → take n new ≡ ps
    → drop n new ≡ drop n (set old n x)
    → new ≡ ps ++ x ∷ []
field_is new old ps n x e front rest =
    let lt : n < length old = omega arith in
    sym (take-append-drop n new)
    ∙ ap (λ z. z ++ drop n new) front
    ∙ ap (λ z. ps ++ z) (rest ∙ drop-set old n x lt)
    ∙ ap (λ z. ps ++ (x ∷ z)) (drop_all (n + 1) old (omega arith))

-- ---- the digits that are lost
ten_hundred : (n : ℕ) → 10 ^ (2 * n) ≡ 100 ^ n
ten_hundred zero = refl
ten_hundred (suc n) =
    let e : 2 * suc n ≡ 2 * n + 2 = omega arith in
    let r = ten_hundred n in
    ap (λ i. 10 ^ i) e ∙ pow-add 10 (2 * n) 2 ∙ ap (λ x. x * 100) r ∙ sym (pow-suc 100 n)

pub field_limit : (l n : ℕ) → l ≡ n + 1 → 10 ^ (2 * l - 1) ≡ 100 ^ n * 10
field_limit l n e =
    let q : 2 * l - 1 ≡ 2 * n + 1 = omega arith in
    ap (λ i. 10 ^ i) q ∙ pow-add 10 (2 * n) 1 ∙ ap (λ x. x * 10) (ten_hundred n)

pub lost_is : (m n : ℕ) → not (eqb (m / 10 / 100 ^ n) 0) ≡ leb (100 ^ n * 10) m
lost_is m n =
    let c = 100 ^ n in
    let pos = hundred_pos n in
    elim (cases_lt m (c * 10)) [
      | inl small ↦ let z : m / 10 / c ≡ 0 = div-eq_of_lt (omega arith) in grind (arith, nat_tests)
      | inr large ↦ let g = le-div 1 (m / 10) c pos (omega arith) in grind (arith, nat_tests)
    ]
