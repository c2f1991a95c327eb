-- A part of a list: so many elements behind so many.
use Rattle.std.proofs.Common.{◌≡◌, ℕ, zero, suc, ◌+◌, ◌-◌, ◌≤◌, List, [], ◌∷◌, ◌++◌, length, take, drop, refl, sym, ap, ◌∙◌, arith}
use Rattle.std.specs.Prelude.{replicate}
use Rattle.std.proofs.lemmas.List.{length-drop}

pub take_append : {A : Type 0} (n : ℕ) (xs ys : List A)
    → take n (xs ++ ys) ≡ take n xs ++ take (n - length xs) ys
take_append zero xs ys =
    let none : 0 ≡ 0 - length xs = omega arith in ap (λ q. take q ys) none
take_append (suc n) [] ys =
    let all : suc n ≡ suc n - 0 = omega arith in ap (λ q. take q ys) all
take_append (suc n) (x ∷ xs) ys =
    let left : n - length xs ≡ suc n - suc (length xs) = omega arith in
    ap (λ z. x ∷ z) (take_append n xs ys) ∙ ap (λ q. x ∷ (take n xs ++ take q ys)) left

pub drop_append : {A : Type 0} (n : ℕ) (xs ys : List A)
    → drop n (xs ++ ys) ≡ drop n xs ++ drop (n - length xs) ys
drop_append zero xs ys =
    let none : 0 ≡ 0 - length xs = omega arith in ap (λ q. xs ++ drop q ys) none
drop_append (suc n) [] ys =
    let all : suc n ≡ suc n - 0 = omega arith in ap (λ q. drop q ys) all
drop_append (suc n) (x ∷ xs) ys =
    let left : n - length xs ≡ suc n - suc (length xs) = omega arith in
    drop_append n xs ys ∙ ap (λ q. drop n xs ++ drop q ys) left

pub part_append : {A : Type 0} (n k : ℕ) (xs ys : List A)
    → take n (drop k (xs ++ ys))
    ≡ take n (drop k xs) ++ take (n - (length xs - k)) (drop (k - length xs) ys)
part_append n k xs ys =
    let long : length (drop k xs) ≡ length xs - k = length-drop k xs in
    ap (λ z. take n z) (drop_append k xs ys)
    ∙ take_append n (drop k xs) (drop (k - length xs) ys)
    ∙ ap (λ q. take n (drop k xs) ++ take (n - q) (drop (k - length xs) ys)) long

-- ---- of a list of one element again and again

drop_alike : {A : Type 0} (k m : ℕ) (x : A) → drop k (replicate m x) ≡ replicate (m - k) x
drop_alike zero m x = let all : m ≡ m - 0 = omega arith in ap (λ q. replicate q x) all
drop_alike (suc k) zero x =
    let none : 0 ≡ 0 - suc k = omega arith in ap (λ q. replicate q x) none
drop_alike (suc k) (suc m) x =
    let left : m - k ≡ suc m - suc k = omega arith in
    drop_alike k m x ∙ ap (λ q. replicate q x) left

take_alike : {A : Type 0} (n m : ℕ) (x : A)
    → take n (replicate m x) ≡ replicate (m - (m - n)) x
take_alike zero m x =
    let none : 0 ≡ m - (m - 0) = omega arith in ap (λ q. replicate q x) none
take_alike (suc n) zero x =
    let none : 0 ≡ 0 - (0 - suc n) = omega arith in ap (λ q. replicate q x) none
take_alike (suc n) (suc m) x =
    let more : suc (m - (m - n)) ≡ suc m - (suc m - suc n) = omega arith in
    ap (λ z. x ∷ z) (take_alike n m x) ∙ ap (λ q. replicate q x) more

pub part_alike : {A : Type 0} (n k m q : ℕ) (x : A) → q ≡ m - k - (m - k - n)
    → replicate q x ≡ take n (drop k (replicate m x))
part_alike n k m q x e =
    ap (λ z. replicate z x) e ∙ sym (take_alike n (m - k) x)
    ∙ sym (ap (λ z. take n z) (drop_alike k m x))
