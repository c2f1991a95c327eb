-- Bytes between two bounds, and texts cut at marks.
use Rattle.std.proofs.Common.{◌≡◌, ℕ, ◌<◌, ◌≤◌, Bool, true, false, cond, eqb, ltb, ◌&&◌, List, [], ◌∷◌, ◌++◌, refl, ◌∙◌, ap, arith}
use Rattle.std.proofs.lemmas.Bool.Decides.{nat_tests}
use Rattle.std.specs.List.{list_all, list_any, slice_split, onto_first}
use Rattle.asm_model.specs.Words.{within}
use Rattle.asm_model.specs.Line.{is_ascii}

-- ---- bytes between two bounds

abbrev pub AllIn : ℕ → ℕ → List ℕ → Type 0
AllIn low high [] = Unit {0}
AllIn low high (x ∷ xs) = ((low ≤ x) × (x ≤ high)) × AllIn low high xs

pub in_append :
    (low high : ℕ) (xs ys : List ℕ) → AllIn low high xs → AllIn low high ys
    → AllIn low high (xs ++ ys)
in_append low high [] ys h k = k
in_append low high (x ∷ xs) ys h k = (h.0, in_append low high xs ys h.1 k)

pub in_wider :
    (low high least most : ℕ) (xs : List ℕ) → least ≤ low → high ≤ most → AllIn low high xs
    → AllIn least most xs
in_wider low high least most [] l m h = tt
in_wider low high least most (x ∷ xs) l m h =
    let a = h.0.0 in
    let b = h.0.1 in
    ((omega arith, omega arith), in_wider low high least most xs l m h.1)

pub all_ascii :
    (low high : ℕ) (xs : List ℕ) → high < 128 → AllIn low high xs → list_all is_ascii xs ≡ true
all_ascii low high [] l h = refl
all_ascii low high (x ∷ xs) l h =
    let b = h.0.1 in
    let e : ltb x 128 ≡ true = grind (arith, nat_tests) in
    rw e (all_ascii low high xs l h.1)

pub both_left : (b c : Bool) → (b && c) ≡ true → b ≡ true
both_left true c h = refl
both_left false c h = absurd (cc)

pub both_right : (b c : Bool) → (b && c) ≡ true → c ≡ true
both_right true c h = h
both_right false c h = absurd (cc)

in_bounds : (low high x : ℕ) → within low high x ≡ true → (low ≤ x) × (x ≤ high)
in_bounds low high x h = (grind (arith, nat_tests), grind (arith, nat_tests))

pub in_of_test :
    (low high : ℕ) (xs : List ℕ) → list_all (within low high) xs ≡ true → AllIn low high xs
in_of_test low high [] h = tt
in_of_test low high (x ∷ xs) h = (
  in_bounds low high x (both_left (within low high x) (list_all (within low high) xs) h),
  in_of_test low high xs (both_right (within low high x) (list_all (within low high) xs) h),
)

-- ---- texts without a mark

abbrev pub Free : (ℕ → Bool) → List ℕ → Type 0
Free p [] = Unit {0}
Free p (x ∷ xs) = (p x ≡ false) × Free p xs

pub free_append :
    (p : ℕ → Bool) (xs ys : List ℕ) → Free p xs → Free p ys → Free p (xs ++ ys)
free_append p [] ys h k = k
free_append p (x ∷ xs) ys h k = (h.0, free_append p xs ys h.1 k)

below_mark : (k low x : ℕ) → k < low → low ≤ x → eqb x k ≡ false
below_mark k low x l h = grind (arith, nat_tests)

above_mark : (k high x : ℕ) → high < k → x ≤ high → eqb x k ≡ false
above_mark k high x l h = grind (arith, nat_tests)

-- a mark below the bounds, and one above them
pub free_below :
    (k low high : ℕ) (xs : List ℕ) → k < low → AllIn low high xs → Free (λ b. eqb b k) xs
free_below k low high [] l h = tt
free_below k low high (x ∷ xs) l h =
    (below_mark k low x l h.0.0, free_below k low high xs l h.1)

pub free_above :
    (k low high : ℕ) (xs : List ℕ) → high < k → AllIn low high xs → Free (λ b. eqb b k) xs
free_above k low high [] l h = tt
free_above k low high (x ∷ xs) l h =
    (above_mark k high x l h.0.1, free_above k low high xs l h.1)

pub none_any : (p : ℕ → Bool) (w : List ℕ) → Free p w → list_any p w ≡ false
none_any p [] h = refl
none_any p (x ∷ w) h = rw h.0 (none_any p w h.1)

-- ---- texts that are cut

pub split_front :
    (p : ℕ → Bool) (xs : List ℕ) (m : ℕ) (rest : List ℕ) → Free p xs → p m ≡ true
    → slice_split p (xs ++ m ∷ rest) ≡ xs ∷ slice_split p rest
split_front p [] m rest h e =
    ap (λ b. cond b ([] ∷ slice_split p rest) (onto_first m (slice_split p rest))) e
split_front p (x ∷ xs) m rest h e =
    let after : List ℕ = xs ++ m ∷ rest in
    ap (λ b. cond b ([] ∷ slice_split p after) (onto_first x (slice_split p after))) h.0
    ∙ ap (onto_first x) (split_front p xs m rest h.1 e)

pub split_none : (p : ℕ → Bool) (xs : List ℕ) → Free p xs → slice_split p xs ≡ xs ∷ []
split_none p [] h = refl
split_none p (x ∷ xs) h =
    ap (λ b. cond b ([] ∷ slice_split p xs) (onto_first x (slice_split p xs))) h.0
    ∙ ap (onto_first x) (split_none p xs h.1)
