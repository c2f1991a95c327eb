-- A list that is filled, or grows, by a function of the number.
use Rattle.std.proofs.Common.{◌≡◌, ℕ, zero, suc, ◌+◌, ◌<◌, ◌≤◌, List, [], ◌∷◌, ◌++◌, length, map, take, slice_set, refl, sym, ap, ◌∙◌, arith}
use Rattle.std.specs.List.{range_with_len}
use Rattle.std.proofs.lemmas.List.{take_more_set, take_all}
use Rattle.std.proofs.lemmas.List.FromFn.{map-range_with_len_more}

set_long : {A : Type 0} (xs : List A) (k : ℕ) (x : A) → length (slice_set xs k x) ≡ length xs
set_long [] k x = refl
set_long (y ∷ xs) zero x = refl
set_long (y ∷ xs) (suc k) x = let e = set_long xs k x in omega (arith, e)

-- the first i of n are filled
pub record Filling {A : Type 0} (f : ℕ → A) (n i : ℕ) (xs : List A) : Type 0 where
  pub long : length xs ≡ n
  pub front : take i xs ≡ map f (range_with_len 0 i)

pub filling_start : {A : Type 0} (f : ℕ → A) (n : ℕ) (xs : List A) → length xs ≡ n
    → Filling f n 0 xs
filling_start f n xs long = record { long = long; front = refl }

pub filling_next : {A : Type 0} (f : ℕ → A) (n i : ℕ) (xs : List A) (x : A) → i < n
    → Filling f n i xs → x ≡ f i → Filling f n (i + 1) (slice_set xs i x)
filling_next f n i xs x lt so is = record {
  long = set_long xs i x ∙ so.long;
  front =
      take_more_set xs i x (omega (arith, lt, so.long))
      ∙ ap (λ z. z ++ x ∷ []) so.front
      ∙ ap (λ z. map f (range_with_len 0 i) ++ z ∷ []) is
      ∙ sym (map-range_with_len_more f 0 i i (omega arith));
}

pub filling_end : {A : Type 0} (f : ℕ → A) (n i : ℕ) (xs : List A) → n ≤ i → i ≤ n
    → Filling f n i xs → xs ≡ map f (range_with_len 0 n)
filling_end f n i xs le ge so =
    let e : i ≡ n = omega (arith, le, ge) in
    sym (take_all i xs (omega (arith, le, so.long))) ∙ so.front
    ∙ ap (λ j. map f (range_with_len 0 j)) e

-- one more at the end
pub grown : {A : Type 0} (f : ℕ → A) (i : ℕ) (xs ys : List A) (x : A)
    → xs ≡ map f (range_with_len 0 i) → ys ≡ xs ++ x ∷ [] → x ≡ f i
    → ys ≡ map f (range_with_len 0 (i + 1))
grown f i xs ys x so e is =
    e
    ∙ ap (λ z. z ++ x ∷ []) so
    ∙ ap (λ z. map f (range_with_len 0 i) ++ z ∷ []) is
    ∙ sym (map-range_with_len_more f 0 i i (omega arith))

-- as far as it is filled
pub filling_up_to : {A : Type 0} (f : ℕ → A) (n k i : ℕ) (xs : List A) → i ≡ k
    → Filling f n i xs → take k xs ≡ map f (range_with_len 0 k)
filling_up_to f n k i xs e so =
    ap (λ j. take j xs) (sym e) ∙ so.front ∙ ap (λ j. map f (range_with_len 0 j)) e
