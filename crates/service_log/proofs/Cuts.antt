-- A list cut at the first element that passes a test.
use Rattle.std.proofs.Common.{◌≡◌, ℕ, suc, ◌+◌, ◌-◌, ◌<◌, ◌≤◌, Bool, true, false, not, cond, List, [], ◌∷◌, length, take, drop, ◌⊎◌, inl, inr, Option, Some, None, sym, ◌∙◌, ap, refl, arith, length-drop, nat_lt}
use Rattle.std.specs.Prelude.{position, IfSome}
use Rattle.std.specs.Borrow.{Bor}
use Rattle.std.specs.List.{slice_split, position_or_len, onto_first}
use Rattle.std.proofs.lemmas.List.{take_all}
use Rattle.std.proofs.lemmas.List.Splits.{slice_split_first, length-slice_split}
use Rattle.std.proofs.lemmas.Bool.Decides.{nat_tests}
use Rattle.run_model.specs.Script.{fields, is_blank}

pub cases_bool : (b : Bool) → (b ≡ true) ⊎ (b ≡ false)
cases_bool true = inl refl
cases_bool false = inr refl

-- ---- where the first one is

pub found_at :
    (p : ℕ → Bool) (xs : List ℕ) (i : ℕ) → position p xs ≡ Some i
    → (position_or_len p xs ≡ i) × (i < length xs)
found_at p xs i e = elim (cases_bool (nat_lt (position_or_len p xs) (length xs))) [
  | inl y ↦
      let is : position p xs ≡ Some (position_or_len p xs) = rw y refl in
      let same : position_or_len p xs ≡ i = cc in
      (same, grind (arith, nat_tests))
  | inr n ↦ let none : position p xs ≡ None = rw n refl in absurd (cc)
]

not_past : (p : ℕ → Bool) (xs : List ℕ) → position_or_len p xs < length xs → position p xs ≡ None → ⊥
not_past p xs lt e =
    let y : nat_lt (position_or_len p xs) (length xs) ≡ true = grind (arith, nat_tests) in
    let is : position p xs ≡ Some (position_or_len p xs) = rw y refl in
    absurd (cc)

-- ---- the parts

step :
    (p : ℕ → Bool) (x : ℕ) (xs : List ℕ) (b : Bool) → p x ≡ b
    → cond (not b) (1 + position_or_len p xs) 0 ≡ suc (length xs)
    → (position_or_len p xs ≡ length xs → slice_split p xs ≡ xs ∷ [])
    → slice_split p (x ∷ xs) ≡ (x ∷ xs) ∷ []
step p x xs true e h r = absurd (omega arith)
step p x xs false e h r = rw e (ap (onto_first x) (r (omega arith)))

whole :
    (p : ℕ → Bool) (xs : List ℕ) → position_or_len p xs ≡ length xs → slice_split p xs ≡ xs ∷ []
whole p [] e = refl
whole p (x ∷ xs) e = step p x xs (p x) refl e (whole p xs)

at_most : (p : ℕ → Bool) (xs : List ℕ) → position_or_len p xs ≤ length xs
at_most p [] = omega arith
at_most p (x ∷ xs) = let r = at_most p xs in elim (cases_bool (p x)) [
  | inl y ↦ rw y (omega arith)
  | inr n ↦ rw n (omega arith)
]

pub no_cut : (p : ℕ → Bool) (xs : List ℕ) → position p xs ≡ None → slice_split p xs ≡ xs ∷ []
no_cut p xs e =
    let m = at_most p xs in
    let past = λ (lt : position_or_len p xs < length xs). not_past p xs lt e in
    whole p xs (omega (arith, past))

pub cut_here :
    (p : ℕ → Bool) (xs : List ℕ) (i : ℕ) → position p xs ≡ Some i
    → slice_split p xs
    ≡ take i xs ∷ slice_split p (take (length xs - (i + 1)) (drop (i + 1) xs))
cut_here p xs i e =
    let f = found_at p xs i e in
    let l = length-drop (i + 1) xs in
    let all = take_all (length xs - (i + 1)) (drop (i + 1) xs) (omega arith) in
    slice_split_first p xs 0 (omega (arith, f.0, f.1))
    ∙ ap (λ k. take k xs ∷ slice_split p (drop (k + 1) xs)) f.0
    ∙ ap (λ x. take i xs ∷ slice_split p x) (sym all)

-- every text has a field
pub some_fields : (rest : Option (Bor (List ℕ))) → IfSome rest (λ r. 0 < length (fields r.now))
unfolding fields
some_fields None = tt
some_fields (Some r) = let e = length-slice_split is_blank r.now in omega arith
