-- One less in a list that ascends.
use Rattle.std.proofs.Common.{◌≡◌, ℕ, ◌+◌, ◌<◌, ◌≤◌, Bool, true, false, not, cond, eqb, ltb, List, [], ◌∷◌, length, get_or, refl, sym, ap, subst, ◌∙◌, arith}
use Rattle.std.specs.Prelude.{Some, None}
use Rattle.std.specs.List.{remove}
use Rattle.std.proofs.lemmas.Bool.Decides.{nat_tests}
use Rattle.sparing.specs.Pools.{holds, Ascends, put, place_with, without, TakenOut}
use Rattle.sparing.proofs.First.{one_more, first_with, place_found, place_missed}

ascends_from : {X : Type 0} (f : X → ℕ) (j k : ℕ) (xs : List X) → j ≤ k → Ascends f k xs
    → Ascends f j xs
ascends_from f j k [] h a = tt
ascends_from f j k (x ∷ xs) h a = (omega (arith, a.0), a.1, a.2)

-- ---- the first

pub ascends_tail : {X : Type 0} (f : X → ℕ) (x : X) (xs : List X) → Ascends f 0 (x ∷ xs)
    → Ascends f 0 xs
ascends_tail f x xs a = ascends_from f 0 (f x + 1) xs (omega arith) a.2

pub head_there : {X : Type 0} (xs : List X) (x : X) → 0 < length xs → x ≡ get_or xs 0 x
    → xs ≡ x ∷ remove xs 0
head_there [] x h e = absurd (omega arith)
head_there (y ∷ ys) x h e = ap (λ q. q ∷ ys) (sym e)

-- ---- the first with a number

without_by : {X : Type 0} (f : X → ℕ) (k : ℕ) (y : X) (ys : List X) (t : Bool)
    → remove ys (first_with f k ys) ≡ without f k ys
    → remove (y ∷ ys) (cond (not t) (1 + first_with f k ys) 0) ≡ cond t ys (y ∷ without f k ys)
without_by f k y ys true h = refl
without_by f k y ys false h =
    ap (remove (y ∷ ys)) (one_more (first_with f k ys)) ∙ ap (λ q. y ∷ q) h

without_there : {X : Type 0} (f : X → ℕ) (k : ℕ) (ys : List X)
    → remove ys (first_with f k ys) ≡ without f k ys
without_there f k [] = refl
without_there f k (y ∷ ys) = without_by f k y ys (eqb (f y) k) (without_there f k ys)

found_by : {X : Type 0} (f : X → ℕ) (k : ℕ) (x y : X) (ys : List X) (t : Bool) → eqb (f y) k ≡ t
    → (first_with f k ys < length ys → x ≡ get_or ys (first_with f k ys) x → f x ≡ k)
    → cond (not t) (1 + first_with f k ys) 0 < length ys + 1
    → x ≡ get_or (y ∷ ys) (cond (not t) (1 + first_with f k ys) 0) x → f x ≡ k
found_by f k x y ys true e rest h is = ap f is ∙ grind (arith, nat_tests)
found_by f k x y ys false e rest h is =
    rest (omega arith) (is ∙ ap (λ q. get_or (y ∷ ys) q x) (one_more (first_with f k ys)))

found_there : {X : Type 0} (f : X → ℕ) (k : ℕ) (ys : List X) (x : X)
    → first_with f k ys < length ys → x ≡ get_or ys (first_with f k ys) x → f x ≡ k
found_there f k [] x h is = absurd (omega arith)
found_there f k (y ∷ ys) x h is =
    found_by f k x y ys (eqb (f y) k) refl (found_there f k ys x) (omega arith) is

-- ---- none with it

absent_by : (k m r n : ℕ) (t : Bool) → eqb m k ≡ t → n + 1 ≤ cond (not t) (1 + r) 0 → n ≤ r
absent_by k m r n true e h = absurd (omega arith)
absent_by k m r n false e h = omega arith

absent_not : (k m r n : ℕ) (t : Bool) → eqb m k ≡ t → n + 1 ≤ cond (not t) (1 + r) 0
    → cond {A = ℕ} (eqb m k) 1 0 ≡ 0
absent_not k m r n true e h = absurd (omega arith)
absent_not k m r n false e h = grind (arith, nat_tests)

absent_there : {X : Type 0} (f : X → ℕ) (k : ℕ) (ys : List X) → length ys ≤ first_with f k ys
    → holds f k ys ≡ 0
absent_there f k [] h = refl
absent_there f k (y ∷ ys) h =
    let at = first_with f k ys in
    let one = absent_not k (f y) at (length ys) (eqb (f y) k) refl (omega arith) in
    let below = absent_by k (f y) at (length ys) (eqb (f y) k) refl (omega arith) in
    let rest = absent_there f k ys below in
    omega (arith, one, rest)

-- ---- what is left ascends

ascends_without_by : {X : Type 0} (f : X → ℕ) (j k : ℕ) (y : X) (ys : List X) (t : Bool)
    → Ascends f j (y ∷ ys) → Ascends f (f y + 1) (without f k ys)
    → Ascends f j (cond t ys (y ∷ without f k ys))
ascends_without_by f j k y ys true a h = ascends_from f j (f y + 1) ys (omega (arith, a.0)) a.2
ascends_without_by f j k y ys false a h = (a.0, a.1, h)

ascends_without : {X : Type 0} (f : X → ℕ) (j k : ℕ) (ys : List X) → Ascends f j ys
    → Ascends f j (without f k ys)
ascends_without f j k [] a = tt
ascends_without f j k (y ∷ ys) a =
    ascends_without_by f j k y ys (eqb (f y) k) a (ascends_without f (f y + 1) k ys a.2)

-- ---- put in again it gives the list

put_front_by : {X : Type 0} (f : X → ℕ) (x y : X) (ys : List X) (t : Bool) → ltb (f x) (f y) ≡ t
    → f x + 1 ≤ f y → cond t (x ∷ y ∷ ys) (y ∷ put f x ys) ≡ x ∷ y ∷ ys
put_front_by f x y ys true e h = refl
put_front_by f x y ys false e h = absurd (grind (arith, nat_tests))

put_front : {X : Type 0} (f : X → ℕ) (x : X) (ys : List X) → Ascends f (f x + 1) ys
    → put f x ys ≡ x ∷ ys
put_front f x [] a = refl
put_front f x (y ∷ ys) a = put_front_by f x y ys (ltb (f x) (f y)) refl a.0

put_behind_by : {X : Type 0} (f : X → ℕ) (x y : X) (ys : List X) (t : Bool) → ltb (f x) (f y) ≡ t
    → f y + 1 ≤ f x → cond t (x ∷ y ∷ ys) (y ∷ put f x ys) ≡ y ∷ put f x ys
put_behind_by f x y ys true e h = absurd (grind (arith, nat_tests))
put_behind_by f x y ys false e h = refl

found_above_by : {X : Type 0} (f : X → ℕ) (j k : ℕ) (y : X) (ys : List X) (t : Bool)
    → eqb (f y) k ≡ t → j ≤ f y → (first_with f k ys < length ys → f y + 1 ≤ k)
    → cond (not t) (1 + first_with f k ys) 0 < length ys + 1 → j ≤ k
found_above_by f j k y ys true e low rest h = grind (arith, nat_tests)
found_above_by f j k y ys false e low rest h = let r = rest (omega arith) in omega arith

found_above : {X : Type 0} (f : X → ℕ) (j k : ℕ) (ys : List X) → Ascends f j ys
    → first_with f k ys < length ys → j ≤ k
found_above f j k [] a h = absurd (omega arith)
found_above f j k (y ∷ ys) a h =
    let rest = found_above f (f y + 1) k ys a.2 in
    found_above_by f j k y ys (eqb (f y) k) refl a.0 rest (omega arith)

put_again_by : {X : Type 0} (f : X → ℕ) (j k : ℕ) (x y : X) (ys : List X) (t : Bool)
    → eqb (f y) k ≡ t → Ascends f j (y ∷ ys)
    → (first_with f k ys < length ys → x ≡ get_or ys (first_with f k ys) x
    → ys ≡ put f x (without f k ys))
    → cond (not t) (1 + first_with f k ys) 0 < length ys + 1
    → x ≡ get_or (y ∷ ys) (cond (not t) (1 + first_with f k ys) 0) x
    → y ∷ ys ≡ put f x (cond t ys (y ∷ without f k ys))
put_again_by f j k x y ys true e a rest h is =
    sym (ap (λ q. put f q ys) is ∙ put_front f y ys a.2)
put_again_by f j k x y ys false e a rest h is =
    let inside : first_with f k ys < length ys = omega arith in
    let there : x ≡ get_or ys (first_with f k ys) x =
    is ∙ ap (λ q. get_or (y ∷ ys) q x) (one_more (first_with f k ys)) in
    let number : f x ≡ k = found_there f k ys x inside there in
    let above : f y + 1 ≤ k = found_above f (f y + 1) k ys a.2 inside in
    let behind =
    put_behind_by f x y (without f k ys) (ltb (f x) (f y)) refl (omega arith) in
    ap (λ q. y ∷ q) (rest inside there) ∙ sym behind

put_again : {X : Type 0} (f : X → ℕ) (j k : ℕ) (ys : List X) (x : X) → Ascends f j ys
    → first_with f k ys < length ys → x ≡ get_or ys (first_with f k ys) x
    → ys ≡ put f x (without f k ys)
put_again f j k [] x a h is = absurd (omega arith)
put_again f j k (y ∷ ys) x a h is =
    let rest = put_again f (f y + 1) k ys x a.2 in
    put_again_by f j k x y ys (eqb (f y) k) refl a rest (omega arith) is

-- ---- what taking out owes

pub no_place : {X : Type 0} (f : X → ℕ) (k : ℕ) (xs : List X) → place_with f k xs ≡ None
    → holds f k xs ≡ 0
no_place f k xs h = absent_there f k xs (place_missed f k xs h)

pub taken_inside : {X : Type 0} (f : X → ℕ) (k : ℕ) (xs : List X) (i : ℕ)
    → place_with f k xs ≡ Some i → i < length xs
taken_inside f k xs i h = (place_found f k xs i h).1

taken_rest : {X : Type 0} (f : X → ℕ) (k : ℕ) (xs : List X) (i : ℕ) → place_with f k xs ≡ Some i
    → remove xs i ≡ without f k xs
taken_rest f k xs i h =
    ap (remove xs) (sym (place_found f k xs i h).0) ∙ without_there f k xs

pub taken_out : {X : Type 0} (f : X → ℕ) (k : ℕ) (xs : List X) (i : ℕ) (x : X) (ys : List X)
    → Ascends f 0 xs → place_with f k xs ≡ Some i → x ≡ get_or xs i x → ys ≡ remove xs i
    → TakenOut f k x xs ys
taken_out f k xs i x ys rises h is left =
    let found = place_found f k xs i h in
    let rest : ys ≡ without f k xs = left ∙ taken_rest f k xs i h in
    let inside : first_with f k xs < length xs = omega (arith, found.0, found.1) in
    let there : x ≡ get_or xs (first_with f k xs) x =
    is ∙ ap (λ q. get_or xs q x) (sym found.0) in
    record {
      number = found_there f k xs x inside there;
      rest = rest;
      whole = put_again f 0 k xs x rises inside there ∙ ap (put f x) (sym rest);
    }

pub taken_ascends : {X : Type 0} (f : X → ℕ) (k : ℕ) (xs : List X) (i : ℕ) → Ascends f 0 xs
    → place_with f k xs ≡ Some i → Ascends f 0 (remove xs i)
taken_ascends f k xs i rises h =
    subst (λ q. Ascends f 0 q) (sym (taken_rest f k xs i h)) (ascends_without f 0 k xs rises)
