-- One more in a list that ascends.
use Rattle.std.proofs.Common.{◌≡◌, ℕ, ◌+◌, ◌<◌, ◌≤◌, Bool, true, false, not, cond, eqb, ltb, List, [], ◌∷◌, length, refl, ap, ◌∙◌, arith}
use Rattle.std.specs.List.{insert, position_or_len}
use Rattle.std.proofs.lemmas.Bool.Decides.{nat_tests}
use Rattle.sparing.specs.Pools.{holds, Ascends, put, place_above}
use Rattle.sparing.proofs.First.{one_more}

abbrev above : {X : Type 0} → (X → ℕ) → ℕ → List X → ℕ
above f n xs = position_or_len (λ x. ltb n (f x)) xs

put_there_by : {X : Type 0} (f : X → ℕ) (x y : X) (ys : List X) (t : Bool) → ltb (f x) (f y) ≡ t
    → insert ys (above f (f x) ys) x ≡ put f x ys
    → insert (y ∷ ys) (cond (not t) (1 + above f (f x) ys) 0) x
    ≡ cond t (x ∷ y ∷ ys) (y ∷ put f x ys)
put_there_by f x y ys true e h = refl
put_there_by f x y ys false e h =
    ap (λ q. insert (y ∷ ys) q x) (one_more (above f (f x) ys)) ∙ ap (λ q. y ∷ q) h

pub put_there : {X : Type 0} (f : X → ℕ) (x : X) (ys : List X)
    → insert ys (place_above f (f x) ys) x ≡ put f x ys
unfolding place_above
put_there f x [] = refl
put_there f x (y ∷ ys) = put_there_by f x y ys (ltb (f x) (f y)) refl (put_there f x ys)

-- ---- it ascends

ascends_by : {X : Type 0} (f : X → ℕ) (k : ℕ) (x y : X) (ys : List X) (t : Bool)
    → ltb (f x) (f y) ≡ t → k ≤ f x → f x < 16 → Ascends f k (y ∷ ys) → (f x ≡ f y → ⊥)
    → (f y + 1 ≤ f x → Ascends f (f y + 1) (put f x ys))
    → Ascends f k (cond t (x ∷ y ∷ ys) (y ∷ put f x ys))
ascends_by f k x y ys true e low high a ne rest =
    let l : f x + 1 ≤ f y = grind (arith, nat_tests) in
    (low, high, (l, a.1, a.2))
ascends_by f k x y ys false e low high a ne rest =
    let l : f y + 1 ≤ f x = grind (arith, nat_tests, ne) in
    (a.0, a.1, rest l)

not_first : (n m r : ℕ) → cond (eqb n m) 1 0 + r ≡ 0 → (m ≡ n → ⊥)
not_first n m r h e = grind (arith, nat_tests)

pub ascends_put : {X : Type 0} (f : X → ℕ) (k : ℕ) (x : X) (ys : List X) → k ≤ f x → f x < 16
    → Ascends f k ys → holds f (f x) ys ≡ 0 → Ascends f k (put f x ys)
ascends_put f k x [] low high a none = (low, high, tt)
ascends_put f k x (y ∷ ys) low high a none =
    let other = not_first (f y) (f x) (holds f (f x) ys) none in
    ascends_by f k x y ys (ltb (f x) (f y)) refl low high a other
    (λ l. ascends_put f (f y + 1) x ys l high a.2 (omega (arith, none)))

-- ---- there is room for it

few : {X : Type 0} (f : X → ℕ) (k : ℕ) (xs : List X) → k ≤ 16 → Ascends f k xs → length xs + k ≤ 16
few f k [] h a = omega arith
few f k (x ∷ xs) h a =
    let r = few f (f x + 1) xs (omega (arith, a.1)) a.2 in
    omega (arith, a.0)

put_length_by : {X : Type 0} (f : X → ℕ) (x y : X) (ys : List X) (t : Bool)
    → length (put f x ys) ≡ length ys + 1
    → length (cond t (x ∷ y ∷ ys) (y ∷ put f x ys)) ≡ length ys + 1 + 1
put_length_by f x y ys true h = omega arith
put_length_by f x y ys false h = omega arith

put_length : {X : Type 0} (f : X → ℕ) (x : X) (ys : List X) → length (put f x ys) ≡ length ys + 1
put_length f x [] = refl
put_length f x (y ∷ ys) =
    let r = put_length_by f x y ys (ltb (f x) (f y)) (put_length f x ys) in
    omega (arith, r)

pub room_for : {X : Type 0} (f : X → ℕ) (x : X) (ys : List X) → f x < 16 → Ascends f 0 ys
    → holds f (f x) ys ≡ 0 → length ys < 16
room_for f x ys high a none =
    let l = put_length f x ys in
    let r = few f 0 (put f x ys) (omega arith) (ascends_put f 0 x ys (omega arith) high a none) in
    omega arith

-- ---- how many then have a number

holds_by : {X : Type 0} (f : X → ℕ) (k : ℕ) (x y : X) (ys : List X) (t : Bool)
    → holds f k (put f x ys) ≡ cond (eqb (f x) k) 1 0 + holds f k ys
    → holds f k (cond t (x ∷ y ∷ ys) (y ∷ put f x ys))
    ≡ cond (eqb (f x) k) 1 0 + (cond (eqb (f y) k) 1 0 + holds f k ys)
holds_by f k x y ys true h = refl
holds_by f k x y ys false h = omega (arith, h)

pub holds_put : {X : Type 0} (f : X → ℕ) (k : ℕ) (x : X) (ys : List X)
    → holds f k (put f x ys) ≡ cond (eqb (f x) k) 1 0 + holds f k ys
holds_put f k x [] = refl
holds_put f k x (y ∷ ys) = holds_by f k x y ys (ltb (f x) (f y)) (holds_put f k x ys)
