-- Pieces without a common byte are stored in either order.
use Rattle.std.proofs.Common.{◌≡◌, ◌≢◌, ℕ, ◌+◌, ◌≤◌, Bool, true, false, List, [], ◌∷◌, ◌++◌, length, refl, sym, ap, ◌∙◌, inl, inr, arith}
use Rattle.std.proofs.lemmas.List.{set_comm}
use Rattle.std.specs.Prelude.{nat_lt, ◌&&◌, ◌||◌, slice_set}
use Rattle.std.proofs.lemmas.Bool.{cases_lt}
use Rattle.esa_model.specs.Apply.{put_all}
use Rattle.esa_model.specs.Apply.{Piece, stored_all}
use Rattle.store_buffer.specs.Waiting.{meets, meets_any, clash}

abbrev pub put : Piece → List ℕ → List ℕ
put p s = put_all p.at p.bytes s

pub or_left : (a b : Bool) → (a || b) ≡ false → a ≡ false
or_left true b h = h
or_left false b h = refl

pub or_right : (a b : Bool) → (a || b) ≡ false → b ≡ false
or_right true b h = absurd cc
or_right false b h = h

pub or_none : (a b : Bool) → a ≡ false → b ≡ false → (a || b) ≡ false
or_none a b h g = rw (h, g) refl

set_after : (a b y : ℕ) (xs s : List ℕ) → a + length xs ≤ b → put_all a xs (slice_set s b y) ≡ slice_set (put_all a xs s) b y
set_after a b y [] s h = refl
set_after a b y (x ∷ xs) s h =
    let ne : b ≢ a = omega (arith, h) in
    ap (put_all (a + 1) xs) (set_comm s b a y x ne) ∙ set_after (a + 1) b y xs (slice_set s a x) (omega (arith, h))

put_after : (a b : ℕ) (xs ys s : List ℕ) → a + length xs ≤ b → put_all a xs (put_all b ys s) ≡ put_all b ys (put_all a xs s)
put_after a b xs [] s h = refl
put_after a b xs (y ∷ ys) s h =
    put_after a (b + 1) xs ys (slice_set s b y) (omega (arith, h)) ∙ ap (put_all (b + 1) ys) (set_after a b y xs s h)

pub put_comm : (p q : Piece) (s : List ℕ) → meets p q ≡ false → put p (put q s) ≡ put q (put p s)
put_comm p q s h =
    elim (cases_lt p.at (q.at + length q.bytes)) [
      | inl low ↦
          let t : nat_lt p.at (q.at + length q.bytes) ≡ true = grind (arith, low) in
          let f : nat_lt q.at (p.at + length p.bytes) ≡ false = rw t at h in
          put_after p.at q.at p.bytes q.bytes s (grind (arith, f))
      | inr high ↦ sym (put_after q.at p.at q.bytes p.bytes s high)
    ]

pub one_comm : (p : Piece) (qs : List Piece) (s : List ℕ) → meets_any p qs ≡ false → stored_all qs (put p s) ≡ put p (stored_all qs s)
one_comm p [] s h = refl
one_comm p (q ∷ qs) s h =
    let m = or_left (meets p q) (meets_any p qs) h in
    ap (stored_all qs) (sym (put_comm p q s m)) ∙ one_comm p qs (put q s) (or_right (meets p q) (meets_any p qs) h)

pub all_comm : (ps qs : List Piece) (s : List ℕ) → clash ps qs ≡ false → stored_all ps (stored_all qs s) ≡ stored_all qs (stored_all ps s)
all_comm [] qs s h = refl
all_comm (p ∷ ps) qs s h =
    let one = or_left (meets_any p qs) (clash ps qs) h in
    ap (stored_all ps) (sym (one_comm p qs s one)) ∙ all_comm ps qs (put p s) (or_right (meets_any p qs) (clash ps qs) h)

-- ---- in either order and over longer lists

and_swap : (a b : Bool) → (a && b) ≡ (b && a)
and_swap true true = refl
and_swap true false = refl
and_swap false true = refl
and_swap false false = refl

meets_swap : (p q : Piece) → meets p q ≡ meets q p
meets_swap p q = and_swap (nat_lt p.at (q.at + length q.bytes)) (nat_lt q.at (p.at + length p.bytes))

pub clash_none : (ps : List Piece) → clash ps [] ≡ false
clash_none [] = refl
clash_none (p ∷ ps) = clash_none ps

clash_cons : (q : Piece) (qs ps : List Piece) → meets_any q ps ≡ false → clash ps qs ≡ false → clash ps (q ∷ qs) ≡ false
clash_cons q qs [] h g = refl
clash_cons q qs (p ∷ ps) h g =
    let m : meets p q ≡ false = meets_swap p q ∙ or_left (meets q p) (meets_any q ps) h in
    let one = or_left (meets_any p qs) (clash ps qs) g in
    let rest = clash_cons q qs ps (or_right (meets q p) (meets_any q ps) h) (or_right (meets_any p qs) (clash ps qs) g) in
    rw (m, one, rest) refl

pub clash_swap : (ps qs : List Piece) → clash ps qs ≡ false → clash qs ps ≡ false
clash_swap [] qs h = clash_none qs
clash_swap (p ∷ ps) qs h =
    clash_cons p ps qs (or_left (meets_any p qs) (clash ps qs) h) (clash_swap ps qs (or_right (meets_any p qs) (clash ps qs) h))

pub clash_tail : (p : Piece) (ps qs : List Piece) → clash (p ∷ ps) qs ≡ false → clash ps qs ≡ false
clash_tail p ps qs h = or_right (meets_any p qs) (clash ps qs) h

pub clash_head : (p : Piece) (ps qs : List Piece) → clash (p ∷ ps) qs ≡ false → meets_any p qs ≡ false
clash_head p ps qs h = or_left (meets_any p qs) (clash ps qs) h

pub clash_append : (ps qs rs : List Piece) → clash ps rs ≡ false → clash qs rs ≡ false → clash (ps ++ qs) rs ≡ false
clash_append [] qs rs h g = g
clash_append (p ∷ ps) qs rs h g =
    or_none (meets_any p rs) (clash (ps ++ qs) rs) (or_left (meets_any p rs) (clash ps rs) h) (clash_append ps qs rs (or_right (meets_any p rs) (clash ps rs) h) g)

pub stored_append : (ps qs : List Piece) (s : List ℕ) → stored_all (ps ++ qs) s ≡ stored_all qs (stored_all ps s)
stored_append [] qs s = refl
stored_append (p ∷ ps) qs s = stored_append ps qs (put p s)
