-- The pieces of a packet spell the bytes of an operand.
use Rattle.std.proofs.Common.{◌≡◌, ℕ, zero, suc, ◌+◌, ◌/◌, ◌%◌, ◌<◌, ◌≤◌, List, [], ◌∷◌, length, refl, ap, ◌∙◌, arith}
use Rattle.std.specs.Prelude.{nat_lt, slice_set, true}
use Rattle.esa_model.specs.declared.machine.Registers.{Registers}
use Rattle.esa_model.specs.declared.machine.Psw.{Psw}
use Rattle.esa_model.specs.Psw.{wrapped}
use Rattle.esa_model.specs.Access.{place, absolute, written}
use Rattle.esa_model.specs.Machine.{changed, with_change, key_at}
use Rattle.esa_model.specs.Apply.{put_all, change_all}

wrapped_next : (p : Psw) (n : ℕ) → n % 4096 + 1 < 4096 → wrapped p (n + 1) ≡ wrapped p n + 1
wrapped_next p n h = grind (arith, h)

absolute_next : (prefix w : ℕ) → w % 4096 + 1 < 4096 → absolute prefix (w + 1) ≡ absolute prefix w + 1
absolute_next prefix w h =
    let d : (w + 1) / 4096 ≡ w / 4096 = omega (arith, h) in
    let m : (w + 1) % 4096 ≡ w % 4096 + 1 = omega (arith, h) in
    rw (d, m) (grind (arith, h))

wrapped_page : (p : Psw) (n : ℕ) → wrapped p n % 4096 ≡ n % 4096
wrapped_page p n = grind arith

-- within a block the next address has the next place
pub place_next : (r : Registers) (n : ℕ) → n % 4096 + 1 < 4096 → place r (n + 1) ≡ place r n + 1
unfolding place
place_next r n h =
    ap (absolute r.prefix) (wrapped_next r.psw n h)
    ∙ absolute_next r.prefix (wrapped r.psw n) (let e = wrapped_page r.psw n in omega (arith, e, h))

pub place_more : (r : Registers) (n k : ℕ) → n % 4096 + k < 4096 → place r (n + k) ≡ place r n + k
place_more r n zero h = let e : n + 0 ≡ n = omega arith in rw e (omega arith)
place_more r n (suc k) h =
    let e : n + suc k ≡ n + k + 1 = omega arith in
    ap (place r) e
    ∙ (place_next r (n + k) (omega (arith, h))
    ∙ (let i = place_more r n k (omega (arith, h)) in omega (arith, i)))

pub written_piece : (r : Registers) (at : ℕ) (xs s : List ℕ) → at % 4096 + length xs ≤ 4096 → written r at xs s ≡ put_all (place r at) xs s
written_piece r at [] s h = refl
written_piece r at (x ∷ []) s h = refl
written_piece r at (x ∷ y ∷ ys) s h =
    let e : place r (at + 1) ≡ place r at + 1 = place_next r at (omega (arith, h)) in
    written_piece r (at + 1) (y ∷ ys) (slice_set s (place r at) x) (omega (arith, h))
    ∙ ap (λ (a : ℕ). put_all a (y ∷ ys) (slice_set s (place r at) x)) e

pub changed_piece : (r : Registers) (size at : ℕ) (xs keys : List ℕ) → at % 4096 + length xs ≤ 4096 → place r at + length xs ≤ size
    → changed r size at xs keys ≡ change_all (place r at) xs keys
changed_piece r size at [] keys h inside = refl
changed_piece r size at (x ∷ []) keys h inside =
    let lt : nat_lt (place r at) size ≡ true = grind (arith, inside) in rw lt refl
changed_piece r size at (x ∷ y ∷ ys) keys h inside =
    let e : place r (at + 1) ≡ place r at + 1 = place_next r at (omega (arith, h)) in
    let lt : nat_lt (place r at) size ≡ true = grind (arith, inside) in
    let k : List ℕ = slice_set keys (place r at / 4096) (with_change (key_at keys (place r at / 4096))) in
    rw lt (changed_piece r size (at + 1) (y ∷ ys) k (omega (arith, h)) (omega (arith, inside, e))
    ∙ ap (λ (a : ℕ). change_all a (y ∷ ys) k) e)
