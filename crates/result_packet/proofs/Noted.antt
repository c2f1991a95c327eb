-- The log tells what stores change although the view still shows the bytes before them.
use Rattle.std.proofs.Common.{◌≡◌, ℕ, zero, suc, ◌+◌, ◌<◌, ◌≤◌, true, false, List, [], ◌∷◌, length, get_or, take, refl, sym, ap, ◌∙◌, subst, arith}
use Rattle.std.specs.Prelude.{◌==◌, nat_lt, slice_set, slice_get}
use Rattle.std.specs.Option.{unwrap_or}
use Rattle.std.proofs.lemmas.Option.{unwrap_or-slice_get}
use Rattle.esa_model.specs.declared.machine.Registers.{Registers}
use Rattle.esa_model.specs.Apply.{put_all, piece, fits}
use Rattle.esa_model.specs.Access.{written, place}
use Rattle.result_packet.specs.declared.change_log.Touched.{Touched}
use Rattle.result_packet.specs.Changes.{logged, Tells, end, kept, stored}
use Rattle.result_packet.proofs.Log.{set_outside, in_front, eq_self}

pub tells_length : (p : ℕ) (os ns : List ℕ) (ts : List Touched) → Tells p os ns ts → length os ≡ length ns
tells_length p os ns ts (end q) = refl
tells_length p os ns ts (kept q n us vs us' h) = ap (λ (k : ℕ). suc k) (tells_length (suc q) us vs us' h)
tells_length p os ns ts (stored q o n us vs us' h) = ap (λ (k : ℕ). suc k) (tells_length (suc q) us vs us' h)

told_again : (p k v x : ℕ) (os ns : List ℕ) (ts : List Touched) → Tells p os ns ts → k < length os → get_or os k 0 ≡ v
    → Tells p os (slice_set ns k x) (logged (p + k) v x ts)
told_again p k v x os ns ts (end q) l g = absurd (omega (arith, l))
told_again p zero v x os ns ts (kept q n us vs ts' h) l g =
    let e : q + 0 ≡ q = omega arith in
    let eq : n ≡ v = cc in
    let f = in_front (suc q) q v x us vs ts' h (omega arith) in
    rw (e, f, ← eq) (stored q n x us vs ts' h)
told_again p (suc k) v x os ns ts (kept q n us vs ts' h) l g =
    let e : q + suc k ≡ suc q + k = omega arith in
    rw e (kept q n us (slice_set vs k x) (logged (suc q + k) v x ts') (told_again (suc q) k v x us vs ts' h (omega (arith, l)) g))
told_again p zero v x os ns ts (stored q o n us vs ts' h) l g =
    let e : q + 0 ≡ q = omega arith in
    let eq = eq_self q in
    rw (e, eq) (stored q o x us vs ts' h)
told_again p (suc k) v x os ns ts (stored q o n us vs ts' h) l g =
    let e1 : q == q + suc k ≡ false = grind arith in
    let e2 : nat_lt (q + suc k) q ≡ false = grind arith in
    let e : q + suc k ≡ suc q + k = omega arith in
    let rest : Tells (suc q) us (slice_set vs k x) (logged (q + suc k) v x ts') =
    subst (λ (j : ℕ). Tells (suc q) us (slice_set vs k x) (logged j v x ts')) (sym e) (told_again (suc q) k v x us vs ts' h (omega (arith, l)) g) in
    rw (e1, e2) (stored q o n us (slice_set vs k x) (logged (q + suc k) v x ts') rest)

-- a byte is noted that the view shows
pub noted : (olds s : List ℕ) (ts : List Touched) (a v x : ℕ) → a < length olds → v ≡ unwrap_or (slice_get olds a) 0 → Tells 0 olds s ts
    → Tells 0 olds (slice_set s a x) (logged a v x ts)
noted olds s ts a v x l g h =
    let e : 0 + a ≡ a = omega arith in
    subst (λ (j : ℕ). Tells 0 olds (slice_set s a x) (logged j v x ts)) e
    (told_again 0 a v x olds s ts h l (sym (unwrap_or-slice_get olds a 0) ∙ sym g))

-- a store outside changes nothing
pub noted_outside : (olds s : List ℕ) (ts : List Touched) (a x : ℕ) → length olds ≤ a → Tells 0 olds s ts → Tells 0 olds (slice_set s a x) ts
noted_outside olds s ts a x l h =
    let e = tells_length 0 olds s ts h in
    subst (λ (t : List ℕ). Tells 0 olds t ts) (set_outside s a x (omega (arith, l, e))) h

-- one byte more
pub put_more : (a k : ℕ) (xs s : List ℕ) → k < length xs → put_all a (take (suc k) xs) s ≡ slice_set (put_all a (take k xs) s) (a + k) (get_or xs k 0)
put_more a k [] s h = absurd (omega (arith, h))
put_more a zero (x ∷ xs) s h = let e : a + 0 ≡ a = omega arith in rw e refl
put_more a (suc k) (x ∷ xs) s h =
    let e : a + suc k ≡ a + 1 + k = omega arith in
    let i = put_more (a + 1) k xs (slice_set s a x) (omega (arith, h)) in
    rw (e, i) refl

pub written_more : (r : Registers) (at k : ℕ) (xs s : List ℕ) → k < length xs
    → written r at (take (suc k) xs) s ≡ slice_set (written r at (take k xs) s) (place r (at + k)) (get_or xs k 0)
written_more r at k [] s h = absurd (omega (arith, h))
written_more r at zero (x ∷ xs) s h = let e : at + 0 ≡ at = omega arith in rw e refl
written_more r at (suc k) (x ∷ xs) s h =
    let e : at + suc k ≡ at + 1 + k = omega arith in
    let i = written_more r (at + 1) k xs (slice_set s (place r at) x) (omega (arith, h)) in
    rw (e, i) refl

-- a piece wholly inside, and one that is not
pub piece_in : (olds s xs : List ℕ) (a : ℕ) (old new : List Touched) → a + length xs ≤ length olds → Tells 0 olds s old
    → Tells 0 olds (put_all a xs s) new → Tells 0 olds (piece a xs s) new
piece_in olds s xs a old new h was is =
    let e = tells_length 0 olds s old was in
    let f : fits (length s) a xs ≡ true = grind (arith, e, h) in
    rw f is

pub piece_out : (olds s xs : List ℕ) (a : ℕ) (old : List Touched) → length olds < a + length xs → Tells 0 olds s old → Tells 0 olds (piece a xs s) old
piece_out olds s xs a old h was =
    let e = tells_length 0 olds s old was in
    let f : fits (length s) a xs ≡ false = grind (arith, e, h) in
    rw f was

-- one store more of a loop over bytes
pub noted_put : (olds seen xs : List ℕ) (a k : ℕ) (first old new : List Touched) → k < length xs → seen ≡ olds
    → ((s : List ℕ) → Tells 0 olds s first → Tells 0 olds (put_all a (take k xs) s) old)
    → ((s : List ℕ) → Tells 0 seen s old → Tells 0 seen (slice_set s (a + k) (get_or xs k 0)) new)
    → (s : List ℕ) → Tells 0 olds s first → Tells 0 olds (put_all a (take (k + 1) xs) s) new
noted_put olds seen xs a k first old new h same before step s was =
    let j : k + 1 ≡ suc k = omega arith in
    let e = put_more a k xs s h in
    let t : List ℕ = put_all a (take k xs) s in
    rw (j, e)
    (subst (λ (os : List ℕ). Tells 0 os (slice_set t (a + k) (get_or xs k 0)) new) same
    (step t (subst (λ (os : List ℕ). Tells 0 os t old) (sym same) (before s was))))

pub noted_written : (r : Registers) (olds seen xs : List ℕ) (at k a : ℕ) (first old new : List Touched) → k < length xs → seen ≡ olds → a ≡ place r (at + k)
    → ((s : List ℕ) → Tells 0 olds s first → Tells 0 olds (written r at (take k xs) s) old)
    → ((s : List ℕ) → Tells 0 seen s old → Tells 0 seen (slice_set s a (get_or xs k 0)) new)
    → (s : List ℕ) → Tells 0 olds s first → Tells 0 olds (written r at (take (k + 1) xs) s) new
noted_written r olds seen xs at k a first old new h same at_place before step s was =
    let j : k + 1 ≡ suc k = omega arith in
    let e = written_more r at k xs s h in
    let t : List ℕ = written r at (take k xs) s in
    rw (j, e, ← at_place)
    (subst (λ (os : List ℕ). Tells 0 os (slice_set t a (get_or xs k 0)) new) same
    (step t (subst (λ (os : List ℕ). Tells 0 os t old) (sym same) (before s was))))
