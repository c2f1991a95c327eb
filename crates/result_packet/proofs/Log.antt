-- The log of stores: its order, where an entry goes, and that it tells each byte that differs.
use Rattle.std.proofs.Common.{◌≡◌, ℕ, zero, suc, ◌+◌, ◌-◌, ◌<◌, ◌≤◌, Bool, true, false, List, [], ◌∷◌, ◌++◌, length, get_or, take, refl, sym, ap, ◌∙◌, inl, inr, arith}
use Rattle.std.specs.Prelude.{◌==◌, nat_lt, if◌then◌else◌, slice_set, slice_get, Option, Some, None}
use Rattle.std.specs.List.{insert}
use Rattle.std.proofs.lemmas.Bool.{cases_lt}
use Rattle.std.proofs.lemmas.List.{take_more}
use Rattle.esa_model.specs.Changes.{changed_from, changed_bytes}
use Rattle.result_packet.specs.declared.change_log.Touched.{Touched}
use Rattle.result_packet.specs.Changes.{IsRising, count_below, logged, put_at, differing, Tells, end, kept, stored}

-- ---- where an entry goes

below_last : (a : ℕ) (ts : List Touched) (t : Touched) → a ≤ t.at → count_below a (ts ++ (t ∷ [])) ≡ count_below a ts
below_last a [] t h = let e : nat_lt t.at a ≡ false = grind (arith, h) in rw e refl
below_last a (u ∷ ts) t h = let e = below_last a ts t h in rw e refl

pub below_less : (a : ℕ) (ts : List Touched) (k : ℕ) (d : Touched) → 0 < k → k ≤ length ts → a ≤ (get_or ts (k - 1) d).at
    → count_below a (take k ts) ≡ count_below a (take (k - 1) ts)
below_less a ts k d some h g =
    let j : k ≡ (k - 1) + 1 = omega (arith, some) in
    let more : take ((k - 1) + 1) ts ≡ take (k - 1) ts ++ (get_or ts (k - 1) d ∷ []) = take_more ts (k - 1) d (omega (arith, some, h)) in
    ap (λ (n : ℕ). count_below a (take n ts)) j ∙ (ap (count_below a) more ∙ below_last a (take (k - 1) ts) (get_or ts (k - 1) d) g)

first_low : (q : ℕ) (ts : List Touched) (k : ℕ) (d : Touched) → IsRising q ts → k < length ts → q ≤ (get_or ts k d).at
first_low q [] k d r h = absurd (omega (arith, h))
first_low q (t ∷ ts) zero d r h = r.0
first_low q (t ∷ ts) (suc k) d r h = let e = first_low (suc t.at) ts k d r.1 (omega (arith, h)) in let f = r.0 in omega (arith, e, f)

all_below : (q a : ℕ) (ts : List Touched) (k : ℕ) (d : Touched) → IsRising q ts → k < length ts → (get_or ts k d).at < a → count_below a (take (suc k) ts) ≡ suc k
all_below q a [] k d r h g = absurd (omega (arith, h))
all_below q a (t ∷ ts) zero d r h g = let e : nat_lt t.at a ≡ true = grind (arith, g) in rw e refl
all_below q a (t ∷ ts) (suc k) d r h g =
    let low = first_low (suc t.at) ts k d r.1 (omega (arith, h)) in
    let e : nat_lt t.at a ≡ true = grind (arith, low, g) in
    let rest = all_below (suc t.at) a ts k d r.1 (omega (arith, h)) g in
    rw (e, rest) refl

pub below_all : (a : ℕ) (ts : List Touched) (k : ℕ) (d : Touched) → IsRising 0 ts → 0 < k → k ≤ length ts → (get_or ts (k - 1) d).at < a
    → count_below a (take k ts) ≡ k
below_all a ts k d r some h g =
    let j : k ≡ suc (k - 1) = omega (arith, some) in
    ap (λ (n : ℕ). count_below a (take n ts)) j ∙ (all_below 0 a ts (k - 1) d r (omega (arith, some, h)) g ∙ sym j)

-- ---- a store is logged there

shift_if : (b : Bool) (k : ℕ) (t y new : Touched) (ts : List Touched)
    → (if b then slice_set (t ∷ ts) (suc k) y else insert (t ∷ ts) (suc k) new) ≡ t ∷ (if b then slice_set ts k y else insert ts k new)
shift_if true k t y new ts = refl
shift_if false k t y new ts = refl

shift : (a v x k : ℕ) (t : Touched) (ts : List Touched) (o : Option Touched) → put_at a v x (suc k) (t ∷ ts) o ≡ t ∷ put_at a v x k ts o
shift a v x k t ts None = refl
shift a v x k t ts (Some u) =
    shift_if (u.at == a) k t (record { at = u.at; before = u.before; now = x }) (record { at = a; before = v; now = x }) ts

pub logged_by : (a v x : ℕ) (ts : List Touched) → logged a v x ts ≡ put_at a v x (count_below a ts) ts (slice_get ts (count_below a ts))
logged_by a v x [] = refl
logged_by a v x (t ∷ ts) =
    elim (cases_lt t.at a) [
      | inl low ↦
          let e1 : t.at == a ≡ false = grind (arith, low) in
          let e2 : nat_lt a t.at ≡ false = grind (arith, low) in
          let e3 : nat_lt t.at a ≡ true = grind (arith, low) in
          rw (e1, e2, e3) (ap (λ (us : List Touched). t ∷ us) (logged_by a v x ts) ∙ sym (shift a v x (count_below a ts) t ts (slice_get ts (count_below a ts))))
      | inr high ↦ elim (cases_lt a t.at) [
        | inl above ↦
            let e1 : t.at == a ≡ false = grind (arith, above) in
            let e2 : nat_lt a t.at ≡ true = grind (arith, above) in
            let e3 : nat_lt t.at a ≡ false = grind (arith, high) in
            rw (e3, e1, e2) refl
        | inr even ↦
            let e1 : t.at == a ≡ true = grind (arith, high, even) in
            let e3 : nat_lt t.at a ≡ false = grind (arith, high) in
            rw (e3, e1) refl
      ]
    ]

pub rising_logged : (q a v x : ℕ) (ts : List Touched) → q ≤ a → IsRising q ts → IsRising q (logged a v x ts)
rising_logged q a v x [] h r = (h, tt)
rising_logged q a v x (t ∷ ts) h r =
    elim (cases_lt t.at a) [
      | inl low ↦
          let e1 : t.at == a ≡ false = grind (arith, low) in
          let e2 : nat_lt a t.at ≡ false = grind (arith, low) in
          rw (e1, e2) (r.0, rising_logged (suc t.at) a v x ts low r.1)
      | inr high ↦ elim (cases_lt a t.at) [
        | inl above ↦
            let e1 : t.at == a ≡ false = grind (arith, above) in
            let e2 : nat_lt a t.at ≡ true = grind (arith, above) in
            rw (e1, e2) (h, (above, r.1))
        | inr even ↦
            let e1 : t.at == a ≡ true = grind (arith, high, even) in
            rw e1 (r.0, r.1)
      ]
    ]

pub length_logged : (a v x : ℕ) (ts : List Touched) → length (logged a v x ts) ≤ length ts + 1
length_logged a v x [] = omega arith
length_logged a v x (t ∷ ts) = let e = length_logged a v x ts in grind (arith, e)

-- ---- the log tells what differs

pub eq_self : (n : ℕ) → n == n ≡ true
eq_self n = grind arith

pub told : (p : ℕ) (os ns : List ℕ) (ts : List Touched) → Tells p os ns ts → changed_from p os ns ≡ differing ts
told p os ns ts (end q) = refl
told p os ns ts (kept q n us vs ts' h) = let e = eq_self n in let s : q + 1 ≡ suc q = omega arith in rw (e, s) (told (suc q) us vs ts' h)
told p os ns ts (stored q o n us vs ts' h) = let e = told (suc q) us vs ts' h in let s : q + 1 ≡ suc q = omega arith in rw (s, e) refl

-- addresses in the log are not below the first of the storage
at_least : (p : ℕ) (os ns : List ℕ) (t : Touched) (ts : List Touched) → Tells p os ns (t ∷ ts) → p ≤ t.at
at_least p os ns t ts (kept q n us vs us' h) = let e = at_least (suc q) us vs t ts h in omega (arith, e)
at_least p os ns t ts (stored q o n us vs us' h) = omega arith

pub in_front : (p a v x : ℕ) (os ns : List ℕ) (ts : List Touched) → Tells p os ns ts → a < p → logged a v x ts ≡ record { at = a; before = v; now = x } ∷ ts
in_front p a v x os ns [] h l = refl
in_front p a v x os ns (t ∷ ts) h l =
    let low = at_least p os ns t ts h in
    let e1 : t.at == a ≡ false = grind (arith, low, l) in
    let e2 : nat_lt a t.at ≡ true = grind (arith, low, l) in
    rw (e1, e2) refl

-- nothing differs from itself
pub told_none : (p : ℕ) (ns : List ℕ) → Tells p ns ns []
told_none p [] = end p
told_none p (n ∷ ns) = kept p n ns ns [] (told_none (suc p) ns)

-- what a log tells that began with nothing
pub told_whole : (os ns : List ℕ) (ts : List Touched) → Tells 0 os ns ts → changed_bytes os ns ≡ differing ts
unfolding changed_bytes
told_whole os ns ts h = told 0 os ns ts h

-- ---- a store outside changes nothing

pub set_outside : (s : List ℕ) (a x : ℕ) → length s ≤ a → s ≡ slice_set s a x
set_outside [] a x h = refl
set_outside (y ∷ s) zero x h = absurd (omega (arith, h))
set_outside (y ∷ s) (suc a) x h = ap (λ (ys : List ℕ). y ∷ ys) (set_outside s a x (omega (arith, h)))
