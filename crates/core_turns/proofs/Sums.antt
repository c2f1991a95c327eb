-- Each core stands in one place: sums over CPUs and pool.
use Rattle.std.proofs.Common.{◌≡◌, ◌≢◌, ℕ, zero, suc, ◌+◌, ◌≤◌, Bool, true, false, List, [], ◌∷◌, Some, refl, sym, ap, ◌∙◌, subst, arith, if◌then◌else◌}
use Rattle.std.specs.Prelude.{nat_lt, slice_get, slice_set}
use Rattle.std.proofs.lemmas.Bool.{true≢false}
use Rattle.std.proofs.lemmas.Bool.Decides.{nat_tests}
use Rattle.run_model.specs.declared.logs.Config.{Config}
use Rattle.run_model.specs.Cores.{Cores, belongs, is_lost}
use Rattle.sparing.specs.Pools.{holds}
use Rattle.core_turns.specs.Held.{CorePool, HeldBy, SparesAre, spare_number}
use Rattle.core_turns.specs.Places.{EachInOnePlace, in_pool, on, with_cpu, with_cpus}
use Rattle.core_turns.specs.declared.held.Held.{Held}
use Rattle.core_turns.specs.declared.held.Held.TheVariants.{Running, Recovering, Lost, Taken}

one_of : (k : ℕ) (hs : List Held) (i : ℕ) (h : Held) → slice_get hs i ≡ Some h
    → with_cpu k h ≤ with_cpus k hs
one_of k [] i h e = absurd (cc e)
one_of k (g ∷ hs) zero h e =
    let is : g ≡ h = cc e in rw (sym is) (omega arith)
one_of k (g ∷ hs) (suc i) h e = let r = one_of k hs i h e in omega (arith, r)

two_of : (k : ℕ) (hs : List Held) (i j : ℕ) (h g : Held) → slice_get hs i ≡ Some h
    → slice_get hs j ≡ Some g → i ≢ j → with_cpu k h + with_cpu k g ≤ with_cpus k hs
two_of k [] i j h g e f ne = absurd (cc e)
two_of k (a ∷ hs) zero zero h g e f ne = absurd (ne refl)
two_of k (a ∷ hs) zero (suc j) h g e f ne =
    let is : a ≡ h = cc e in let r = one_of k hs j g f in rw (sym is) (omega (arith, r))
two_of k (a ∷ hs) (suc i) zero h g e f ne =
    let is : a ≡ g = cc f in let r = one_of k hs i h e in rw (sym is) (omega (arith, r))
two_of k (a ∷ hs) (suc i) (suc j) h g e f ne =
    let r = two_of k hs i j h g e f (λ q. ne (ap suc q)) in omega (arith, r)

with_set : (k : ℕ) (hs : List Held) (i : ℕ) (h new : Held) → slice_get hs i ≡ Some h
    → with_cpus k (slice_set hs i new) + with_cpu k h ≡ with_cpus k hs + with_cpu k new
with_set k [] i h new e = absurd (cc e)
with_set k (g ∷ hs) zero h new e = let is : g ≡ h = cc e in rw (sym is) (omega arith)
with_set k (g ∷ hs) (suc i) h new e = let r = with_set k hs i h new e in omega (arith, r)

at_most : (b : Bool) → (if b then 1 else 0) ≤ 1
at_most true = omega arith
at_most false = omega arith

-- ---- before the turn of a CPU, and after it

pub once : (c : Config) (hs : List Held) (p : CorePool) (i : ℕ) (h : Held) → slice_get hs i ≡ Some h
    → EachInOnePlace c hs p → (k : ℕ) → with_cpu k h + in_pool k p ≤ 1
once c hs p i h e each k =
    let o = one_of k hs i h e in
    let a = each k in
    let b = at_most (belongs c k) in
    omega (arith, o, a, b)

pub still_placed : (c : Config) (hs : List Held) (p p2 : CorePool) (i : ℕ) (h h2 : Held)
    → slice_get hs i ≡ Some h → EachInOnePlace c hs p
    → ((k : ℕ) → with_cpu k h2 + in_pool k p2 ≡ with_cpu k h + in_pool k p)
    → EachInOnePlace c (slice_set hs i h2) p2
still_placed c hs p p2 i h h2 e each moves k =
    let w = with_set k hs i h h2 e in
    let m = moves k in
    let a = each k in
    omega (arith, w, m, a)

-- ---- cores of CPUs that are not lost

on_self : (c : ℕ) → on c c ≡ 1
on_self c = grind (arith, nat_tests)

live_on : (h : Held) (s : Cores) (i : ℕ) → HeldBy h s i → is_lost (s.mode i) ≡ false
    → with_cpu (s.core i) h ≡ 1
live_on (Running k) s i h live = ap (λ c. on k.core.0 c) h.1 ∙ on_self k.core.0
live_on (Recovering k) s i h live = ap (λ c. on k.core.0 c) h.1 ∙ on_self k.core.0
live_on (Lost c retries) s i h live = absurd (true≢false (sym (ap is_lost h.0) ∙ live))
live_on Taken s i h live = absurd h

pub cores_apart : (c : Config) (hs : List Held) (p : CorePool) (s : Cores) (i j : ℕ) (h g : Held)
    → EachInOnePlace c hs p → slice_get hs i ≡ Some h → slice_get hs j ≡ Some g
    → HeldBy h s i → HeldBy g s j → i ≢ j → is_lost (s.mode i) ≡ false
    → is_lost (s.mode j) ≡ false → s.core j ≢ s.core i
cores_apart c hs p s i j h g each e f hi gj ne li lj same =
    let k = s.core i in
    let t = two_of k hs i j h g e f ne in
    let a = each k in
    let b = at_most (belongs c k) in
    let one = live_on h s i hi li in
    let two : with_cpu k g ≡ 1 = subst (λ q. with_cpu q g ≡ 1) same (live_on g s j gj lj) in
    absurd (omega (arith, t, a, b, one, two))

none_stands : (n : ℕ) → n ≡ 0 → nat_lt 0 n ≡ false
none_stands n e = rw e refl

pub core_no_spare : (c : Config) (hs : List Held) (p : CorePool) (s : Cores) (i : ℕ) (h : Held)
    → EachInOnePlace c hs p → slice_get hs i ≡ Some h → HeldBy h s i → SparesAre p s.spare
    → is_lost (s.mode i) ≡ false → s.spare (s.core i) ≡ false
core_no_spare c hs p s i h each e hi spares live =
    let k = s.core i in
    let o = one_of k hs i h e in
    let a = each k in
    let b = at_most (belongs c k) in
    let one = live_on h s i hi live in
    let none : holds spare_number k p.spares ≡ 0 = omega (arith, o, a, b, one) in
    spares k ∙ none_stands (holds spare_number k p.spares) none

-- ---- lists

pub get_same : (hs : List Held) (i : ℕ) (h new : Held) → slice_get (slice_set hs i new) i ≡ Some h
    → h ≡ new
get_same [] i h new e = absurd (cc e)
get_same (g ∷ hs) zero h new e = cc e
get_same (g ∷ hs) (suc i) h new e = get_same hs i h new e

pub get_other : (hs : List Held) (i j : ℕ) (new : Held) → j ≢ i
    → slice_get (slice_set hs i new) j ≡ slice_get hs j
get_other [] i j new ne = refl
get_other (g ∷ hs) zero zero new ne = absurd (ne refl)
get_other (g ∷ hs) zero (suc j) new ne = refl
get_other (g ∷ hs) (suc i) zero new ne = refl
get_other (g ∷ hs) (suc i) (suc j) new ne = get_other hs i j new (λ q. ne (ap suc q))

pub set_twice : (hs : List Held) (i : ℕ) (a b : Held)
    → slice_set (slice_set hs i a) i b ≡ slice_set hs i b
set_twice [] i a b = refl
set_twice (h ∷ hs) zero a b = refl
set_twice (h ∷ hs) (suc i) a b = ap (λ q. h ∷ q) (set_twice hs i a b)
