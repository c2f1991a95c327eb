-- The whole machine after a core was returned.
use Rattle.std.proofs.Common.{◌≡◌, ℕ, zero, suc, ◌+◌, ◌≤◌, Bool, true, false, not, ◌&&◌, ◌||◌, ◌==◌, nat_lt, if◌then◌else◌, List, [], ◌∷◌, Some, length, refl, sym, ap, ◌∙◌, arith}
use Rattle.std.specs.Prelude.{slice_get}
use Rattle.std.proofs.lemmas.Bool.Decides.{nat_tests}
use Rattle.esa_model.specs.Machine.{at}
use Rattle.run_model.specs.declared.logs.Config.{Config}
use Rattle.run_model.specs.Cores.{Cores, belongs, is_fenced, is_lost, serves}
use Rattle.sparing.specs.Pools.{TakenOut, holds, put, stands}
use Rattle.sparing.proofs.Puts.{holds_put}
use Rattle.core_states.specs.declared.cores.FencedCore.{FencedCore}
use Rattle.core_states.specs.declared.cores.SpareCore.{SpareCore}
use Rattle.core_turns.specs.Held.{CorePool, HeldBy, SparesAre, fenced_number, spare_number}
use Rattle.core_turns.specs.Places.{EachInOnePlace, on, with_cpu, with_cpus}
use Rattle.core_turns.specs.declared.held.Held.{Held}
use Rattle.core_turns.specs.declared.held.Held.TheVariants.{Running, Recovering, Lost, Taken}

-- ---- a core that no CPU has

-- CPU i serves core k exactly where it counts there
serving : Cores → ℕ → ℕ → Bool
serving s k i = (s.core i == k) && not (is_lost (s.mode i))

counts_on : (a k : ℕ) → nat_lt 0 (on a k) ≡ (a == k)
counts_on a k = by_test (a == k)
  where
    by_test : (b : Bool) → nat_lt 0 (if b then 1 else 0) ≡ b
    by_test true = refl
    by_test false = refl

and_true : (b : Bool) → (b && true) ≡ b
and_true true = refl
and_true false = refl

and_false : (b : Bool) → (b && false) ≡ false
and_false true = refl
and_false false = refl

serving_is : (h : Held) (s : Cores) (k i : ℕ) → HeldBy h s i
    → serving s k i ≡ nat_lt 0 (with_cpu k h)
unfolding serving
serving_is (Running r) s k i e =
    ap (λ m. (s.core i == k) && not (is_lost m)) e.0 ∙ and_true (s.core i == k)
    ∙ ap (λ a. a == k) e.1 ∙ sym (counts_on r.core.0 k)
serving_is (Recovering r) s k i e =
    ap (λ m. (s.core i == k) && not (is_lost m)) e.0 ∙ and_true (s.core i == k)
    ∙ ap (λ a. a == k) e.1 ∙ sym (counts_on r.core.0 k)
serving_is (Lost c retries) s k i e =
    ap (λ m. (s.core i == k) && not (is_lost m)) e.0 ∙ and_false (s.core i == k)
serving_is Taken s k i e = absurd e

shifted : Cores → Cores
shifted s = record s {
  core = λ i. s.core (suc i);
  mode = λ i. s.mode (suc i);
  retries = λ i. s.retries (suc i);
}

held_shifted : (h : Held) (s : Cores) (i : ℕ) → HeldBy h s (suc i) → HeldBy h (shifted s) i
unfolding shifted
held_shifted (Running r) s i e = e
held_shifted (Recovering r) s i e = e
held_shifted (Lost c retries) s i e = e
held_shifted Taken s i e = e

or_swap : (a b d : Bool) → (a || (b || d)) ≡ (b || (a || d))
or_swap true true d = refl
or_swap true false d = refl
or_swap false b d = refl

serves_shifted : (s : Cores) (k n : ℕ)
    → serves s k (suc n) ≡ (serving s k 0 || serves (shifted s) k n)
unfolding serving shifted
serves_shifted s k zero = refl
serves_shifted s k (suc n) =
    ap (λ b. serving s k (suc n) || b) (serves_shifted s k n)
    ∙ or_swap (serving s k (suc n)) (serving s k 0) (serves (shifted s) k n)

above : (n : ℕ) → nat_lt 0 (suc n) ≡ true
above n = grind (arith, nat_tests)

either : (a b : ℕ) → (nat_lt 0 a || nat_lt 0 b) ≡ nat_lt 0 (a + b)
either zero b = let z : 0 + b ≡ b = omega arith in sym (ap (λ n. nat_lt 0 n) z)
either (suc a) b =
    let z : suc a + b ≡ suc (a + b) = omega arith in
    ap (λ t. t || nat_lt 0 b) (above a) ∙ sym (ap (λ n. nat_lt 0 n) z ∙ above (a + b))

serves_is : (hs : List Held) (s : Cores) (k : ℕ)
    → ((i : ℕ) (h : Held) → slice_get hs i ≡ Some h → HeldBy h s i)
    → serves s k (length hs) ≡ nat_lt 0 (with_cpus k hs)
serves_is [] s k each = refl
serves_is (h ∷ hs) s k each =
    serves_shifted s k (length hs)
    ∙ ap (λ b. b || serves (shifted s) k (length hs)) (serving_is h s k 0 (each 0 h refl))
    ∙ ap (λ b. nat_lt 0 (with_cpu k h) || b)
    (serves_is hs (shifted s) k (λ i g got. held_shifted g s i (each (suc i) g got)))
    ∙ either (with_cpu k h) (with_cpus k hs)

fenced_by : (t : Bool) (w a b : ℕ) → w + (a + b) ≡ (if t then 1 else 0)
    → (t && (not (nat_lt 0 a) && not (nat_lt 0 w))) ≡ nat_lt 0 b
fenced_by true zero zero b e =
    let one : b ≡ 1 = omega (arith, e) in sym (ap (λ n. nat_lt 0 n) one)
fenced_by true zero (suc a) b e =
    let none : b ≡ 0 = omega (arith, e) in
    ap (λ t. not t && not (nat_lt 0 0)) (above a) ∙ sym (ap (λ n. nat_lt 0 n) none)
fenced_by true (suc w) a b e =
    let none : b ≡ 0 = omega (arith, e) in
    ap (λ t. not (nat_lt 0 a) && not t) (above w) ∙ and_false (not (nat_lt 0 a))
    ∙ sym (ap (λ n. nat_lt 0 n) none)
fenced_by false w a b e =
    let none : b ≡ 0 = omega (arith, e) in sym (ap (λ n. nat_lt 0 n) none)

-- a core is fenced exactly where the fenced list of the pool has it
pub fenced_is : (c : Config) (hs : List Held) (p : CorePool) (s : Cores) (k : ℕ)
    → c.cpus ≡ length hs → EachInOnePlace c hs p → SparesAre p s.spare
    → ((i : ℕ) (h : Held) → slice_get hs i ≡ Some h → HeldBy h s i)
    → is_fenced c s k ≡ stands fenced_number p.fenced k
unfolding is_fenced
fenced_is c hs p s k cpus each spares held =
    ap (λ b. belongs c k && (not b && not (serves s k c.cpus))) (spares k)
    ∙ ap (λ n. belongs c k && (not (stands spare_number p.spares k) && not (serves s k n))) cpus
    ∙ ap (λ b. belongs c k && (not (stands spare_number p.spares k) && not b))
    (serves_is hs s k held)
    ∙ fenced_by (belongs c k) (with_cpus k hs) (holds spare_number k p.spares)
    (holds fenced_number k p.fenced) (each k)

-- ---- the pool after it

holds_back : (p p2 : CorePool) (k : ℕ) (f : FencedCore)
    → TakenOut fenced_number k f p.fenced p2.fenced → (j : ℕ)
    → holds fenced_number j p.fenced ≡ (if k == j then 1 else 0) + holds fenced_number j p2.fenced
holds_back p p2 k f out j =
    ap (λ q. holds fenced_number j q) out.whole ∙ holds_put fenced_number j f p2.fenced
    ∙ ap (λ n. (if n == j then 1 else 0) + holds fenced_number j p2.fenced) out.number

holds_more : (p p2 : CorePool) (k : ℕ) (s : SpareCore) → s.core.0 ≡ k
    → p2.spares ≡ put spare_number s p.spares → (j : ℕ)
    → holds spare_number j p2.spares ≡ (if k == j then 1 else 0) + holds spare_number j p.spares
holds_more p p2 k s is more j =
    ap (λ q. holds spare_number j q) more ∙ holds_put spare_number j s p.spares
    ∙ ap (λ n. (if n == j then 1 else 0) + holds spare_number j p.spares) is

pub placed_back : (c : Config) (hs : List Held) (p p2 : CorePool) (k : ℕ) (f : FencedCore)
    (s : SpareCore) → EachInOnePlace c hs p → s.core.0 ≡ k
    → p2.spares ≡ put spare_number s p.spares → TakenOut fenced_number k f p.fenced p2.fenced
    → EachInOnePlace c hs p2
placed_back c hs p p2 k f s each is more out j =
    let a = each j in
    let b = holds_back p p2 k f out j in
    let d = holds_more p p2 k s is more j in
    omega (arith, a, b, d)

one_if : (k : ℕ) → ◌≡◌ {A = ℕ} (if k == k then 1 else 0) 1
one_if k = grind (arith, nat_tests)

pub was_fenced : (p p2 : CorePool) (k : ℕ) (f : FencedCore)
    → TakenOut fenced_number k f p.fenced p2.fenced → stands fenced_number p.fenced k ≡ true
was_fenced p p2 k f out =
    let one = one_if k in
    let b = holds_back p p2 k f out k in
    let some : holds fenced_number k p.fenced ≡ suc (holds fenced_number k p2.fenced) =
    omega (arith, one, b) in
    ap (λ n. nat_lt 0 n) some ∙ above (holds fenced_number k p2.fenced)

spare_more : (t : Bool) (n : ℕ) (b : Bool) → b ≡ nat_lt 0 n
    → (if t then true else b) ≡ nat_lt 0 ((if t then 1 else 0) + n)
spare_more true n b e =
    let z : 1 + n ≡ suc n = omega arith in sym (ap (λ q. nat_lt 0 q) z ∙ above n)
spare_more false n b e =
    let z : 0 + n ≡ n = omega arith in e ∙ sym (ap (λ q. nat_lt 0 q) z)

eq_turned : (j k : ℕ) → (j == k) ≡ (k == j)
eq_turned j k = grind (arith, nat_tests)

pub spares_back : (p p2 : CorePool) (spare : ℕ → Bool) (k : ℕ) (s : SpareCore) → SparesAre p spare
    → s.core.0 ≡ k → p2.spares ≡ put spare_number s p.spares → SparesAre p2 (at spare k true)
spares_back p p2 spare k s are is more j =
    ap (λ (t : Bool). if t then true else spare j) (eq_turned j k)
    ∙ spare_more (k == j) (holds spare_number j p.spares) (spare j) (are j)
    ∙ sym (ap (λ n. nat_lt 0 n) (holds_more p p2 k s is more j))

-- one that stands in the fenced list stands nowhere else, once it is taken out
pub absent_then : (p p2 : CorePool) (k : ℕ) (f : FencedCore)
    → holds spare_number k p.spares + holds fenced_number k p.fenced ≤ 1
    → TakenOut fenced_number k f p.fenced p2.fenced → p2.spares ≡ p.spares
    → (holds spare_number k p2.spares ≡ 0) × (holds fenced_number k p2.fenced ≡ 0)
absent_then p p2 k f once out same =
    let b = holds_back p p2 k f out k in
    let one = one_if k in
    let spares : holds spare_number k p2.spares ≡ holds spare_number k p.spares =
    ap (λ q. holds spare_number k q) same in
    (omega (arith, once, b, one, spares), omega (arith, once, b, one, spares))
