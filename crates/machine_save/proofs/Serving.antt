-- Whether a core is with one of the CPUs seen so far.
use Rattle.std.specs.Prelude.{nat_lt, slice_get, ◌||◌}
use Rattle.std.proofs.Common.{◌≡◌, ℕ, ◌+◌, ◌≤◌, Bool, false, List, [], ◌∷◌, ◌++◌, Some, length, take, refl, sym, ap, ◌∙◌, arith}
use Rattle.std.proofs.lemmas.Bool.Decides.{nat_tests}
use Rattle.std.proofs.lemmas.List.{take_more, take_all}
use Rattle.std.proofs.lemmas.Option.{get_or_from_slice_get, slice_get_within}
use Rattle.core_turns.specs.Places.{with_cpu, with_cpus}
use Rattle.core_turns.specs.declared.held.Held.{Held}

with_more : (k : ℕ) (hs : List Held) (h : Held)
    → with_cpus k (hs ++ h ∷ []) ≡ with_cpus k hs + with_cpu k h
with_more k [] h = omega arith
with_more k (x ∷ xs) h = let r = with_more k xs h in omega (arith, r)

pub none_before : (k : ℕ) (hs : List Held) → false ≡ nat_lt 0 (with_cpus k (take 0 hs))
none_before k hs = refl

either : (a b : ℕ) → (nat_lt 0 a || nat_lt 0 b) ≡ nat_lt 0 (a + b)
either a b = grind (arith, nat_tests)

pub one_more : (k i : ℕ) (hs : List Held) (h : Held) (found : Bool) → slice_get hs i ≡ Some h
    → found ≡ nat_lt 0 (with_cpus k (take i hs))
    → (found || nat_lt 0 (with_cpu k h)) ≡ nat_lt 0 (with_cpus k (take (i + 1) hs))
one_more k i hs h found got so =
    ap (λ b. b || nat_lt 0 (with_cpu k h)) so
    ∙ either (with_cpus k (take i hs)) (with_cpu k h)
    ∙ ap (nat_lt 0) (sym (with_more k (take i hs) h))
    ∙ ap (λ q. nat_lt 0 (with_cpus k (take i hs ++ q ∷ []))) (sym (get_or_from_slice_get hs i h h got))
    ∙ ap (λ q. nat_lt 0 (with_cpus k q)) (sym (take_more hs i h (slice_get_within hs i h got)))

pub all_seen : (k i : ℕ) (hs : List Held) (found : Bool) → length hs ≤ i
    → found ≡ nat_lt 0 (with_cpus k (take i hs)) → found ≡ nat_lt 0 (with_cpus k hs)
all_seen k i hs found le so = so ∙ ap (λ q. nat_lt 0 (with_cpus k q)) (take_all i hs le)
