-- Spares, where a save says the places of cores alike.
use Rattle.std.specs.Prelude.{◌==◌, nat_lt, not, if◌then◌else◌}
use Rattle.std.proofs.Common.{◌≡◌, ℕ, ◌+◌, ◌<◌, ◌≤◌, Bool, true, false, cond, List, refl, sym, ap, ◌∙◌, arith}
use Rattle.std.proofs.lemmas.Bool.Decides.{nat_tests}
use Rattle.run_model.specs.Cores.{belongs}
use Rattle.run_model.specs.declared.logs.Config.{Config}
use Rattle.sparing.specs.Pools.{holds, stands}
use Rattle.core_turns.specs.Held.{CorePool, fenced_number, spare_number}
use Rattle.core_turns.specs.Places.{EachInOnePlace, with_cpus}
use Rattle.core_turns.specs.declared.held.Held.{Held}
use Rattle.g5_machine.specs.Fits.{IsFitting}
use Rattle.saved_machine.specs.Saved.{place_of}

by_tests : (w s f : ℕ) (b t u : Bool) → nat_lt 0 w ≡ t → nat_lt 0 f ≡ u → w + (s + f) ≡ cond b 1 0
    → nat_lt 0 s ≡ ((if not b then 0 else (if t then 1 else (if u then 3 else 2))) == 2)
by_tests w s f true true true p q e = grind (arith, nat_tests)
by_tests w s f true true false p q e = grind (arith, nat_tests)
by_tests w s f true false true p q e = grind (arith, nat_tests)
by_tests w s f true false false p q e = grind (arith, nat_tests)
by_tests w s f false true true p q e = grind (arith, nat_tests)
by_tests w s f false true false p q e = grind (arith, nat_tests)
by_tests w s f false false true p q e = grind (arith, nat_tests)
by_tests w s f false false false p q e = grind (arith, nat_tests)

-- a core is a spare where its place says so
pub spare_by_place : (c : Config) (cpus : List Held) (pool : CorePool) → EachInOnePlace c cpus pool
    → (k : ℕ) → stands spare_number pool.spares k ≡ (place_of c cpus pool k == 2)
unfolding place_of
spare_by_place c cpus pool placed k =
    by_tests (with_cpus k cpus) (holds spare_number k pool.spares) (holds fenced_number k pool.fenced)
    (belongs c k) (nat_lt 0 (with_cpus k cpus)) (nat_lt 0 (holds fenced_number k pool.fenced))
    refl refl (placed k)

outside : (c : Config) (n k : ℕ) → IsFitting c n → 16 ≤ k → belongs c k ≡ false
outside c n k f h = let a = f.most in let b = f.spares in grind (arith, nat_tests)

no_place : (c : Config) (cpus : List Held) (pool : CorePool) (k : ℕ) → belongs c k ≡ false
    → place_of c cpus pool k ≡ 0
unfolding place_of
no_place c cpus pool k e = rw e refl

-- the places of all numbers, from those of the cores
places_by : (c : Config) (n k : ℕ) (cpus cpus2 : List Held) (pool pool2 : CorePool) (t : Bool)
    → nat_lt k 16 ≡ t → IsFitting c n
    → (k < 16 → place_of c cpus pool k ≡ place_of c cpus2 pool2 k)
    → place_of c cpus pool k ≡ place_of c cpus2 pool2 k
places_by c n k cpus cpus2 pool pool2 true e f h = h (grind (arith, nat_tests))
places_by c n k cpus cpus2 pool pool2 false e f h =
    let o = outside c n k f (grind (arith, nat_tests)) in
    no_place c cpus pool k o ∙ sym (no_place c cpus2 pool2 k o)

pub spares_same : (c : Config) (n : ℕ) (cpus cpus2 : List Held) (pool pool2 : CorePool) → IsFitting c n
    → EachInOnePlace c cpus pool → EachInOnePlace c cpus2 pool2
    → ((k : ℕ) → k < 16 → place_of c cpus pool k ≡ place_of c cpus2 pool2 k)
    → (k : ℕ) → stands spare_number pool.spares k ≡ stands spare_number pool2.spares k
spares_same c n cpus cpus2 pool pool2 f a b h k =
    spare_by_place c cpus pool a k
    ∙ ap (λ q. q == 2) (places_by c n k cpus cpus2 pool pool2 (nat_lt k 16) refl f (h k))
    ∙ sym (spare_by_place c cpus2 pool2 b k)
