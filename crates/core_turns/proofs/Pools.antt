-- A core leaves a pool, or comes into it: how often its number stands there.
use Rattle.std.proofs.Common.{◌≡◌, ℕ, ◌+◌, ◌≤◌, arith}
use Rattle.std.proofs.lemmas.Bool.Decides.{nat_tests}
use Rattle.core_states.specs.declared.cores.SpareCore.{SpareCore}
use Rattle.core_states.specs.declared.cores.FencedCore.{FencedCore}
use Rattle.sparing.specs.Pools.{put, Absent}
use Rattle.sparing.proofs.Puts.{holds_put}
use Rattle.core_turns.specs.Held.{CorePool, spare_number, fenced_number}
use Rattle.core_turns.specs.Places.{on, in_pool}

on_self : (c : ℕ) → on c c ≡ 1
on_self c = grind (arith, nat_tests)

pub absent_once : (c : ℕ) (p : CorePool) → ((n : ℕ) → on c n + in_pool n p ≤ 1)
    → Absent spare_number fenced_number c p
absent_once c p h =
    let a = h c in
    let b = on_self c in
    (omega (arith, a, b), omega (arith, a, b))

pub one_fenced : (f : FencedCore) (p q : CorePool)
    → q ≡ record p { fenced = put fenced_number f p.fenced }
    → (n : ℕ) → in_pool n q ≡ on f.core.0 n + in_pool n p
one_fenced f p q e n = let h = holds_put fenced_number n f p.fenced in rw e (omega (arith, h))

pub one_spare : (s : SpareCore) (p q : CorePool)
    → q ≡ record p { spares = put spare_number s p.spares }
    → (n : ℕ) → in_pool n q ≡ on s.core.0 n + in_pool n p
one_spare s p q e n = let h = holds_put spare_number n s p.spares in rw e (omega (arith, h))
