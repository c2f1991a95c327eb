-- What a stable sort by the key says of its result.
use Rattle.std.proofs.Common.{◌≡◌, ℕ, List}
use denote.Ref.{Bor}
use denote.Param.Members.{Mut}
use Rattle.std.specs.Fn.{Called, ComputesKey}
use Rattle.std.specs.Ordering.{nat_cmp}
use Rattle.std.specs.List.Sorted.{IsStableByKey}
use Rattle.std.proofs.lemmas.Fn.{always_returns_same}
use Rattle.run_model.specs.declared.faults.Strike.{Strike}
use Rattle.fault_script.specs.Index.{key_of}

pub stable_from : {F : Type 0} {g : Mut F (Bor Strike × Unit {0}) ℕ} {f : F} (xs ys : List Strike)
    → ((n : Strike → ℕ) → ComputesKey g n f → IsStableByKey n nat_cmp xs ys)
    → ((a : Bor Strike × Unit {0}) (r : ℕ) (f' : F) → Called g f a r f' → (r ≡ key_of a.0.now) × (f' ≡ f)) → IsStableByKey key_of nat_cmp xs ys
stable_from {g = g} {f = f} xs ys up h = up key_of (always_returns_same g (λ a r. r ≡ key_of a.0.now) f h)
