-- Where at most two positions of each word are wrong.
use Rattle.std.proofs.Common.{◌≡◌, ℕ, zero, suc, ◌-◌, ◌<◌, ◌≤◌, List, refl, ap, subst, arith}
use Rattle.run_model.specs.declared.faults.Strike.{Strike}
use Rattle.run_model.specs.Checkpoint.{width}
use Rattle.run_model.specs.Code.{ones}
use Rattle.run_model.specs.Reading.{BoundAt}
use Rattle.run_model.specs.Strikes.{struck, WithinAt}
use Rattle.run_laws.proofs.Ones.{ones-zero}
use Rattle.checkpoint_laws.specs.Stored.{FewWrong}

pub few_none : FewWrong (λ w. 0)
few_none w lt = let o = ones-zero (width w) in omega (arith, o)

-- within the bound, if the premise held at each attempt that was begun
pub few_bounded : (ls : List Strike) (c n : ℕ) (e : ℕ → ℕ) → BoundAt ls c n e
    → ((k : ℕ) → k < n → WithinAt ls c k) → FewWrong e
few_bounded ls c zero e b sound w lt =
    let none = ap (ones (width w)) (b.fresh refl w lt) in
    let o = ones-zero (width w) in omega (arith, none, o)
few_bounded ls c (suc n) e b sound w lt =
    let same : suc n - 1 ≡ n = omega arith in
    let few =
    subst (λ m. ones (width w) (e w) ≤ struck ls c m w) same (b.few (omega arith) w lt) in
    let most = (sound n (omega arith)).words w lt in omega (arith, few, most)
