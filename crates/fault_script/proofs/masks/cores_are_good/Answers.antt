use Rattle.std.proofs.Common.{◌≡◌, ℕ, sym, subst, ◌∙◌, arith, refl, inl, inr}
use Rattle.std.proofs.lemmas.Bool.{cases_lt}
use Rattle.fault_script.specs.Changes.{GoodChanges}
use Rattle.fault_script.proofs.masks.cores_are_good.Goals as goal

pub loop-core-preserved : goal.loop-core-preserved
loop-core-preserved c =
    let e = c.in_ok-core_is_good.ensures in
    λ k n lt. elim (cases_lt k c.loop-core.core) [
      | inl before ↦ c.loop-core.invariant k n before
      | inr from ↦
          let is : c.loop-core.core ≡ k = omega arith in
          let P : ℕ → Type 0 = λ z. GoodChanges c.args.changes.now z n in
          subst P is (e.0 c.if-not-branch.false n)
    ]

pub returns-then-not-branch : goal.returns-then-not-branch
returns-then-not-branch c =
    let e = c.in_ok-core_is_good.ensures in
    (λ h. absurd (cc h), λ good. sym c.if-not-branch.true ∙ e.1 (λ n. good c.loop-core.core n (omega arith)))

pub returns : goal.returns
returns c = (λ h k n lt. c.loop-core.invariant k n (omega arith), λ h. refl)
