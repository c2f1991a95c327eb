-- What an attempt gives once it has begun. Source: choice of this project.
use Rattle.std.specs.Prelude.{⊤, ◌≡◌, ℕ, ◌<◌, List, length, Option, Some, None, IfSome, IfNone}
use Rattle.run_model.specs.declared.faults.Cause.{Cause}
use Rattle.run_model.specs.declared.faults.Strike.{Strike}
use Rattle.run_model.specs.declared.faults.Unit.TheVariants.{A}
use Rattle.run_model.specs.Strikes.{mask_byte, cause}
use Rattle.silicon.specs.Chip.{masked}
use Rattle.core_states.specs.Trial.{Setting, Trial, FailsBy, IsStepAt, passed_a}
use Rattle.core_states.specs.declared.tried.Tried.{Tried}
use Rattle.core_states.specs.declared.tried.Tried.TheVariants.{Done, Failed}

-- the answers of two units were passed under two masks and compared
pub record PassedBoth (f g : ℕ → ℕ) (la lb answer : Option (List ℕ)) : Type 0 where
  pub a : List ℕ
  pub b : List ℕ
  pub is_a : la ≡ Some a
  pub is_b : lb ≡ Some b
  pub long : length a ≡ 512
  pub some : IfSome answer (λ p. (p ≡ masked f 0 a) × (masked f 0 a ≡ masked g 0 b))
  pub none : IfNone answer (masked f 0 a ≡ masked g 0 b → ⊥)

-- the cause, if there is one
abbrev pub why : Tried → Option Cause
why (Done p) = None
why (Failed c) = Some c

abbrev pub TriedFails : Trial → Tried → Type 0
TriedFails t (Done p) = FailsBy t None × (p ≡ passed_a t)
TriedFails t (Failed c) = FailsBy t (Some c)

-- attempt n of a core where both units answer p
abbrev pub TriedAs : List Strike → ℕ → ℕ → List ℕ → Tried → Type 0
TriedAs ls c n p (Done q) = (cause ls c n ≡ None) × (q ≡ masked (mask_byte ls c A n) 0 p)
TriedAs ls c n p (Failed why) = cause ls c n ≡ Some why

-- a packet of which the silicon flipped nothing is carried out as the step
abbrev pub TriedSteps : List Strike → ℕ → ℕ → Setting → Tried → Type 0
TriedSteps ls c n s (Done p) = ((j : ℕ) → j < 512 → mask_byte ls c A n j ≡ 0) → IsStepAt s p
TriedSteps ls c n s (Failed why) = ⊤
