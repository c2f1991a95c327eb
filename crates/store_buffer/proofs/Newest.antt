-- What younger pieces have comes before what older ones have.
use Rattle.std.proofs.Common.{◌≡◌, ℕ, Option, Some, None, refl}
use Rattle.std.specs.Option.{option_or}

pub or_none : (x : Option ℕ) → option_or x None ≡ x
or_none None = refl
or_none (Some b) = refl

pub or_assoc : (x y z : Option ℕ) → option_or (option_or x y) z ≡ option_or x (option_or y z)
or_assoc None y z = refl
or_assoc (Some b) y z = refl
