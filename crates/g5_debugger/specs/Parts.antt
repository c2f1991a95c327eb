-- What the parts of a line say of its fields. Source: choice of this project.
use Rattle.std.specs.Prelude.{ℕ, ◌≡◌, ◌<◌, List, [], ◌∷◌, length}
use Rattle.g5_debugger.specs.declared.fields.Parts.{Parts}
use Rattle.g5_debugger.specs.declared.fields.Parts.TheVariants.{One, Two, Three, Other}

abbrev pub AreParts : List (List ℕ) → Parts → Type 0
AreParts fs (One a) = fs ≡ a.now ∷ []
AreParts fs (Two a b) = fs ≡ a.now ∷ b.now ∷ []
AreParts fs (Three a b c) = fs ≡ a.now ∷ b.now ∷ c.now ∷ []
AreParts fs Other = 3 < length fs
