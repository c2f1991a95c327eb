-- What the parts of a line say of its fields. Source: choice of this project.
use Rattle.std.specs.Prelude.{ℕ, ◌≡◌, ◌<◌, ◌⊎◌, List, [], ◌∷◌, length}
use Rattle.fault_script.specs.declared.fields.Parts.{Parts}
use Rattle.fault_script.specs.declared.fields.Parts.TheVariants.{Four, Five, Six, Other}

abbrev pub AreParts : List (List ℕ) → Parts → Type 0
AreParts fs (Four a b c d) = fs ≡ a.now ∷ b.now ∷ c.now ∷ d.now ∷ []
AreParts fs (Five a b c d e) = fs ≡ a.now ∷ b.now ∷ c.now ∷ d.now ∷ e.now ∷ []
AreParts fs (Six a b c d e f) = fs ≡ a.now ∷ b.now ∷ c.now ∷ d.now ∷ e.now ∷ f.now ∷ []
AreParts fs Other = (length fs < 4) ⊎ (6 < length fs)
