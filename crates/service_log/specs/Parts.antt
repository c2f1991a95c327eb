-- The fields of a line, cut off one by one. Source: choice of this project.
use Rattle.std.specs.Prelude.{ℕ, ◌≡◌, ◌<◌, ◌==◌, ◌⊎◌, List, [], ◌∷◌, length, Option, Some, None}
use Rattle.std.specs.Borrow.{Bor}
use Rattle.std.specs.List.{slice_split}
use Rattle.service_log.specs.declared.ends.HeadFields.{HeadFields}
use Rattle.service_log.specs.declared.ends.TailFields.{TailFields}
use Rattle.service_log.specs.declared.fields.Parts.{Parts}
use Rattle.service_log.specs.declared.fields.Parts.TheVariants.{Four, Five, Six, Other}

-- the pieces between bytes that are this one
abbrev pub cut_at : ℕ → List ℕ → List (List ℕ)
cut_at at text = slice_split (λ b. b == at) text

-- the first piece, and those of the text behind it, if there is one
abbrev pub IsCut : (List ℕ → List (List ℕ)) → List ℕ → List ℕ → Option (Bor (List ℕ)) → Type 0
IsCut pieces text first None = pieces text ≡ first ∷ []
IsCut pieces text first (Some rest) = pieces text ≡ first ∷ pieces rest.now

abbrev pub AreParts : List (List ℕ) → Parts → Type 0
AreParts fs (Four a b c d) = fs ≡ a.now ∷ b.now ∷ c.now ∷ d.now ∷ []
AreParts fs (Five a b c d e) = fs ≡ a.now ∷ b.now ∷ c.now ∷ d.now ∷ e.now ∷ []
AreParts fs (Six a b c d e f) = fs ≡ a.now ∷ b.now ∷ c.now ∷ d.now ∷ e.now ∷ f.now ∷ []
AreParts fs Other = (length fs < 4) ⊎ (6 < length fs)

-- all eight fields of a head, or no such number of them
abbrev pub AreHeadFields : List (List ℕ) → Option HeadFields → Type 0
AreHeadFields fs None = (length fs < 8) ⊎ (8 < length fs)
AreHeadFields fs (Some h) =
    fs
    ≡ h.name.now ∷ h.version.now ∷ h.cpus_word.now ∷ h.cpus.now ∷ h.spares_word.now
    ∷ h.spares.now ∷ h.threshold_word.now ∷ h.threshold.now ∷ []

-- both fields of a tail, or no such number of them
abbrev pub AreTailFields : List (List ℕ) → Option TailFields → Type 0
AreTailFields fs None = (length fs < 2) ⊎ (2 < length fs)
AreTailFields fs (Some t) = fs ≡ t.name.now ∷ t.turns.now ∷ []
