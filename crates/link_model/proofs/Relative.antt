-- Relocations by their places above the origin, the last first.
use Rattle.std.proofs.Common.{◌≡◌, ℕ, ◌+◌, ◌≤◌, Bool, true, cond, List, [], ◌∷◌, ◌⊎◌}
use Rattle.deck_model.specs.Image.{relocated_byte}

-- a constant at a place above the origin, with the value that it has at origin 0, and whether its value moves with the origin
pub record Relative : Type 0 where
  pub at : ℕ
  pub width : ℕ
  pub minus : Bool
  pub v_type : Bool
  pub value : ℕ
  pub moves : Bool

-- each with the value that it has at the origin
abbrev pub whole : ℕ → List Relative → (ℕ → ℕ) → ℕ → ℕ
whole o [] byte = byte
whole o (r ∷ earlier) byte = relocated_byte r.at r.width r.minus (r.value + cond r.moves o 0) (whole o earlier byte)

-- each with its value at origin 0
abbrev pub folded : List Relative → (ℕ → ℕ) → ℕ → ℕ
folded [] byte = byte
folded (r ∷ earlier) byte = relocated_byte r.at r.width r.minus r.value (folded earlier byte)

-- those that move, by the origin; 2^32 is added as to each value of a section
abbrev pub late : ℕ → List Relative → (ℕ → ℕ) → ℕ → ℕ
late o [] byte = byte
late o (r ∷ earlier) byte = cond r.moves (relocated_byte r.at r.width r.minus (o + 4294967296) (late o earlier byte)) (late o earlier byte)

abbrev pub WidthsFit : List Relative → Type 0
WidthsFit [] = Unit {0}
WidthsFit (r ∷ rs) = (r.width ≤ 4) × WidthsFit rs

-- two constants are one, or share no byte
abbrev pub FitTogether : Relative → Relative → Type 0
FitTogether r s = ((r.at ≡ s.at) × (r.width ≡ s.width)) ⊎ ((r.at + r.width ≤ s.at) ⊎ (s.at + s.width ≤ r.at))

abbrev pub EachFits : Relative → List Relative → Type 0
EachFits r [] = Unit {0}
EachFits r (s ∷ ss) = FitTogether r s × EachFits r ss

abbrev pub Apart : List Relative → Type 0
Apart [] = Unit {0}
Apart (r ∷ rs) = EachFits r rs × Apart rs

-- by the one section, with the place at origin 0 carried out
abbrev pub by_origin : Relative → Relative
by_origin r = record r { value = 4294967296; moves = true }

-- those that move
abbrev pub kept : List Relative → List Relative
kept [] = []
kept (r ∷ rs) = cond r.moves (by_origin r ∷ kept rs) (kept rs)
