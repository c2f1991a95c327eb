-- Texts and relocations carried out one after another on a list of bytes.
-- Source: choice of this project.
use Rattle.std.specs.Prelude.{ℕ, ◌+◌, ◌≤◌, Bool, List, [], ◌∷◌, length, slice_index, slice_set}
use Rattle.byteorder.specs.Endian.{big_number, big_bytes}
use Rattle.deck_model.specs.declared.decks.Item.{Item}
use Rattle.deck_model.specs.declared.decks.Placed.{Placed}
use Rattle.deck_model.specs.declared.decks.Text.{Text}
use Rattle.deck_model.specs.declared.decks.Relocation.{Relocation}
use Rattle.deck_model.specs.Image.{text_at, constant_at, added, bytes_from, value}

-- bytes stored one by one from a place on
abbrev pub stored : ℕ → List ℕ → List ℕ → List ℕ
stored at [] xs = xs
stored at (y ∷ ys) xs = stored (at + 1) ys (slice_set xs at y)

abbrev pub written : List Placed → List Text → List ℕ → List ℕ
written ps [] bytes = bytes
written ps (t ∷ ts) bytes = written ps ts (stored (text_at ps t) t.bytes.items bytes)

-- a constant replaced by its sum or difference
unfoldable pub relocated : ℕ → ℕ → Bool → ℕ → List ℕ → List ℕ
relocated at width minus v xs =
    stored at
    (big_bytes width
    (added minus width v (big_number width (bytes_from (slice_index xs) at width))))
    xs

-- all in the order of the deck, each on what the earlier ones left
abbrev pub relocate : List Item → List Placed → List Relocation → List ℕ → List ℕ
relocate items ps [] bytes = bytes
relocate items ps (r ∷ rs) bytes =
    relocate items ps rs
    (relocated (constant_at ps r) r.item.width r.item.minus (value items ps r) bytes)

-- each text ends within n bytes
abbrev pub AreInside : List Placed → ℕ → List Text → Type 0
AreInside ps n [] = Unit {0}
AreInside ps n (t ∷ ts) = (text_at ps t + length t.bytes.items ≤ n) × AreInside ps n ts

-- each constant has a width and ends within n bytes
abbrev pub ConstantsAreInside : List Placed → ℕ → List Relocation → Type 0
ConstantsAreInside ps n [] = Unit {0}
ConstantsAreInside ps n (r ∷ rs) =
    (1 ≤ r.item.width) × (r.item.width ≤ 4) × (constant_at ps r + r.item.width ≤ n)
    × ConstantsAreInside ps n rs
