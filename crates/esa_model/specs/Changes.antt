-- The bytes of the storage that an event changed in value, and the longest stretches of successive addresses among them.
-- Source: choice of this project.
use Rattle.std.specs.Prelude.{ℕ, ◌+◌, ◌==◌, List, [], ◌∷◌, if◌then◌else◌}
use Rattle.esa_model.specs.declared.changes.Changed.{Changed}

-- the bytes whose values differ in storages of one size, with the new values; the first byte of the
-- lists has this address
abbrev pub changed_from : ℕ → List ℕ → List ℕ → List Changed
changed_from at [] news = []
changed_from at (old ∷ olds) [] = []
changed_from at (old ∷ olds) (new ∷ news) =
    if old == new then changed_from (at + 1) olds news
    else record { at = at; byte = new } ∷ changed_from (at + 1) olds news

unfoldable pub changed_bytes : List ℕ → List ℕ → List Changed
changed_bytes before after = changed_from 0 before after

-- bytes at successive addresses, from the first one on
pub record Stretch : Type 0 where
  pub first : ℕ
  pub bytes : List ℕ

-- a byte in front of stretches: it joins the first of them where that begins at the next address
abbrev pub joined : Changed → List Stretch → List Stretch
joined c [] = record { first = c.at; bytes = c.byte ∷ [] } ∷ []
joined c (s ∷ ss) =
    if c.at + 1 == s.first then record { first = c.at; bytes = c.byte ∷ s.bytes } ∷ ss
    else record { first = c.at; bytes = c.byte ∷ [] } ∷ s ∷ ss

-- the longest stretches of bytes in ascending order
abbrev pub stretches : List Changed → List Stretch
stretches [] = []
stretches (c ∷ cs) = joined c (stretches cs)
