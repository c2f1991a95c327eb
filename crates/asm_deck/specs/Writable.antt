-- Programs of which a deck can be written: their numbers fit into the columns of the cards.
-- Source: IBM object deck layout, for the columns; the bounds of a program are a choice of this
-- project.
use Rattle.std.specs.Prelude.{ℕ, ◌+◌, ◌<◌, ◌≤◌, List, [], ◌∷◌, length, Option, Some, None}
use Rattle.asm_model.specs.Section.{SectionBytes}
use Rattle.asm_model.specs.declared.program.Constant.{Constant}
use Rattle.asm_model.specs.declared.program.Defined.{Defined}
use Rattle.asm_deck.specs.Accepted.{LengthsFit}

-- the bytes of all sections
abbrev pub total_length : List SectionBytes → ℕ
total_length [] = 0
total_length (s ∷ ss) = length s.bytes + total_length ss

abbrev pub ColumnsFit : List Constant → Type 0
ColumnsFit [] = Unit {0}
ColumnsFit (c ∷ cs) =
    (c.section < 65536) × (c.target < 65536) × (c.offset < 16777216) × ColumnsFit cs

abbrev pub EntryColumnsFit : Option Defined → Type 0
EntryColumnsFit None = Unit {0}
EntryColumnsFit (Some d) = (d.section < 65536) × (d.offset ≤ 1048576)

pub record HasDeck (ss : List SectionBytes) (ms : List ℕ) (cs : List Constant)
    (e : Option Defined) : Type 0 where
  pub count : length ss + length ms < 65536
  pub lengths : LengthsFit ss
  pub total : total_length ss ≤ 16777216
  pub words : length cs ≤ 16777216
  pub constants : ColumnsFit cs
  pub entry : EntryColumnsFit e
