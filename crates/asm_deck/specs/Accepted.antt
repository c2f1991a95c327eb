-- Programs whose decks have an image.
-- Source: choice of this project.
use Rattle.std.specs.Prelude.{◌≡◌, ◌≢◌, ℕ, ◌+◌, ◌-◌, ◌<◌, ◌≤◌, ◌⊎◌, Bool, true, false, List, [], ◌∷◌, ◌++◌, length, Option, Some, None}
use Rattle.std.specs.List.{list_any}
use Rattle.deck_model.specs.Image.{blank_name}
use Rattle.asm_model.specs.Section.{SectionBytes}
use Rattle.asm_model.specs.declared.program.Constant.{Constant}
use Rattle.asm_model.specs.declared.program.Defined.{Defined}
use Rattle.asm_deck.specs.LoadedSections.{section_bytes, is_named, external_name, is_full}

-- eight bytes that are not all blank
abbrev pub NameFits : ℕ → Type 0
NameFits name = (name < 18446744073709551616) × (name ≢ blank_name)

-- ---- sections

abbrev pub NamesFit : List SectionBytes → Type 0
NamesFit [] = Unit {0}
NamesFit (s ∷ ss) = NameFits s.name × NamesFit ss

-- no section has the name of an earlier one
abbrev pub NamesDiffer : List SectionBytes → List SectionBytes → Type 0
NamesDiffer earlier [] = Unit {0}
NamesDiffer earlier (s ∷ ss) =
    (is_named s.name earlier ≡ false) × NamesDiffer (earlier ++ s ∷ []) ss

abbrev pub LengthsFit : List SectionBytes → Type 0
LengthsFit [] = Unit {0}
LengthsFit (s ∷ ss) = (length s.bytes ≤ 1048576) × LengthsFit ss

-- each external name is that of a section
abbrev pub ExternalsNamed : List SectionBytes → List ℕ → Type 0
ExternalsNamed ss [] = Unit {0}
ExternalsNamed ss (m ∷ ms) = NameFits m × (is_named m ss ≡ true) × ExternalsNamed ss ms

-- ---- constants

-- an external item whose name is that of a section, or a section
abbrev pub TargetFits : Bool → List SectionBytes → List ℕ → ℕ → Type 0
TargetFits true ss ms id =
    (1 + length ss ≤ id) × (id < 1 + length ss + length ms)
    × NameFits (external_name ss ms id) × (is_named (external_name ss ms id) ss ≡ true)
TargetFits false ss ms id = (1 ≤ id) × (id ≤ length ss)

-- the constant lies inside its section
abbrev pub ConstantFits : List SectionBytes → List ℕ → Constant → Type 0
ConstantFits ss ms c =
    (1 ≤ c.section) × (c.section ≤ length ss)
    × (c.offset + 4 ≤ length (section_bytes ss (c.section - 1)))
    × TargetFits c.external ss ms c.target

abbrev pub ConstantsFit : List SectionBytes → List ℕ → List Constant → Type 0
ConstantsFit ss ms [] = Unit {0}
ConstantsFit ss ms (c ∷ cs) = ConstantFits ss ms c × ConstantsFit ss ms cs

-- constants in the order of their places, that share no byte
abbrev pub IsBefore : Constant → List Constant → Type 0
IsBefore c [] = Unit {0}
IsBefore c (d ∷ ds) =
    ((c.section < d.section) ⊎ ((c.section ≡ d.section) × (c.offset + 4 ≤ d.offset)))
    × IsBefore c ds

abbrev pub AreOrdered : List Constant → Type 0
AreOrdered [] = Unit {0}
AreOrdered (c ∷ cs) = IsBefore c cs × AreOrdered cs

-- ---- entry

-- the entry lies before the end of its section
abbrev pub EntryFits : List SectionBytes → Option Defined → Type 0
EntryFits ss None = Unit {0}
EntryFits ss (Some d) =
    (1 ≤ d.section) × (d.section ≤ length ss)
    × (d.offset < length (section_bytes ss (d.section - 1)))

-- ---- all

pub record IsAccepted (ss : List SectionBytes) (ms : List ℕ) (cs : List Constant)
    (e : Option Defined) : Type 0 where
  pub count : length ss + length ms < 65536
  pub lengths : LengthsFit ss
  pub some : list_any is_full ss ≡ true
  pub names : NamesFit ss
  pub differ : NamesDiffer [] ss
  pub externals : ExternalsNamed ss ms
  pub constants : ConstantsFit ss ms cs
  pub ordered : AreOrdered cs
  pub entry : EntryFits ss e
