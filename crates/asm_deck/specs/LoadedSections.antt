-- Where the sections of an assembled program, its constants and its entry are loaded.
-- Source: choice of this project.
use Rattle.std.specs.Prelude.{ℕ, zero, suc, ◌+◌, ◌-◌, Bool, true, false, ◌==◌, ◌||◌, not, nat_lt, if◌then◌else◌, List, [], ◌∷◌, length, get_or, Option, Some, None}
use Rattle.std.specs.List.{list_any}
use Rattle.deck_model.specs.Image.{aligned}
use Rattle.asm_model.specs.Section.{SectionBytes}
use Rattle.asm_model.specs.declared.program.Constant.{Constant}
use Rattle.asm_model.specs.declared.program.Defined.{Defined}

-- the load address of the section at a place of the list, from 0, where the first is loaded from
-- `from` on: each at the next multiple of 8
abbrev pub load_at : ℕ → List SectionBytes → ℕ → ℕ
load_at from [] k = 0
load_at from (s ∷ ss) zero = aligned from
load_at from (s ∷ ss) (suc k) = load_at (aligned from + length s.bytes) ss k

abbrev pub no_section : SectionBytes
no_section = record { name = 0; bytes = [] }

abbrev pub section_bytes : List SectionBytes → ℕ → List ℕ
section_bytes ss k = (get_or ss k no_section).bytes

-- the end of a section passes n
abbrev pub passes : ℕ → ℕ → List SectionBytes → Bool
passes n from [] = false
passes n from (s ∷ ss) =
    nat_lt n (aligned from + length s.bytes) || passes n (aligned from + length s.bytes) ss

-- ---- entry

abbrev pub is_full : SectionBytes → Bool
is_full s = not (length s.bytes == 0)

-- the first section that is not empty
abbrev pub first_full : ℕ → List SectionBytes → ℕ
first_full from [] = 0
first_full from (s ∷ ss) =
    if is_full s then aligned from else first_full (aligned from + length s.bytes) ss

abbrev pub entry_at : ℕ → List SectionBytes → Option Defined → ℕ
entry_at origin ss None = first_full origin ss
entry_at origin ss (Some d) = load_at origin ss (d.section - 1) + d.offset

-- ---- constants

abbrev pub is_named : ℕ → List SectionBytes → Bool
is_named name ss = list_any (λ (s : SectionBytes). s.name == name) ss

-- the place of the section of a name, from 0
abbrev pub name_place : ℕ → List SectionBytes → ℕ
name_place name [] = 0
name_place name (s ∷ ss) = if s.name == name then 0 else name_place name ss + 1

-- the name of an external item, by its ESDID
abbrev pub external_name : List SectionBytes → List ℕ → ℕ → ℕ
external_name ss externals id = get_or externals (id - (1 + length ss)) 0

-- the place of the section that an item is, or that it names
abbrev pub target_by : Bool → List SectionBytes → List ℕ → ℕ → ℕ
target_by true ss externals id = name_place (external_name ss externals id) ss
target_by false ss externals id = id - 1

abbrev pub target_of : List SectionBytes → List ℕ → Constant → ℕ
target_of ss externals c = target_by c.external ss externals c.target

-- where a constant is loaded
abbrev pub constant_place : ℕ → List SectionBytes → Constant → ℕ
constant_place origin ss c = load_at origin ss (c.section - 1) + c.offset
