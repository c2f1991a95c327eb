-- What a refusal finds, as the number of its line.
use Rattle.std.specs.Prelude.{◌≡◌, ◌⊎◌, ℕ, Bool, List, Option, Some, None}
use Rattle.std.specs.List.{find}
use Rattle.asm_model.specs.declared.program.Defined.{Defined}
use Rattle.asm_model.specs.declared.statements.Source.{Source}
use Rattle.asm_model.specs.declared.refusal.AsmRefusal.{AsmRefusal}
use Rattle.asm_model.specs.declared.refusal.AsmRefusal.TheVariants.{BadLine, UnknownOp, NoSection, TooBig, Doubled, Undefined, NoBase, OutOfRange, NoMemory}
use Rattle.asm_model.specs.Places.{Standing, start, standings, last}
use Rattle.asm_model.specs.Refused.{is_bad, is_unknown, has_no_section, passes, is_doubled, is_undefined, has_no_base, is_out, refused, unended}

abbrev pub number_of : Option Standing → Option ℕ
number_of None = None
number_of (Some s) = Some s.number

-- the number of the first line that a refusal finds
abbrev pub first_line : (Standing → Bool) → List Source → Option ℕ
first_line p xs = number_of (find p (standings start xs))

-- a refusal is this one, or want of memory
abbrev pub MayBe : Option AsmRefusal → AsmRefusal → Type 0
MayBe o r = (r ≡ NoMemory) ⊎ (o ≡ Some r)

-- TooBig, else Doubled
abbrev pub placing_refusal : List Source → Option AsmRefusal
placing_refusal xs =
    refused TooBig (find passes (standings start xs))
    (refused Doubled (find is_doubled (standings start xs)) None)

-- BadLine, else UnknownOp, else NoSection, else NoEndStatement
abbrev pub form_refusal : List Source → Option AsmRefusal
form_refusal xs =
    refused BadLine (find is_bad (standings start xs))
    (refused UnknownOp (find is_unknown (standings start xs))
    (refused NoSection (find has_no_section (standings start xs)) (unended (last start xs).ended None)))

-- Undefined, else NoBase, else OutOfRange
abbrev pub name_refusal : List Defined → List Source → Option AsmRefusal
name_refusal names xs =
    refused Undefined (find (is_undefined names) (standings start xs))
    (refused NoBase (find (has_no_base names) (standings start xs))
    (refused OutOfRange (find (is_out names) (standings start xs)) None))
