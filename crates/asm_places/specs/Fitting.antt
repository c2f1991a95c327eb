-- Statements that can be written.
use Rattle.std.specs.Prelude.{◌≡◌, ℕ, List, [], ◌∷◌}
use Rattle.esa_table.specs.Encoding.{IsInstruction}
use Rattle.asm_model.specs.declared.program.Defined.{Defined}
use Rattle.asm_model.specs.declared.statements.Operation.{Operation}
use Rattle.asm_model.specs.declared.statements.Operation.TheVariants.{Section, Bytes, Word, Address, External, Space, AlignWord, AlignDouble, Using, End, Instruction}
use Rattle.asm_model.specs.declared.statements.Line.{Line}
use Rattle.asm_model.specs.declared.statements.Line.TheVariants.{Broken, Unknown, Said}
use Rattle.asm_model.specs.declared.statements.Source.{Source}
use Rattle.asm_model.specs.Line.{sources}
use Rattle.asm_model.specs.Places.{State, standing_at, after}
use Rattle.asm_model.specs.Refused.{resolved}
use Rattle.asm_model.specs.Program.{fields_given}
use Rattle.asm_places.specs.declared.spots.Spot.{Spot}
use Rattle.asm_places.specs.Spots.{spot_of, at, IsLow}

-- the fields of an instruction that stands at s are those of one
abbrev pub FieldsFit : List Defined → State → Operation → Type 0
FieldsFit names s (Instruction g) = IsInstruction (fields_given (resolved names s g))
FieldsFit names s Section = Unit {0}
FieldsFit names s (Bytes b) = Unit {0}
FieldsFit names s (Word n) = Unit {0}
FieldsFit names s (Address m n) = Unit {0}
FieldsFit names s (External m) = Unit {0}
FieldsFit names s (Space n) = Unit {0}
FieldsFit names s AlignWord = Unit {0}
FieldsFit names s AlignDouble = Unit {0}
FieldsFit names s (Using m r) = Unit {0}
FieldsFit names s (End m) = Unit {0}

abbrev pub LineFits : List Defined → State → Line → Type 0
LineFits names s Broken = Unit {0}
LineFits names s Unknown = Unit {0}
LineFits names s (Said t) = FieldsFit names (standing_at s t.operation) t.operation

-- lines from a place on, none of which is too far
abbrev pub AllFit : List Defined → Spot → List Source → Type 0
AllFit names p [] = Unit {0}
AllFit names p (x ∷ xs) =
    LineFits names (at p) x.line
    × (IsLow (spot_of (after (at p) x.line)) × AllFit names (spot_of (after (at p) x.line)) xs)

-- the statements of a text
pub record AreOfText (xs : List Source) : Type 0 where
  pub text : List ℕ
  pub same : xs ≡ sources text
