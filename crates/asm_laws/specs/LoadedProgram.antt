-- What the statements of a source are when their program is loaded.
-- Source: choice of this project.
use Rattle.std.specs.Prelude.{◌≡◌, ℕ, ◌+◌, ◌-◌, ◌%◌, List, [], ◌∷◌, Option, Some, None}
use Rattle.deck_model.specs.Image.{bytes_from}
use Rattle.esa_model.specs.Table.{decoded}
use Rattle.asm_model.specs.declared.statements.Operation.{Operation}
use Rattle.asm_model.specs.declared.statements.Operation.TheVariants.{Section, Bytes, Word, Address, External, Space, AlignWord, AlignDouble, Using, End, Instruction}
use Rattle.asm_model.specs.declared.statements.Line.{Line}
use Rattle.asm_model.specs.declared.statements.Line.TheVariants.{Broken, Unknown, Said}
use Rattle.asm_model.specs.declared.program.Defined.{Defined}
use Rattle.asm_model.specs.Section.{SectionBytes}
use Rattle.asm_model.specs.Places.{State, Standing, standing_at}
use Rattle.asm_model.specs.Refused.{place_of, resolved}
use Rattle.asm_model.specs.Program.{fields_given, operation_bytes}
use Rattle.asm_deck.specs.LoadedSections.{load_at, name_place}
use Rattle.asm_deck.specs.AssembledImage.{word_at, BeginsWith}

-- where a statement that stands there is loaded
abbrev pub loaded_at : ℕ → List SectionBytes → State → ℕ
loaded_at origin sections s = load_at origin sections (s.section - 1) + s.offset

-- the load address of a name
abbrev pub address_of : ℕ → List SectionBytes → Defined → ℕ
address_of origin sections d = load_at origin sections (d.section - 1) + d.offset

-- the bytes of a statement stand there: an instruction is decoded as its row and fields, an address word
-- is the address of its name and what is added, an external one that of the section of its name
abbrev pub OperationLoaded :
    (ℕ → ℕ) → ℕ → List SectionBytes → List Defined → State → Operation → Type 0
OperationLoaded byte origin sections names s (Bytes b) =
    BeginsWith byte (loaded_at origin sections s) b.items
OperationLoaded byte origin sections names s (Word n) =
    word_at byte (loaded_at origin sections s) ≡ n % 4294967296
OperationLoaded byte origin sections names s (Address m n) =
    word_at byte (loaded_at origin sections s)
    ≡ (address_of origin sections (place_of names m) + n) % 4294967296
OperationLoaded byte origin sections names s (External m) =
    word_at byte (loaded_at origin sections s)
    ≡ load_at origin sections (name_place m sections) % 4294967296
OperationLoaded byte origin sections names s (Space n) =
    BeginsWith byte (loaded_at origin sections s) (operation_bytes names s (Space n))
OperationLoaded byte origin sections names s (Instruction g) =
    decoded (bytes_from byte (loaded_at origin sections s) 6)
    ≡ Some (fields_given (resolved names s g))
OperationLoaded byte origin sections names s Section = Unit {0}
OperationLoaded byte origin sections names s AlignWord = Unit {0}
OperationLoaded byte origin sections names s AlignDouble = Unit {0}
OperationLoaded byte origin sections names s (Using m r) = Unit {0}
OperationLoaded byte origin sections names s (End m) = Unit {0}

abbrev pub LineLoaded :
    (ℕ → ℕ) → ℕ → List SectionBytes → List Defined → State → Line → Type 0
LineLoaded byte origin sections names s Broken = Unit {0}
LineLoaded byte origin sections names s Unknown = Unit {0}
LineLoaded byte origin sections names s (Said t) =
    OperationLoaded byte origin sections names (standing_at s t.operation) t.operation

-- each statement of the lines
abbrev pub StatementsLoaded :
    (ℕ → ℕ) → ℕ → List SectionBytes → List Defined → List Standing → Type 0
StatementsLoaded byte origin sections names [] = Unit {0}
StatementsLoaded byte origin sections names (x ∷ xs) =
    LineLoaded byte origin sections names x.before x.line
    × StatementsLoaded byte origin sections names xs
