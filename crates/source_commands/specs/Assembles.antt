-- How a source is assembled, from file to file: each status by its cause. No file is created before
-- the deck is whole. Source: choice of this project.
use Rattle.std.specs.Prelude.{◌≡◌, ℕ, List, [], ◌∷◌, take, Ok, Err, IsTrue, true}
use Rattle.asm_laws.specs.AcceptedSource.{CanBeLoaded}
use Rattle.asm_model.specs.Line.{sources}
use Rattle.asm_model.specs.Program.{assembly}
use Rattle.esa_asm.specs.AssembledSource.{assembled}
use Rattle.esa_asm.specs.LoadedDeck.{IsLoaded}
use Rattle.g5_outside.specs.Causes.{Rose}
use Rattle.g5_outside.specs.Views.{ShelfView}
use Rattle.g5_reading.specs.Inputs.{IsIn, IsUnreadInput}
use Rattle.g5_writing.specs.Starts.{OnlyName, text_named}
use Rattle.program_model.specs.Given.{Text}
use Rattle.program_model.specs.Inputs.{limit}
use Rattle.program_model.specs.declared.inputs.Input.TheVariants.{Program}
use Rattle.program_model.specs.declared.refusals.AsmRefusal.{AsmRefusal}
use Rattle.program_model.specs.declared.status.Status.{Status}
use Rattle.program_model.specs.declared.status.Status.TheVariants.{WriteFault, SourceRefused}

-- the new file alone was created, with the deck of the source; where that deck has an image, it
-- holds what the statements of the source say
pub record Assembles (source deck : Text) (a b : ShelfView) : Type 0 where
  pub text : List ℕ
  pub read : IsIn source (limit Program) a text
  pub bytes : List ℕ
  pub is : assembled text ≡ Ok bytes
  pub loaded : (origin size : ℕ) → CanBeLoaded (assembly (sources text))
      → IsLoaded origin size bytes text (assembly (sources text))
  pub file : ℕ
  pub numbers : b.numbers ≡ file ∷ []
  pub named : IsTrue a.told → OnlyName deck b
  pub holds : IsTrue a.told → text_named b deck ≡ bytes
  pub found : b.found ≡ true

-- it has some first bytes of it, or could not be created
pub record AssemblesInPart (source deck : Text) (a b : ShelfView) : Type 0 where
  pub text : List ℕ
  pub read : IsIn source (limit Program) a text
  pub bytes : List ℕ
  pub is : assembled text ≡ Ok bytes
  pub count : ℕ
  pub named : IsTrue a.told → OnlyName deck b
  pub holds : IsTrue a.told → text_named b deck ≡ take count bytes
  pub cause : Rose a.write_faults b.write_faults
  pub found : b.found ≡ true

-- the source is refused, and no file was created
pub record RefusesSource (source : Text) (a b : ShelfView) (refusal : AsmRefusal) : Type 0 where
  pub text : List ℕ
  pub read : IsIn source (limit Program) a text
  pub refused : assembled text ≡ Err refusal
  pub numbers : b.numbers ≡ a.numbers
  pub found : b.found ≡ true

-- each status by its cause
abbrev pub FailsToAssemble : Text → Text → ShelfView → ShelfView → Status → Type 0
FailsToAssemble source deck a b WriteFault = AssemblesInPart source deck a b
FailsToAssemble source deck a b (SourceRefused refusal) = RefusesSource source a b refusal
FailsToAssemble source deck a b status =
    (b.numbers ≡ a.numbers) × IsUnreadInput Program source a b status
