-- How a log is brought from version 1 to version 2, from file to file: each status by its cause.
-- Source: choice of this project.
use Rattle.std.specs.Prelude.{◌≡◌, ℕ, List, [], ◌∷◌, take, Ok, Err, IsTrue, true}
use Rattle.g5_outside.specs.Causes.{Rose}
use Rattle.g5_outside.specs.Views.{ShelfView}
use Rattle.g5_reading.specs.Inputs.{IsIn, IsUnreadInput}
use Rattle.g5_writing.specs.Starts.{OnlyName, text_named}
use Rattle.program_model.specs.Inputs.{limit}
use Rattle.program_model.specs.declared.inputs.Input.TheVariants.{Log}
use Rattle.program_model.specs.declared.status.Status.{Status}
use Rattle.program_model.specs.declared.status.Status.TheVariants.{WriteFault, LogRefused}
use Rattle.run_model.specs.declared.logs.MigrateRefusal.{MigrateRefusal}
use Rattle.run_model.specs.Migrate.{migrated}

-- the new file alone was created, with the text of version 2
pub record Migrates (old new : List ℕ) (a b : ShelfView) : Type 0 where
  pub log : List ℕ
  pub read : IsIn old (limit Log) a log
  pub text : List ℕ
  pub is : migrated log ≡ Ok text
  pub file : ℕ
  pub numbers : b.numbers ≡ file ∷ []
  pub named : IsTrue a.told → OnlyName new b
  pub holds : IsTrue a.told → text_named b new ≡ text
  pub found : b.found ≡ true

-- it has some first bytes of it, or could not be created
pub record MigratesInPart (old new : List ℕ) (a b : ShelfView) : Type 0 where
  pub log : List ℕ
  pub read : IsIn old (limit Log) a log
  pub text : List ℕ
  pub is : migrated log ≡ Ok text
  pub count : ℕ
  pub named : IsTrue a.told → OnlyName new b
  pub holds : IsTrue a.told → text_named b new ≡ take count text
  pub cause : Rose a.write_faults b.write_faults
  pub found : b.found ≡ true

-- the log is refused, and no file was created
pub record RefusesLog (old : List ℕ) (a b : ShelfView) (refusal : MigrateRefusal) : Type 0 where
  pub log : List ℕ
  pub read : IsIn old (limit Log) a log
  pub refused : migrated log ≡ Err refusal
  pub numbers : b.numbers ≡ a.numbers
  pub found : b.found ≡ true

-- each status by its cause
abbrev pub FailsToMigrate : List ℕ → List ℕ → ShelfView → ShelfView → Status → Type 0
FailsToMigrate old new a b WriteFault = MigratesInPart old new a b
FailsToMigrate old new a b (LogRefused refusal) = RefusesLog old a b refusal
FailsToMigrate old new a b status = (b.numbers ≡ a.numbers) × IsUnreadInput Log old a b status
