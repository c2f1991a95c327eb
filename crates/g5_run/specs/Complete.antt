-- What follows from how the program ends. Source: choice of this project.
use Rattle.std.specs.Prelude.{◌≡◌, ◌⊎◌, ℕ, List, IsTrue, Ok}
use Rattle.debug_command.specs.Preparing.{IsGiven}
use Rattle.deck_commands.specs.Disassembles.{storage_size}
use Rattle.deck_model.specs.Image.{Image, image}
use Rattle.esa_asm.specs.AssembledSource.{assembled}
use Rattle.g5_outside.specs.Causes.{Rose}
use Rattle.g5_outside.specs.Views.{ShelfView, SinkView, SourceView}
use Rattle.g5_reading.specs.Inputs.{IsIn}
use Rattle.program_model.specs.Accepted.{Job}
use Rattle.program_model.specs.Commands.{Command, JobNames, SessionNames, assemble, audit, debug, disassemble, generate, link, migrate, run}
use Rattle.program_model.specs.Given.{Text}
use Rattle.program_model.specs.Inputs.{limit}
use Rattle.program_model.specs.declared.inputs.Input.{Input}
use Rattle.program_model.specs.declared.inputs.Input.TheVariants.{Deck, Log, Program}
use Rattle.program_model.specs.declared.refusals.AuditRefusal.{AuditRefusal}
use Rattle.program_model.specs.declared.status.Status.{Status}
use Rattle.program_model.specs.declared.status.Status.TheVariants.{Done, CheckStopped, WriteFault, AuditNo}
use Rattle.link_model.specs.Link.{link_of}
use Rattle.run_model.specs.Migrate.{migrated}
use Rattle.run_model.specs.declared.logs.Config.{Config}
use Rattle.source_commands.specs.Parts.{AreParts}
use Rattle.g5_run.specs.Accepting.{IsJob}

-- the statuses at which no file was created and nothing written
abbrev pub ComesBeforeOutput : Status → Type 0
ComesBeforeOutput Done = ⊥
ComesBeforeOutput CheckStopped = ⊥
ComesBeforeOutput WriteFault = ⊥
ComesBeforeOutput (AuditNo refusal) = ⊥
ComesBeforeOutput status = Unit {0}

-- ---- carried out to the end

-- the schedule was made to its end
abbrev pub IsMade : Status → Type 0
IsMade status = (status ≡ Done) ⊎ (status ≡ CheckStopped)

-- the verdict was given
abbrev pub IsJudged : Status → Type 0
IsJudged status = (status ≡ Done) ⊎ ((refusal : AuditRefusal) × (status ≡ AuditNo refusal))

-- the statuses at which all that a command asks for was done
abbrev pub IsWhole : Command → Status → Type 0
IsWhole (run names c) status = IsMade status
IsWhole (generate number turns) status = IsMade status
IsWhole (audit log) status = IsJudged status
IsWhole other status = status ≡ Done

-- ---- inputs that are accepted

-- the files are told, and give this job
pub record IsAccepted (names : JobNames) (c : Config) (j : Job) (shelf : ShelfView) : Type 0 where
  pub told : IsTrue shelf.told
  pub is : IsJob names c j shelf

-- the files and the lines of a session are told, and give this job
pub record IsAcceptedSession (names : SessionNames) (c : Config) (j : Job) (shelf : ShelfView)
    (keys : SourceView) : Type 0 where
  pub told : IsTrue shelf.told
  pub keys_told : IsTrue keys.told
  pub lines : List ℕ
  pub given : IsGiven names c j lines shelf keys

-- the file is told, and has these bytes, within the limit of this input
pub record IsToldFile (name : Text) (input : Input) (shelf : ShelfView) (bytes : List ℕ) :
    Type 0 where
  pub told : IsTrue shelf.told
  pub is : IsIn name (limit input) shelf bytes

-- it is a deck that can be loaded
pub record IsLoadable (name : Text) (shelf : ShelfView) : Type 0 where
  pub deck : List ℕ
  pub file : IsToldFile name Deck shelf deck
  pub loaded : Image
  pub loads : image storage_size deck ≡ Ok loaded

-- it is a log of version 1
pub record IsOldLog (name : Text) (shelf : ShelfView) : Type 0 where
  pub log : List ℕ
  pub file : IsToldFile name Log shelf log
  pub text : List ℕ
  pub migrates : migrated log ≡ Ok text

-- it is a source that has a deck
pub record IsAssemblable (name : Text) (shelf : ShelfView) : Type 0 where
  pub text : List ℕ
  pub file : IsToldFile name Program shelf text
  pub deck : List ℕ
  pub assembles : assembled text ≡ Ok deck

-- they are told, within their limit together, and can be linked
pub record IsLinkable (names : List Text) (shelf : ShelfView) : Type 0 where
  pub told : IsTrue shelf.told
  pub parts : List ℕ
  pub read : AreParts names shelf parts
  pub deck : List ℕ
  pub links : link_of parts ≡ Ok deck

-- all that a command reads is told, and nothing of it is refused
abbrev pub IsAcceptedBy : Command → ShelfView → SourceView → Type 0
IsAcceptedBy (run names c) shelf keys = (j : Job) × IsAccepted names c j shelf
IsAcceptedBy (debug names c) shelf keys = (j : Job) × IsAcceptedSession names c j shelf keys
IsAcceptedBy (generate number turns) shelf keys = Unit {0}
IsAcceptedBy (migrate old new) shelf keys = IsOldLog old shelf
IsAcceptedBy (assemble source deck) shelf keys = IsAssemblable source shelf
IsAcceptedBy (disassemble deck at count) shelf keys = IsLoadable deck shelf
IsAcceptedBy (link out decks) shelf keys = IsLinkable decks shelf
IsAcceptedBy (audit log) shelf keys = (bytes : List ℕ) × IsToldFile log Log shelf bytes
IsAcceptedBy other shelf keys = ⊥

-- ---- calls that did not fail

-- no count of faults rose: of finds and reads, of creates and writes, of the output
pub record NothingFailed (old new : ShelfView) (out_old out_new : SinkView) : Type 0 where
  pub reads : ¬ Rose old.read_faults new.read_faults
  pub writes : ¬ Rose old.write_faults new.write_faults
  pub out : ¬ Rose out_old.faults out_new.faults

-- and of the source of a session's lines, for a command that reads it
abbrev pub NoLineFailed : Command → SourceView → SourceView → Type 0
NoLineFailed (debug names c) old new = ¬ Rose old.faults new.faults
NoLineFailed other old new = Unit {0}
