-- The inputs of a session that were read: those that are accepted, and those that are refused.
-- Source: choice of this project.
use Rattle.std.specs.Prelude.{◌≡◌, ◌⊎◌, ◌<◌, ℕ, List, length, Ok, Err, IsTrue, true}
use Rattle.g5_outside.specs.Views.{ShelfView, SourceView}
use Rattle.g5_reading.specs.Sources.{AreAllOf, IsUnreadSource}
use Rattle.job_inputs.specs.Reads.{AreRead, IsUnread}
use Rattle.machine_runs.specs.Jobs.{IsReadyJob}
use Rattle.program_model.specs.Accepted.{Job, JobBytes, job}
use Rattle.program_model.specs.Commands.{SessionNames}
use Rattle.program_model.specs.Inputs.{limit}
use Rattle.program_model.specs.declared.inputs.Input.TheVariants.{Keys}
use Rattle.program_model.specs.declared.status.Status.{Status}
use Rattle.program_model.specs.declared.status.Status.TheVariants.{ReadFault, DeckRefused, ScheduleRefused, ScriptRefused, TooLarge}
use Rattle.run_model.specs.declared.logs.Config.{Config}
use Rattle.silicon.specs.Chip.{Chip}
use Rattle.debug_command.specs.declared.preparing.Prepared.{Prepared}

-- the files were read, and give this job; and these are the lines
pub record IsGiven (names : SessionNames) (c : Config) (j : Job) (lines : List ℕ)
    (shelf : ShelfView) (keys : SourceView) : Type 0 where
  pub bytes : JobBytes
  pub read : AreRead names shelf bytes
  pub accepted : job c bytes ≡ Ok j
  pub lines_are : AreAllOf (limit Keys) keys lines

-- and the machine is at its start
pub record IsPrepared (names : SessionNames) (c : Config) (shelf : ShelfView) (keys : SourceView)
    (z : Chip) (p : Prepared) : Type 0 where
  pub job : Job
  pub given : IsGiven names c job p.lines.items shelf keys
  pub ready : IsReadyJob c job z p.ready

-- files and lines were read, and this is the first refusal of the files
pub record HasRefusal (names : SessionNames) (c : Config) (old new : ShelfView) (keys : SourceView)
    (status : Status) : Type 0 where
  pub bytes : JobBytes
  pub read : AreRead names old bytes
  pub lines : List ℕ
  pub lines_are : AreAllOf (limit Keys) keys lines
  pub refused : job c bytes ≡ Err status
  pub found : new.found ≡ true

-- the files were read, and the lines have more bytes than their limit
pub record HasTooManyLines (names : SessionNames) (old new : ShelfView) (keys : SourceView) :
    Type 0 where
  pub bytes : JobBytes
  pub read : AreRead names old bytes
  pub above : IsTrue keys.told → limit Keys < length keys.left
  pub found : new.found ≡ true

-- each status that comes before the first line, by its cause
abbrev pub IsRefused : SessionNames → Config → ShelfView → ShelfView → SourceView → SourceView → Status
    → Type 0
IsRefused names c a b k l ReadFault = IsUnread names a b ReadFault ⊎ IsUnreadSource Keys k l ReadFault
IsRefused names c a b k l (TooLarge Keys) = HasTooManyLines names a b k
IsRefused names c a b k l (DeckRefused refusal) = HasRefusal names c a b k (DeckRefused refusal)
IsRefused names c a b k l (ScheduleRefused refusal) =
    HasRefusal names c a b k (ScheduleRefused refusal)
IsRefused names c a b k l (ScriptRefused refusal) = HasRefusal names c a b k (ScriptRefused refusal)
IsRefused names c a b k l status = IsUnread names a b status
