-- The inputs of a run that were read: those that are accepted, and those that are refused.
-- Source: choice of this project.
use Rattle.std.specs.Prelude.{◌≡◌, Ok, Err, true}
use Rattle.g5_outside.specs.Views.{ShelfView}
use Rattle.job_inputs.specs.Reads.{AreRead, IsUnread}
use Rattle.program_model.specs.Accepted.{Job, JobBytes, job}
use Rattle.program_model.specs.Commands.{JobNames, SessionNames, session_names}
use Rattle.program_model.specs.declared.status.Status.{Status}
use Rattle.program_model.specs.declared.status.Status.TheVariants.{DeckRefused, ScheduleRefused, ScriptRefused}
use Rattle.run_model.specs.declared.logs.Config.{Config}

-- the files that a run reads
abbrev pub inputs_of : JobNames → SessionNames
inputs_of names = session_names names.deck names.console names.schedule names.script

-- they were read, and give this job
pub record IsJob (names : JobNames) (c : Config) (j : Job) (shelf : ShelfView) : Type 0 where
  pub bytes : JobBytes
  pub read : AreRead (inputs_of names) shelf bytes
  pub accepted : job c bytes ≡ Ok j

-- they were read, and this is their first refusal
pub record HasRefusal (names : JobNames) (c : Config) (status : Status) (old new : ShelfView) :
    Type 0 where
  pub bytes : JobBytes
  pub read : AreRead (inputs_of names) old bytes
  pub refused : job c bytes ≡ Err status
  pub found : new.found ≡ true

-- each status that comes before an output is begun, by its cause
abbrev pub IsRefused : JobNames → Config → ShelfView → ShelfView → Status → Type 0
IsRefused names c old new (DeckRefused refusal) = HasRefusal names c (DeckRefused refusal) old new
IsRefused names c old new (ScheduleRefused refusal) =
    HasRefusal names c (ScheduleRefused refusal) old new
IsRefused names c old new (ScriptRefused refusal) =
    HasRefusal names c (ScriptRefused refusal) old new
IsRefused names c old new status = IsUnread (inputs_of names) old new status
