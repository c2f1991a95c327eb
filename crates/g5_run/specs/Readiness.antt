-- What is so before a file is created: a machine at its start, for the job of the inputs.
-- Source: choice of this project.
use Rattle.std.specs.Prelude.{◌≡◌, true}
use Rattle.g5_outside.specs.Views.{ShelfView}
use Rattle.machine_runs.specs.Jobs.{IsReadyJob}
use Rattle.machine_runs.specs.declared.ready.Ready.{Ready}
use Rattle.program_model.specs.Accepted.{Job}
use Rattle.program_model.specs.Commands.{JobNames}
use Rattle.run_model.specs.declared.logs.Config.{Config}
use Rattle.silicon.specs.Chip.{Chip}
use Rattle.g5_run.specs.Accepting.{IsJob}

pub record IsReady (names : JobNames) (c : Config) (old new : ShelfView) (z : Chip) (r : Ready) :
    Type 0 where
  pub job : Job
  pub inputs : IsJob names c job old
  pub ready : IsReadyJob c job z r
  pub found : new.found ≡ true
