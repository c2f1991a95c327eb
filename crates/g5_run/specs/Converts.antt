-- How a command ends that makes one file of another. Source: choice of this project.
use Rattle.std.specs.Prelude.{◌≡◌}
use Rattle.g5_outside.specs.Views.{ShelfView, SinkView}
use Rattle.log_commands.specs.Migrates.{FailsToMigrate, Migrates}
use Rattle.program_model.specs.Commands.{migrate}
use Rattle.program_model.specs.Given.{Text}
use Rattle.program_model.specs.Inputs.{input_name}
use Rattle.program_model.specs.Statuses.{line_of}
use Rattle.program_model.specs.declared.status.Status.{Status}
use Rattle.program_model.specs.declared.status.Status.TheVariants.{Done}
use Rattle.status_lines.specs.Says.{Says}

-- a log brought to version 2, where nothing is said, or not
abbrev pub MigrateEnds : Text → Text → ShelfView → ShelfView → SinkView → SinkView → Status → Type 0
MigrateEnds old new a b e f Done = Migrates old new a b × (f ≡ e)
MigrateEnds old new a b e f status =
    FailsToMigrate old new a b status × Says (line_of (input_name (migrate old new)) status) e f

-- nothing was written on the output
pub record Converts (old new : Text) (a b : ShelfView) (o p e f : SinkView) (status : Status) :
    Type 0 where
  pub out : p ≡ o
  pub ends : MigrateEnds old new a b e f status
