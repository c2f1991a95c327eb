-- How a command ends that assembles a source. Source: choice of this project.
use Rattle.std.specs.Prelude.{◌≡◌}
use Rattle.g5_outside.specs.Views.{ShelfView, SinkView}
use Rattle.program_model.specs.Commands.{assemble}
use Rattle.program_model.specs.Given.{Text}
use Rattle.program_model.specs.Inputs.{input_name}
use Rattle.program_model.specs.Statuses.{line_of}
use Rattle.program_model.specs.declared.status.Status.{Status}
use Rattle.program_model.specs.declared.status.Status.TheVariants.{Done}
use Rattle.source_commands.specs.Assembles.{Assembles, FailsToAssemble}
use Rattle.status_lines.specs.Says.{Says}

-- a source assembled, where nothing is said, or not
abbrev pub AsmEnds : Text → Text → ShelfView → ShelfView → SinkView → SinkView → Status → Type 0
AsmEnds source deck a b e f Done = Assembles source deck a b × (f ≡ e)
AsmEnds source deck a b e f status =
    FailsToAssemble source deck a b status
    × Says (line_of (input_name (assemble source deck)) status) e f

-- nothing was written on the output
pub record MakesAssembled (source deck : Text) (a b : ShelfView) (o p e f : SinkView)
    (status : Status) : Type 0 where
  pub out : p ≡ o
  pub ends : AsmEnds source deck a b e f status
