-- How a command ends that links decks. Source: choice of this project.
use Rattle.std.specs.Prelude.{◌≡◌, List}
use Rattle.g5_outside.specs.Views.{ShelfView, SinkView}
use Rattle.program_model.specs.Commands.{link}
use Rattle.program_model.specs.Given.{Text}
use Rattle.program_model.specs.Inputs.{input_name}
use Rattle.program_model.specs.Statuses.{line_of}
use Rattle.program_model.specs.declared.status.Status.{Status}
use Rattle.program_model.specs.declared.status.Status.TheVariants.{Done}
use Rattle.source_commands.specs.Links.{FailsToLink, Links}
use Rattle.status_lines.specs.Says.{Says}

-- decks linked into one, where nothing is said, or not
abbrev pub LinkEnds : Text → List Text → ShelfView → ShelfView → SinkView → SinkView → Status
    → Type 0
LinkEnds out decks a b e f Done = Links out decks a b × (f ≡ e)
LinkEnds out decks a b e f status =
    FailsToLink out decks a b status × Says (line_of (input_name (link out decks)) status) e f

-- nothing was written on the output
pub record MakesLinked (deck : Text) (decks : List Text) (a b : ShelfView) (o p e f : SinkView)
    (status : Status) : Type 0 where
  pub out : p ≡ o
  pub ends : LinkEnds deck decks a b e f status
