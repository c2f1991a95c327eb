-- How a command ends that shows the instructions of a deck. Source: choice of this project.
use Rattle.std.specs.Prelude.{◌≡◌, ℕ}
use Rattle.deck_commands.specs.Disassembles.{Disassembles, FailsToDisassemble}
use Rattle.g5_outside.specs.Views.{ShelfView, SinkView}
use Rattle.program_model.specs.Commands.{disassemble}
use Rattle.program_model.specs.Given.{Text}
use Rattle.program_model.specs.Inputs.{input_name}
use Rattle.program_model.specs.Statuses.{line_of}
use Rattle.program_model.specs.declared.status.Status.{Status}
use Rattle.program_model.specs.declared.status.Status.TheVariants.{Done}
use Rattle.status_lines.specs.Says.{Says}

-- where they were shown nothing is said but the lines on the output
abbrev pub DisEnds : Text → ℕ → ℕ → ShelfView → ShelfView → SinkView → SinkView → SinkView → SinkView
    → Status → Type 0
DisEnds name at count a b o p e f Done = Disassembles name at count a b o p × (f ≡ e)
DisEnds name at count a b o p e f status =
    FailsToDisassemble name at count a b o p status
    × Says (line_of (input_name (disassemble name at count)) status) e f
