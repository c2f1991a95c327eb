-- How a debugger's session ends. Source: choice of this project.
use Rattle.debug_command.specs.Sessions.{FailsToHold, HoldsSession}
use Rattle.debug_command.specs.declared.holding.Held.{Held}
use Rattle.g5_outside.specs.Views.{ShelfView, SinkView}
use Rattle.program_model.specs.Commands.{SessionNames, debug}
use Rattle.program_model.specs.Inputs.{input_name}
use Rattle.program_model.specs.Statuses.{line_of}
use Rattle.program_model.specs.declared.status.Status.{Status}
use Rattle.program_model.specs.declared.status.Status.TheVariants.{Done}
use Rattle.run_model.specs.Texts.{report}
use Rattle.run_model.specs.declared.logs.Config.{Config}
use Rattle.status_lines.specs.Says.{Says}
use Rattle.g5_run.specs.Leaving.{Beside}

-- its lines were carried out as far as the first `quit`, and the report is said over their turns
pub record ReportsSession (names : SessionNames) (c : Config) (a b : ShelfView) (o p e f : SinkView)
    (z : Beside) : Type 0 where
  pub held : Held
  pub session : HoldsSession names c a b z.keys o p z.silicon.chip z.silicon.before
      z.silicon.after held
  pub said : Says (report held.within held.counts) e f

abbrev pub DebugEnds : SessionNames → Config → ShelfView → ShelfView → SinkView → SinkView
    → SinkView → SinkView → Beside → Status → Type 0
DebugEnds names c a b o p e f z Done = ReportsSession names c a b o p e f z
DebugEnds names c a b o p e f z status =
    FailsToHold names c a b z.keys z.keys_after o p status
    × Says (line_of (input_name (debug names c)) status) e f
