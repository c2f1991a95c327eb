-- How a command ends that judges a log. Source: choice of this project.
use Rattle.std.specs.Prelude.{◌≡◌, Some, None}
use Rattle.g5_outside.specs.Views.{ShelfView, SinkView}
use Rattle.log_commands.specs.Audits.{Audits, FailsToAudit}
use Rattle.program_model.specs.Commands.{audit}
use Rattle.program_model.specs.Given.{Text}
use Rattle.program_model.specs.Inputs.{input_name}
use Rattle.program_model.specs.Statuses.{line_of}
use Rattle.program_model.specs.declared.status.Status.{Status}
use Rattle.program_model.specs.declared.status.Status.TheVariants.{Done, AuditNo}
use Rattle.status_lines.specs.Says.{Says}

-- where it was judged nothing is said but the verdict on the output
abbrev pub AuditEnds : Text → ShelfView → ShelfView → SinkView → SinkView → SinkView → SinkView → Status
    → Type 0
AuditEnds name a b o p e f Done = Audits name a b o p None × (f ≡ e)
AuditEnds name a b o p e f (AuditNo refusal) = Audits name a b o p (Some refusal) × (f ≡ e)
AuditEnds name a b o p e f status =
    FailsToAudit name a b o p status × Says (line_of (input_name (audit name)) status) e f
