-- How commands end that failed, from why they failed and what was said.
use Rattle.std.proofs.Common.{ℕ}
use Rattle.debug_command.specs.Sessions.{FailsToHold}
use Rattle.deck_commands.specs.Disassembles.{FailsToDisassemble}
use Rattle.g5_outside.specs.Views.{ShelfView, SinkView}
use Rattle.program_model.specs.Commands.{SessionNames, debug, disassemble}
use Rattle.program_model.specs.Given.{Text}
use Rattle.program_model.specs.Inputs.{input_name}
use Rattle.program_model.specs.Statuses.{line_of}
use Rattle.program_model.specs.declared.status.Status.{Status}
use Rattle.program_model.specs.declared.status.Status.TheVariants.{Done, CheckStopped, Usage, NoFile, ReadFault, WriteFault, DeckRefused, ScheduleRefused, ScriptRefused, TooLarge, NoMemory, LogRefused, SourceRefused, LinkRefused, SaveRefused, AuditNo}
use Rattle.run_model.specs.declared.logs.Config.{Config}
use Rattle.status_lines.specs.Says.{Says}
use Rattle.g5_run.specs.Conversing.{DebugEnds}
use Rattle.g5_run.specs.Leaving.{Beside}
use Rattle.g5_run.specs.Shows.{DisEnds}

pub dis_fails : (name : Text) (at count : ℕ) (a b : ShelfView) (o p e f : SinkView) (s : Status)
    → FailsToDisassemble name at count a b o p s
    → Says (line_of (input_name (disassemble name at count)) s) e f
    → DisEnds name at count a b o p e f s
dis_fails name at count a b o p e f Done h k = absurd h.why
dis_fails name at count a b o p e f CheckStopped h k = (h, k)
dis_fails name at count a b o p e f Usage h k = (h, k)
dis_fails name at count a b o p e f (NoFile input) h k = (h, k)
dis_fails name at count a b o p e f ReadFault h k = (h, k)
dis_fails name at count a b o p e f WriteFault h k = (h, k)
dis_fails name at count a b o p e f (DeckRefused r) h k = (h, k)
dis_fails name at count a b o p e f (ScheduleRefused r) h k = (h, k)
dis_fails name at count a b o p e f (ScriptRefused r) h k = (h, k)
dis_fails name at count a b o p e f (TooLarge input) h k = (h, k)
dis_fails name at count a b o p e f NoMemory h k = (h, k)
dis_fails name at count a b o p e f (LogRefused r) h k = (h, k)
dis_fails name at count a b o p e f (SourceRefused r) h k = (h, k)
dis_fails name at count a b o p e f (LinkRefused r) h k = (h, k)
dis_fails name at count a b o p e f (SaveRefused r) h k = (h, k)
dis_fails name at count a b o p e f (AuditNo r) h k = (h, k)

pub debug_fails : (names : SessionNames) (c : Config) (a b : ShelfView) (o p e f : SinkView)
    (z : Beside) (s : Status) → FailsToHold names c a b z.keys z.keys_after o p s
    → Says (line_of (input_name (debug names c)) s) e f → DebugEnds names c a b o p e f z s
debug_fails names c a b o p e f z Done h k = absurd h.because
debug_fails names c a b o p e f z CheckStopped h k = (h, k)
debug_fails names c a b o p e f z Usage h k = (h, k)
debug_fails names c a b o p e f z (NoFile input) h k = (h, k)
debug_fails names c a b o p e f z ReadFault h k = (h, k)
debug_fails names c a b o p e f z WriteFault h k = (h, k)
debug_fails names c a b o p e f z (DeckRefused r) h k = (h, k)
debug_fails names c a b o p e f z (ScheduleRefused r) h k = (h, k)
debug_fails names c a b o p e f z (ScriptRefused r) h k = (h, k)
debug_fails names c a b o p e f z (TooLarge input) h k = (h, k)
debug_fails names c a b o p e f z NoMemory h k = (h, k)
debug_fails names c a b o p e f z (LogRefused r) h k = (h, k)
debug_fails names c a b o p e f z (SourceRefused r) h k = (h, k)
debug_fails names c a b o p e f z (LinkRefused r) h k = (h, k)
debug_fails names c a b o p e f z (SaveRefused r) h k = (h, k)
debug_fails names c a b o p e f z (AuditNo r) h k = (h, k)
