-- The answer of the last search for a file, at each status.
use Rattle.std.proofs.Common.{◌≡◌, ℕ, subst, true, false, Option, Some, None}
use Rattle.debug_command.specs.Preparing.{IsRefused as IsRefusedSession}
use Rattle.g5_outside.specs.Views.{ShelfView, SinkView, SourceView}
use Rattle.program_model.specs.Commands.{Command, JobNames, SessionNames, run, debug, generate, migrate, assemble, disassemble, link, save, resume, audit}
use Rattle.program_model.specs.Given.{Text}
use Rattle.program_model.specs.declared.inputs.Input.{Input}
use Rattle.program_model.specs.declared.inputs.Input.TheVariants.{Deck, Console, Schedule, Script, Keys, Log, Program, Part, Saved}
use Rattle.program_model.specs.declared.status.Status.{Status}
use Rattle.program_model.specs.declared.status.Status.TheVariants.{Done, CheckStopped, Usage, NoFile, ReadFault, WriteFault, DeckRefused, ScheduleRefused, ScriptRefused, TooLarge, NoMemory, LogRefused, SourceRefused, LinkRefused, SaveRefused, AuditNo}
use Rattle.run_model.specs.declared.logs.Config.{Config}
use Rattle.g5_run.specs.Conversing.{DebugEnds}
use Rattle.g5_run.specs.Converts.{MigrateEnds}
use Rattle.g5_run.specs.Ends.{CommandEnds, Ends, JobEnds}
use Rattle.g5_run.specs.Judges.{AuditEnds}
use Rattle.g5_run.specs.Leaving.{Beside, SiliconAfter}
use Rattle.g5_run.specs.Searching.{ComesAfterSearch, IsOfNoFile, ReadsFiles}
use Rattle.g5_run.specs.Shows.{DisEnds}
use Rattle.g5_run.proofs.AsmEnded.{asm_found}
use Rattle.g5_run.proofs.LinkEnded.{link_found}

-- ---- at a status that comes after the searches

run_found : (names : JobNames) (c : Config) (a b : ShelfView) (o p e f : SinkView)
    (z : SiliconAfter) (status : Status) → JobEnds names c a b o p e f z status
    → ComesAfterSearch status → b.found ≡ true
run_found names c a b o p e f z Done h k = h.whole.found
run_found names c a b o p e f z CheckStopped h k = h.whole.found
run_found names c a b o p e f z Usage h k = absurd k
run_found names c a b o p e f z (NoFile input) h k = absurd k
run_found names c a b o p e f z ReadFault h k = absurd k
run_found names c a b o p e f z WriteFault h k = h.0.found
run_found names c a b o p e f z (DeckRefused r) h k = h.0.because.found
run_found names c a b o p e f z (ScheduleRefused r) h k = h.0.because.found
run_found names c a b o p e f z (ScriptRefused r) h k = h.0.because.found
run_found names c a b o p e f z (TooLarge input) h k = h.0.because.found
run_found names c a b o p e f z NoMemory h k = absurd k
run_found names c a b o p e f z (LogRefused r) h k = absurd h.0.because
run_found names c a b o p e f z (SourceRefused r) h k = absurd h.0.because
run_found names c a b o p e f z (LinkRefused r) h k = absurd h.0.because
run_found names c a b o p e f z (SaveRefused r) h k = absurd h.0.because
run_found names c a b o p e f z (AuditNo r) h k = absurd h.0.because

lines_found : (names : SessionNames) (c : Config) (a b : ShelfView) (k l : SourceView) (input : Input)
    → IsRefusedSession names c a b k l (TooLarge input) → b.found ≡ true
lines_found names c a b k l Deck h = h.found
lines_found names c a b k l Console h = h.found
lines_found names c a b k l Schedule h = h.found
lines_found names c a b k l Script h = h.found
lines_found names c a b k l Keys h = h.found
lines_found names c a b k l Log h = h.found
lines_found names c a b k l Program h = h.found
lines_found names c a b k l (Part j) h = h.found
lines_found names c a b k l Saved h = h.found

debug_found : (names : SessionNames) (c : Config) (a b : ShelfView) (o p e f : SinkView)
    (z : Beside) (status : Status) → DebugEnds names c a b o p e f z status
    → ComesAfterSearch status → b.found ≡ true
debug_found names c a b o p e f z Done h k = h.session.found
debug_found names c a b o p e f z CheckStopped h k = absurd h.0.because
debug_found names c a b o p e f z Usage h k = absurd k
debug_found names c a b o p e f z (NoFile input) h k = absurd k
debug_found names c a b o p e f z ReadFault h k = absurd k
debug_found names c a b o p e f z WriteFault h k = h.0.found
debug_found names c a b o p e f z (DeckRefused r) h k = h.0.because.found
debug_found names c a b o p e f z (ScheduleRefused r) h k = h.0.because.found
debug_found names c a b o p e f z (ScriptRefused r) h k = h.0.because.found
debug_found names c a b o p e f z (TooLarge input) h k =
    lines_found names c a b z.keys z.keys_after input h.0.because
debug_found names c a b o p e f z NoMemory h k = absurd k
debug_found names c a b o p e f z (LogRefused r) h k = absurd h.0.because
debug_found names c a b o p e f z (SourceRefused r) h k = absurd h.0.because
debug_found names c a b o p e f z (LinkRefused r) h k = absurd h.0.because
debug_found names c a b o p e f z (SaveRefused r) h k = absurd h.0.because
debug_found names c a b o p e f z (AuditNo r) h k = absurd h.0.because

migrate_found : (old new : Text) (a b : ShelfView) (e f : SinkView) (status : Status)
    → MigrateEnds old new a b e f status → ComesAfterSearch status → b.found ≡ true
migrate_found old new a b e f Done h k = h.0.found
migrate_found old new a b e f CheckStopped h k = absurd h.0.1
migrate_found old new a b e f Usage h k = absurd k
migrate_found old new a b e f (NoFile input) h k = absurd k
migrate_found old new a b e f ReadFault h k = absurd k
migrate_found old new a b e f WriteFault h k = h.0.found
migrate_found old new a b e f (DeckRefused r) h k = absurd h.0.1
migrate_found old new a b e f (ScheduleRefused r) h k = absurd h.0.1
migrate_found old new a b e f (ScriptRefused r) h k = absurd h.0.1
migrate_found old new a b e f (TooLarge input) h k = h.0.1.1.found
migrate_found old new a b e f NoMemory h k = absurd k
migrate_found old new a b e f (LogRefused r) h k = h.0.found
migrate_found old new a b e f (SourceRefused r) h k = absurd h.0.1
migrate_found old new a b e f (LinkRefused r) h k = absurd h.0.1
migrate_found old new a b e f (SaveRefused r) h k = absurd h.0.1
migrate_found old new a b e f (AuditNo r) h k = absurd h.0.1

dis_found : (deck : Text) (at count : ℕ) (a b : ShelfView) (o p e f : SinkView)
    (status : Status) → DisEnds deck at count a b o p e f status → ComesAfterSearch status
    → b.found ≡ true
dis_found deck at count a b o p e f Done h k = h.0.found
dis_found deck at count a b o p e f CheckStopped h k = absurd h.0.why
dis_found deck at count a b o p e f Usage h k = absurd k
dis_found deck at count a b o p e f (NoFile input) h k = absurd k
dis_found deck at count a b o p e f ReadFault h k = absurd k
dis_found deck at count a b o p e f WriteFault h k = h.0.found
dis_found deck at count a b o p e f (DeckRefused r) h k = h.0.found
dis_found deck at count a b o p e f (ScheduleRefused r) h k = absurd h.0.why
dis_found deck at count a b o p e f (ScriptRefused r) h k = absurd h.0.why
dis_found deck at count a b o p e f (TooLarge input) h k = h.0.why.1.found
dis_found deck at count a b o p e f NoMemory h k = absurd k
dis_found deck at count a b o p e f (LogRefused r) h k = absurd h.0.why
dis_found deck at count a b o p e f (SourceRefused r) h k = absurd h.0.why
dis_found deck at count a b o p e f (LinkRefused r) h k = absurd h.0.why
dis_found deck at count a b o p e f (SaveRefused r) h k = absurd h.0.why
dis_found deck at count a b o p e f (AuditNo r) h k = absurd h.0.why

audit_found : (log : Text) (a b : ShelfView) (o p e f : SinkView) (status : Status)
    → AuditEnds log a b o p e f status → ComesAfterSearch status → b.found ≡ true
audit_found log a b o p e f Done h k = h.0.found
audit_found log a b o p e f CheckStopped h k = absurd h.0.why
audit_found log a b o p e f Usage h k = absurd k
audit_found log a b o p e f (NoFile input) h k = absurd k
audit_found log a b o p e f ReadFault h k = absurd k
audit_found log a b o p e f WriteFault h k = h.0.found
audit_found log a b o p e f (DeckRefused r) h k = absurd h.0.why
audit_found log a b o p e f (ScheduleRefused r) h k = absurd h.0.why
audit_found log a b o p e f (ScriptRefused r) h k = absurd h.0.why
audit_found log a b o p e f (TooLarge input) h k = h.0.why.1.found
audit_found log a b o p e f NoMemory h k = absurd k
audit_found log a b o p e f (LogRefused r) h k = absurd h.0.why
audit_found log a b o p e f (SourceRefused r) h k = absurd h.0.why
audit_found log a b o p e f (LinkRefused r) h k = absurd h.0.why
audit_found log a b o p e f (SaveRefused r) h k = absurd h.0.why
audit_found log a b o p e f (AuditNo r) h k = h.0.found

command_found : (d : Command) (a b : ShelfView) (o p e f : SinkView) (z : Beside) (status : Status)
    → CommandEnds (Some d) a b o p e f z status → ReadsFiles d → ComesAfterSearch status
    → b.found ≡ true
command_found (run names c) a b o p e f z status h r k =
    run_found names c a b o p e f z.silicon status h.1 k
command_found (debug names c) a b o p e f z status h r k =
    debug_found names c a b o p e f z status h.1 k
command_found (generate number turns) a b o p e f z status h r k = absurd r
command_found (migrate old new) a b o p e f z status h r k =
    migrate_found old new a b e f status h.ends k
command_found (assemble source deck) a b o p e f z status h r k =
    asm_found source deck a b e f status h.ends k
command_found (disassemble deck at count) a b o p e f z status h r k =
    dis_found deck at count a b o p e f status h k
command_found (link out decks) a b o p e f z status h r k =
    link_found out decks a b e f status h.ends k
command_found (save turns names file c) a b o p e f z status h r k = absurd h
command_found (resume names) a b o p e f z status h r k = absurd h
command_found (audit log) a b o p e f z status h r k = audit_found log a b o p e f status h k

some_found : (d : Command) (a b : ShelfView) (o p e f : SinkView) (z : Beside) (status : Status)
    → Ends (Some d) a b o p e f z status → ReadsFiles d → ComesAfterSearch status
    → b.found ≡ true
some_found d a b o p e f z Done h r k = command_found d a b o p e f z Done h r k
some_found d a b o p e f z CheckStopped h r k = command_found d a b o p e f z CheckStopped h r k
some_found d a b o p e f z Usage h r k = absurd k
some_found d a b o p e f z (NoFile input) h r k = absurd k
some_found d a b o p e f z ReadFault h r k = absurd k
some_found d a b o p e f z WriteFault h r k = command_found d a b o p e f z WriteFault h r k
some_found d a b o p e f z (DeckRefused why) h r k =
    command_found d a b o p e f z (DeckRefused why) h r k
some_found d a b o p e f z (ScheduleRefused why) h r k =
    command_found d a b o p e f z (ScheduleRefused why) h r k
some_found d a b o p e f z (ScriptRefused why) h r k =
    command_found d a b o p e f z (ScriptRefused why) h r k
some_found d a b o p e f z (TooLarge input) h r k =
    command_found d a b o p e f z (TooLarge input) h r k
some_found d a b o p e f z NoMemory h r k = absurd k
some_found d a b o p e f z (LogRefused why) h r k =
    command_found d a b o p e f z (LogRefused why) h r k
some_found d a b o p e f z (SourceRefused why) h r k =
    command_found d a b o p e f z (SourceRefused why) h r k
some_found d a b o p e f z (LinkRefused why) h r k =
    command_found d a b o p e f z (LinkRefused why) h r k
some_found d a b o p e f z (SaveRefused why) h r k =
    command_found d a b o p e f z (SaveRefused why) h r k
some_found d a b o p e f z (AuditNo why) h r k = command_found d a b o p e f z (AuditNo why) h r k

pub ends_found : (asked : Option Command) (d : Command) (a b : ShelfView) (o p e f : SinkView)
    (z : Beside) (status : Status) → Ends asked a b o p e f z status → asked ≡ Some d
    → ReadsFiles d → ComesAfterSearch status → b.found ≡ true
ends_found asked d a b o p e f z status h is r k =
    some_found d a b o p e f z status (subst (λ q. Ends q a b o p e f z status) is h) r k

-- ---- where there is no such file

command_missing : (asked : Option Command) (a b : ShelfView) (o p e f : SinkView) (z : Beside)
    (input : Input) → CommandEnds asked a b o p e f z (NoFile input) → b.found ≡ false
command_missing None a b o p e f z input h = absurd h
command_missing (Some (run names c)) a b o p e f z input h = h.1.0.because.found
command_missing (Some (debug names c)) a b o p e f z input h = h.1.0.because.found
command_missing (Some (generate number turns)) a b o p e f z input h = absurd h.ends
command_missing (Some (migrate old new)) a b o p e f z input h = h.ends.0.1.1.found
command_missing (Some (assemble source deck)) a b o p e f z input h = h.ends.0.1.1.found
command_missing (Some (disassemble deck at count)) a b o p e f z input h = h.0.why.1.found
command_missing (Some (link out decks)) a b o p e f z input h = h.ends.0.1.finds.found
command_missing (Some (save turns names file c)) a b o p e f z input h = absurd h
command_missing (Some (resume names)) a b o p e f z input h = absurd h
command_missing (Some (audit log)) a b o p e f z input h = h.0.why.1.found

pub ends_missing : (asked : Option Command) (a b : ShelfView) (o p e f : SinkView) (z : Beside)
    (status : Status) → Ends asked a b o p e f z status → IsOfNoFile status → b.found ≡ false
ends_missing asked a b o p e f z Done h k = absurd k
ends_missing asked a b o p e f z CheckStopped h k = absurd k
ends_missing asked a b o p e f z Usage h k = absurd k
ends_missing asked a b o p e f z (NoFile input) h k =
    command_missing asked a b o p e f z input h
ends_missing asked a b o p e f z ReadFault h k = absurd k
ends_missing asked a b o p e f z WriteFault h k = absurd k
ends_missing asked a b o p e f z (DeckRefused r) h k = absurd k
ends_missing asked a b o p e f z (ScheduleRefused r) h k = absurd k
ends_missing asked a b o p e f z (ScriptRefused r) h k = absurd k
ends_missing asked a b o p e f z (TooLarge input) h k = absurd k
ends_missing asked a b o p e f z NoMemory h k = absurd k
ends_missing asked a b o p e f z (LogRefused r) h k = absurd k
ends_missing asked a b o p e f z (SourceRefused r) h k = absurd k
ends_missing asked a b o p e f z (LinkRefused r) h k = absurd k
ends_missing asked a b o p e f z (SaveRefused r) h k = absurd k
ends_missing asked a b o p e f z (AuditNo r) h k = absurd k
