-- What follows from how the program ends.
use Rattle.std.proofs.Common.{◌≡◌, ℕ, ap, Option, Some, None}
use Rattle.g5_outside.specs.Views.{ShelfView, SinkView}
use Rattle.program_model.specs.Commands.{Command, JobNames, SessionNames, run, debug, generate, migrate, assemble, disassemble, link, save, resume, audit}
use Rattle.program_model.specs.Given.{Text}
use Rattle.program_model.specs.declared.status.Status.{Status}
use Rattle.program_model.specs.declared.status.Status.TheVariants.{Done, CheckStopped, Usage, NoFile, ReadFault, WriteFault, DeckRefused, ScheduleRefused, ScriptRefused, TooLarge, NoMemory, LogRefused, SourceRefused, LinkRefused, SaveRefused, AuditNo}
use Rattle.run_model.specs.declared.logs.Config.{Config}
use Rattle.g5_run.specs.Complete.{ComesBeforeOutput}
use Rattle.g5_run.specs.Conversing.{DebugEnds}
use Rattle.g5_run.specs.Converts.{MigrateEnds}
use Rattle.g5_run.specs.Ends.{CommandEnds, Ends, JobEnds}
use Rattle.g5_run.specs.Generates.{GenEnds}
use Rattle.g5_run.specs.Judges.{AuditEnds}
use Rattle.g5_run.specs.Leaving.{Beside, SiliconAfter}
use Rattle.g5_run.specs.Shows.{DisEnds}
use Rattle.g5_run.specs.Holding.{Untouched}
use Rattle.g5_run.proofs.AsmEnded.{asm_untouched}
use Rattle.g5_run.proofs.LinkEnded.{link_untouched}

-- ---- before an output is begun nothing is touched

job_untouched : (names : JobNames) (c : Config) (a b : ShelfView) (o p e f : SinkView) (z : SiliconAfter)
    (status : Status) → JobEnds names c a b o p e f z status → ComesBeforeOutput status
    → Untouched a b o p
job_untouched names c a b o p e f z Done h k = absurd k
job_untouched names c a b o p e f z CheckStopped h k = absurd k
job_untouched names c a b o p e f z WriteFault h k = absurd k
job_untouched names c a b o p e f z Usage h k = h.0.untouched
job_untouched names c a b o p e f z (NoFile input) h k = h.0.untouched
job_untouched names c a b o p e f z ReadFault h k = h.0.untouched
job_untouched names c a b o p e f z (DeckRefused r) h k = h.0.untouched
job_untouched names c a b o p e f z (ScheduleRefused r) h k = h.0.untouched
job_untouched names c a b o p e f z (ScriptRefused r) h k = h.0.untouched
job_untouched names c a b o p e f z (TooLarge input) h k = h.0.untouched
job_untouched names c a b o p e f z NoMemory h k = h.0.untouched
job_untouched names c a b o p e f z (LogRefused r) h k = h.0.untouched
job_untouched names c a b o p e f z (SourceRefused r) h k = h.0.untouched
job_untouched names c a b o p e f z (LinkRefused r) h k = h.0.untouched
job_untouched names c a b o p e f z (SaveRefused r) h k = h.0.untouched
job_untouched names c a b o p e f z (AuditNo r) h k = absurd k

gen_untouched : (number turns : ℕ) (o p e f : SinkView) (z : SiliconAfter) (status : Status)
    → GenEnds number turns o p e f z status → ComesBeforeOutput status → p ≡ o
gen_untouched number turns o p e f z Done h k = absurd k
gen_untouched number turns o p e f z CheckStopped h k = absurd k
gen_untouched number turns o p e f z Usage h k = absurd h
gen_untouched number turns o p e f z (NoFile input) h k = absurd h
gen_untouched number turns o p e f z ReadFault h k = absurd h
gen_untouched number turns o p e f z WriteFault h k = absurd k
gen_untouched number turns o p e f z (DeckRefused r) h k = absurd h
gen_untouched number turns o p e f z (ScheduleRefused r) h k = absurd h
gen_untouched number turns o p e f z (ScriptRefused r) h k = absurd h
gen_untouched number turns o p e f z (TooLarge input) h k = absurd h
gen_untouched number turns o p e f z NoMemory h k = h.0
gen_untouched number turns o p e f z (LogRefused r) h k = absurd h
gen_untouched number turns o p e f z (SourceRefused r) h k = absurd h
gen_untouched number turns o p e f z (LinkRefused r) h k = absurd h
gen_untouched number turns o p e f z (SaveRefused r) h k = absurd h
gen_untouched number turns o p e f z (AuditNo r) h k = absurd k

migrate_untouched : (old new : Text) (a b : ShelfView) (e f : SinkView) (status : Status)
    → MigrateEnds old new a b e f status → ComesBeforeOutput status → b.numbers ≡ a.numbers
migrate_untouched old new a b e f Done h k = absurd k
migrate_untouched old new a b e f CheckStopped h k = absurd k
migrate_untouched old new a b e f Usage h k = h.0.0
migrate_untouched old new a b e f (NoFile input) h k = h.0.0
migrate_untouched old new a b e f ReadFault h k = h.0.0
migrate_untouched old new a b e f WriteFault h k = absurd k
migrate_untouched old new a b e f (DeckRefused r) h k = h.0.0
migrate_untouched old new a b e f (ScheduleRefused r) h k = h.0.0
migrate_untouched old new a b e f (ScriptRefused r) h k = h.0.0
migrate_untouched old new a b e f (TooLarge input) h k = h.0.0
migrate_untouched old new a b e f NoMemory h k = h.0.0
migrate_untouched old new a b e f (LogRefused r) h k = h.0.numbers
migrate_untouched old new a b e f (SourceRefused r) h k = h.0.0
migrate_untouched old new a b e f (LinkRefused r) h k = h.0.0
migrate_untouched old new a b e f (SaveRefused r) h k = h.0.0
migrate_untouched old new a b e f (AuditNo r) h k = absurd k

audit_untouched : (log : Text) (a b : ShelfView) (o p e f : SinkView) (status : Status)
    → AuditEnds log a b o p e f status → ComesBeforeOutput status → Untouched a b o p
audit_untouched log a b o p e f Done h k = absurd k
audit_untouched log a b o p e f CheckStopped h k = absurd k
audit_untouched log a b o p e f Usage h k =
    record { numbers = h.0.numbers; out = h.0.out }
audit_untouched log a b o p e f (NoFile input) h k =
    record { numbers = h.0.numbers; out = h.0.out }
audit_untouched log a b o p e f ReadFault h k =
    record { numbers = h.0.numbers; out = h.0.out }
audit_untouched log a b o p e f WriteFault h k = absurd k
audit_untouched log a b o p e f (DeckRefused r) h k =
    record { numbers = h.0.numbers; out = h.0.out }
audit_untouched log a b o p e f (ScheduleRefused r) h k =
    record { numbers = h.0.numbers; out = h.0.out }
audit_untouched log a b o p e f (ScriptRefused r) h k =
    record { numbers = h.0.numbers; out = h.0.out }
audit_untouched log a b o p e f (TooLarge input) h k =
    record { numbers = h.0.numbers; out = h.0.out }
audit_untouched log a b o p e f NoMemory h k =
    record { numbers = h.0.numbers; out = h.0.out }
audit_untouched log a b o p e f (LogRefused r) h k =
    record { numbers = h.0.numbers; out = h.0.out }
audit_untouched log a b o p e f (SourceRefused r) h k =
    record { numbers = h.0.numbers; out = h.0.out }
audit_untouched log a b o p e f (LinkRefused r) h k =
    record { numbers = h.0.numbers; out = h.0.out }
audit_untouched log a b o p e f (SaveRefused r) h k =
    record { numbers = h.0.numbers; out = h.0.out }
audit_untouched log a b o p e f (AuditNo r) h k = absurd k

debug_untouched : (names : SessionNames) (c : Config) (a b : ShelfView) (o p e f : SinkView)
    (z : Beside) (status : Status) → DebugEnds names c a b o p e f z status
    → ComesBeforeOutput status → Untouched a b o p
debug_untouched names c a b o p e f z Done h k = absurd k
debug_untouched names c a b o p e f z CheckStopped h k = absurd k
debug_untouched names c a b o p e f z Usage h k =
    record { numbers = h.0.numbers; out = h.0.out }
debug_untouched names c a b o p e f z (NoFile input) h k =
    record { numbers = h.0.numbers; out = h.0.out }
debug_untouched names c a b o p e f z ReadFault h k =
    record { numbers = h.0.numbers; out = h.0.out }
debug_untouched names c a b o p e f z WriteFault h k = absurd k
debug_untouched names c a b o p e f z (DeckRefused r) h k =
    record { numbers = h.0.numbers; out = h.0.out }
debug_untouched names c a b o p e f z (ScheduleRefused r) h k =
    record { numbers = h.0.numbers; out = h.0.out }
debug_untouched names c a b o p e f z (ScriptRefused r) h k =
    record { numbers = h.0.numbers; out = h.0.out }
debug_untouched names c a b o p e f z (TooLarge input) h k =
    record { numbers = h.0.numbers; out = h.0.out }
debug_untouched names c a b o p e f z NoMemory h k =
    record { numbers = h.0.numbers; out = h.0.out }
debug_untouched names c a b o p e f z (LogRefused r) h k =
    record { numbers = h.0.numbers; out = h.0.out }
debug_untouched names c a b o p e f z (SourceRefused r) h k =
    record { numbers = h.0.numbers; out = h.0.out }
debug_untouched names c a b o p e f z (LinkRefused r) h k =
    record { numbers = h.0.numbers; out = h.0.out }
debug_untouched names c a b o p e f z (SaveRefused r) h k =
    record { numbers = h.0.numbers; out = h.0.out }
debug_untouched names c a b o p e f z (AuditNo r) h k = absurd k

dis_untouched : (deck : Text) (at count : ℕ) (a b : ShelfView) (o p e f : SinkView)
    (status : Status) → DisEnds deck at count a b o p e f status → ComesBeforeOutput status
    → Untouched a b o p
dis_untouched deck at count a b o p e f Done h k = absurd k
dis_untouched deck at count a b o p e f CheckStopped h k = absurd k
dis_untouched deck at count a b o p e f Usage h k =
    record { numbers = h.0.numbers; out = h.0.out }
dis_untouched deck at count a b o p e f (NoFile input) h k =
    record { numbers = h.0.numbers; out = h.0.out }
dis_untouched deck at count a b o p e f ReadFault h k =
    record { numbers = h.0.numbers; out = h.0.out }
dis_untouched deck at count a b o p e f WriteFault h k = absurd k
dis_untouched deck at count a b o p e f (DeckRefused r) h k =
    record { numbers = h.0.numbers; out = h.0.out }
dis_untouched deck at count a b o p e f (ScheduleRefused r) h k =
    record { numbers = h.0.numbers; out = h.0.out }
dis_untouched deck at count a b o p e f (ScriptRefused r) h k =
    record { numbers = h.0.numbers; out = h.0.out }
dis_untouched deck at count a b o p e f (TooLarge input) h k =
    record { numbers = h.0.numbers; out = h.0.out }
dis_untouched deck at count a b o p e f NoMemory h k =
    record { numbers = h.0.numbers; out = h.0.out }
dis_untouched deck at count a b o p e f (LogRefused r) h k =
    record { numbers = h.0.numbers; out = h.0.out }
dis_untouched deck at count a b o p e f (SourceRefused r) h k =
    record { numbers = h.0.numbers; out = h.0.out }
dis_untouched deck at count a b o p e f (LinkRefused r) h k =
    record { numbers = h.0.numbers; out = h.0.out }
dis_untouched deck at count a b o p e f (SaveRefused r) h k =
    record { numbers = h.0.numbers; out = h.0.out }
dis_untouched deck at count a b o p e f (AuditNo r) h k = absurd k

command_untouched : (asked : Option Command) (a b : ShelfView) (o p e f : SinkView)
    (z : Beside) (status : Status) → CommandEnds asked a b o p e f z status
    → ComesBeforeOutput status → Untouched a b o p
command_untouched None a b o p e f z status h k = absurd h
command_untouched (Some (run names c)) a b o p e f z status h k =
    job_untouched names c a b o p e f z.silicon status h.1 k
command_untouched (Some (generate number turns)) a b o p e f z status h k = record {
  numbers = ap (λ (s : ShelfView). s.numbers) h.shelf;
  out = gen_untouched number turns o p e f z.silicon status h.ends k;
}
command_untouched (Some (debug names c)) a b o p e f z status h k =
    debug_untouched names c a b o p e f z status h.1 k
command_untouched (Some (migrate old new)) a b o p e f z status h k = record {
  numbers = migrate_untouched old new a b e f status h.ends k;
  out = h.out;
}
command_untouched (Some (assemble source deck)) a b o p e f z status h k = record {
  numbers = asm_untouched source deck a b e f status h.ends k;
  out = h.out;
}
command_untouched (Some (disassemble deck at count)) a b o p e f z status h k =
    dis_untouched deck at count a b o p e f status h k
command_untouched (Some (link out decks)) a b o p e f z status h k = record {
  numbers = link_untouched out decks a b e f status h.ends k;
  out = h.out;
}
command_untouched (Some (save turns names file c)) a b o p e f z status h k = absurd h
command_untouched (Some (resume names)) a b o p e f z status h k = absurd h
command_untouched (Some (audit log)) a b o p e f z status h k =
    audit_untouched log a b o p e f status h k

pub ends_untouched : (asked : Option Command) (a b : ShelfView) (o p e f : SinkView) (z : Beside)
    (status : Status) → Ends asked a b o p e f z status → ComesBeforeOutput status
    → Untouched a b o p
ends_untouched asked a b o p e f z Done h k = absurd k
ends_untouched asked a b o p e f z CheckStopped h k = absurd k
ends_untouched asked a b o p e f z Usage h k = h.1.untouched
ends_untouched asked a b o p e f z (NoFile input) h k =
    command_untouched asked a b o p e f z (NoFile input) h k
ends_untouched asked a b o p e f z ReadFault h k =
    command_untouched asked a b o p e f z ReadFault h k
ends_untouched asked a b o p e f z WriteFault h k = absurd k
ends_untouched asked a b o p e f z (DeckRefused r) h k =
    command_untouched asked a b o p e f z (DeckRefused r) h k
ends_untouched asked a b o p e f z (ScheduleRefused r) h k =
    command_untouched asked a b o p e f z (ScheduleRefused r) h k
ends_untouched asked a b o p e f z (ScriptRefused r) h k =
    command_untouched asked a b o p e f z (ScriptRefused r) h k
ends_untouched asked a b o p e f z (TooLarge input) h k =
    command_untouched asked a b o p e f z (TooLarge input) h k
ends_untouched asked a b o p e f z NoMemory h k = h.untouched
ends_untouched asked a b o p e f z (LogRefused r) h k =
    command_untouched asked a b o p e f z (LogRefused r) h k
ends_untouched asked a b o p e f z (SourceRefused r) h k =
    command_untouched asked a b o p e f z (SourceRefused r) h k
ends_untouched asked a b o p e f z (LinkRefused r) h k =
    command_untouched asked a b o p e f z (LinkRefused r) h k
ends_untouched asked a b o p e f z (SaveRefused r) h k =
    command_untouched asked a b o p e f z (SaveRefused r) h k
ends_untouched asked a b o p e f z (AuditNo r) h k = absurd k
