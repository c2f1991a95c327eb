-- The statuses of the program: their numbers, and what it says at each.
-- Source: choice of this project.
use Rattle.std.specs.Prelude.{ℕ, ◌≡◌, List, [], ◌∷◌, ◌++◌, Option, Some, None, codes, refl}
use Rattle.std.specs.Fmt.{digits}
use Rattle.deck_model.specs.declared.decks.DeckRefusal.TheVariants.{NoEnd, Unresolved}
use Rattle.run_model.specs.Numbers.{decimal}
use Rattle.run_model.specs.RefusalTexts.{schedule_refusal_text, script_refusal_text, log_refusal_text}
use Rattle.run_model.specs.declared.faults.ScriptRefusal.TheVariants.{TwoAtOneAttempt}
use Rattle.run_model.specs.declared.logs.MigrateRefusal.TheVariants as log
use Rattle.run_model.specs.declared.schedules.ScheduleRefusal.TheVariants as schedule
use Rattle.program_model.specs.declared.inputs.Input.{Input}
use Rattle.program_model.specs.declared.inputs.Input.TheVariants.{Deck, Schedule, Keys}
use Rattle.program_model.specs.declared.refusals.AsmRefusal.TheVariants.{NoBase}
use Rattle.program_model.specs.declared.refusals.AuditRefusal.{AuditRefusal}
use Rattle.program_model.specs.declared.refusals.AuditRefusal.TheVariants as audit
use Rattle.program_model.specs.declared.refusals.LinkRefusal.TheVariants as link
use Rattle.program_model.specs.declared.refusals.SaveRefusal.TheVariants.{BadLength}
use Rattle.program_model.specs.declared.status.Status.{Status}
use Rattle.program_model.specs.declared.status.Status.TheVariants.{Done, CheckStopped, Usage, NoFile, ReadFault, WriteFault, DeckRefused, ScheduleRefused, ScriptRefused, TooLarge, NoMemory, LogRefused, SourceRefused, LinkRefused, SaveRefused, AuditNo}
use Rattle.program_model.specs.Commands.{session_names, debug}
use Rattle.program_model.specs.Given.{Text}
use Rattle.program_model.specs.Inputs.{input_name}
use Rattle.program_model.specs.RefusalTexts.{deck_refusal_text, source_refusal_text, link_refusal_text, save_refusal_text, audit_refusal_text}

abbrev pub status_number : Status → ℕ
status_number Done = 0
status_number CheckStopped = 20
status_number Usage = 2
status_number (NoFile input) = 3
status_number ReadFault = 4
status_number WriteFault = 5
status_number (DeckRefused refusal) = 6
status_number (ScheduleRefused refusal) = 7
status_number (ScriptRefused refusal) = 8
status_number (TooLarge input) = 9
status_number NoMemory = 10
status_number (LogRefused refusal) = 12
status_number (SourceRefused refusal) = 13
status_number (LinkRefused refusal) = 14
status_number (SaveRefused refusal) = 15
status_number (AuditNo refusal) = 16

-- ---- the line on `err`

-- what it begins with
abbrev pub opening : Status → List ℕ
opening Done = []
opening CheckStopped = []
opening Usage = codes "usage"
opening (NoFile input) = codes "no file: "
opening ReadFault = codes "read fault"
opening WriteFault = codes "write fault"
opening (DeckRefused refusal) = codes "deck refused: "
opening (ScheduleRefused refusal) = codes "schedule refused: "
opening (ScriptRefused refusal) = codes "script refused: "
opening (TooLarge input) = codes "too large: "
opening NoMemory = codes "no memory"
opening (LogRefused refusal) = codes "log refused: "
opening (SourceRefused refusal) = codes "source refused: "
opening (LinkRefused refusal) = codes "link refused: "
opening (SaveRefused refusal) = codes "save refused: "
opening (AuditNo refusal) = []

-- what it is said of; `names` gives the names of inputs
abbrev pub subject : (Input → Text) → Status → List ℕ
subject names Done = []
subject names CheckStopped = []
subject names Usage = []
subject names (NoFile input) = names input
subject names ReadFault = []
subject names WriteFault = []
subject names (DeckRefused refusal) = deck_refusal_text refusal
subject names (ScheduleRefused refusal) = schedule_refusal_text refusal
subject names (ScriptRefused refusal) = script_refusal_text refusal
subject names (TooLarge input) = names input
subject names NoMemory = []
subject names (LogRefused refusal) = log_refusal_text refusal
subject names (SourceRefused refusal) = source_refusal_text refusal
subject names (LinkRefused refusal) = link_refusal_text refusal
subject names (SaveRefused refusal) = save_refusal_text refusal
subject names (AuditNo refusal) = []

unfoldable pub line_of : (Input → Text) → Status → List ℕ
line_of names status = opening status ++ (subject names status ++ 10 ∷ [])

-- what stands on `err`: the line of the status, or the report over the turns that were made; a log
-- that is not lawful is told on `out` alone
abbrev pub said : (Input → Text) → List ℕ → Status → List ℕ
said names report Done = report
said names report CheckStopped = report
said names report (AuditNo refusal) = []
said names report status = line_of names status

-- ---- in place of a report

-- where a machine was saved after so many turns
unfoldable pub saved_line : ℕ → List ℕ
saved_line turns = codes "saved " ++ (decimal turns ++ 10 ∷ [])

-- what is said of a log, on `out`
abbrev pub audit_line : Option AuditRefusal → List ℕ
audit_line None = codes "yes\n"
audit_line (Some refusal) = codes "no: " ++ (audit_refusal_text refusal ++ 10 ∷ [])

-- ---- worked values

-- of a debugger's session over the files D, C, S and F
pub line : Status → List ℕ
unfolding line_of digits
line status =
    line_of (input_name (debug
    (session_names (codes "D") (codes "C") (codes "S") (codes "F"))
    (record { cpus = 1; spares = 0; pages = 32; threshold = 3 }))) status

pub no_file : line (NoFile Deck) ≡ codes "no file: D\n"
unfolding line
no_file = refl

pub large_schedule : line (TooLarge Schedule) ≡ codes "too large: S\n"
unfolding line
large_schedule = refl

pub large_commands : line (TooLarge Keys) ≡ codes "too large: keys\n"
unfolding line
large_commands = refl

pub empty_deck : line (DeckRefused NoEnd) ≡ codes "deck refused: NoEnd\n"
unfolding line
empty_deck = refl

pub unresolved : line (DeckRefused (Unresolved 1)) ≡ codes "deck refused: Unresolved 1\n"
unfolding line
unresolved = refl

pub bad_word : line (ScheduleRefused (schedule.BadWord 2)) ≡ codes "schedule refused: BadWord 2\n"
unfolding line
bad_word = refl

abbrev two_fetches : List ℕ
two_fetches = codes "script refused: TwoAtOneAttempt 2\n"

pub two_at_one_attempt : line (ScriptRefused (TwoAtOneAttempt 2)) ≡ two_fetches
unfolding line
two_at_one_attempt = refl

pub bad_log : line (LogRefused (log.BadLine 2)) ≡ codes "log refused: BadLine 2\n"
unfolding line
bad_log = refl

pub no_base : line (SourceRefused (NoBase 2)) ≡ codes "source refused: NoBase 2\n"
unfolding line
no_base = refl

pub clash : line (LinkRefused (link.Clash 2)) ≡ codes "link refused: Clash 2\n"
unfolding line
clash = refl

pub refused_part : line (LinkRefused (link.Deck NoEnd)) ≡ codes "link refused: NoEnd\n"
unfolding line
refused_part = refl

pub short_save : line (SaveRefused BadLength) ≡ codes "save refused: BadLength\n"
unfolding line
short_save = refl

pub lawless : audit_line (Some (audit.Stop 10)) ≡ codes "no: Stop 10\n"
unfolding digits
lawless = refl
