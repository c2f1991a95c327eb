-- Whether a log of version 2 is lawful, judged by itself: the first line that has not the form of
-- its place, else the first that fails a point, else the tail. Source: choice of this project.
use Rattle.std.specs.Prelude.{ℕ, ◌≡◌, ◌==◌, if◌then◌else◌, List, [], Option, Some, None, Result, Ok, Err}
use Rattle.run_model.specs.LogLines.{Heading}
use Rattle.run_model.specs.Sorts.{how_many, is_returned_entry, is_stop_entry}
use Rattle.run_model.specs.Lawful.{Lawful}
use Rattle.run_model.specs.declared.logs.Config.{Config}
use Rattle.program_model.specs.declared.refusals.AuditRefusal.{AuditRefusal}
use Rattle.program_model.specs.declared.refusals.AuditRefusal.TheVariants.{BadLine, Tail}
use Rattle.log_audit.specs.declared.auditing.Audited.{Audited}
use Rattle.log_audit.specs.Form.{Log, log_in}
use Rattle.log_audit.specs.Tallies.{is_spared_entry}
use Rattle.log_audit.specs.Points.{first_refusal, or_else, unless}

-- a machine with the numbers of a head; its storage is not told, and no point asks for it
abbrev pub config_of : Heading → Config
config_of h =
    record { cpus = h.cpus; spares = h.spares; pages = 0; threshold = h.threshold }

abbrev pub tail_refusal : ℕ → ℕ → Option AuditRefusal
tail_refusal told returned = if returned == told then None else Some Tail

-- of its entries, which stand from line 2 on
abbrev pub entry_refusal : Log → Option AuditRefusal
entry_refusal l =
    first_refusal (config_of l.heading) l.body.ending.turns 2 [] l.body.entries

abbrev pub count_refusal : Log → Option AuditRefusal
count_refusal l =
    tail_refusal l.body.ending.returned (how_many is_returned_entry l.body.entries)

abbrev pub refusal_of : Log → Option AuditRefusal
refusal_of l = or_else (entry_refusal l) (count_refusal l)

-- what is answered of a lawful log
abbrev pub counted : Log → Audited
counted l = record {
  turns = l.body.ending.turns;
  spared = how_many is_spared_entry l.body.entries;
  stopped = how_many is_stop_entry l.body.entries;
}

abbrev pub judged : Result Log ℕ → Result Audited AuditRefusal
judged (Err n) = Err (BadLine n)
judged (Ok l) = unless (refusal_of l) (counted l)

unfoldable pub audited : List ℕ → Result Audited AuditRefusal
audited text = judged (log_in text)

-- ---- which logs are lawful

pub record IsLawfulLog (text : List ℕ) (a : Audited) : Type 0 where
  pub log : Log
  pub form : log_in text ≡ Ok log
  pub lawful :
      Lawful (config_of log.heading) log.body.ending.turns log.body.ending.returned
      log.body.entries
  pub counts : a ≡ counted log

-- an answer is yes exactly there
abbrev pub YesWhereLawful : List ℕ → Result Audited AuditRefusal → Type 0
YesWhereLawful text answer =
    (a : Audited) → (answer ≡ Ok a → IsLawfulLog text a) × (IsLawfulLog text a → answer ≡ Ok a)

abbrev pub YesExactlyWhereLawful : Type 0
YesExactlyWhereLawful = (text : List ℕ) → YesWhereLawful text (audited text)
