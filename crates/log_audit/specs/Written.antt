-- Logs that are written: what is read of them, and which are judged lawful; and where the cores are
-- along a log that is. Source: choice of this project.
use Rattle.std.specs.Prelude.{⊤, ℕ, ◌≡◌, ◌≤◌, ◌<◌, ◌^◌, List, [], ◌∷◌, ◌++◌, length, Ok}
use Rattle.run_model.specs.declared.logs.Config.{Config}
use Rattle.run_model.specs.declared.logs.Entry.{Entry}
use Rattle.run_model.specs.declared.outputs.Place.TheVariants as place
use Rattle.run_model.specs.Counts.{counts}
use Rattle.run_model.specs.Cores.{Choice}
use Rattle.run_model.specs.Lawful.{Lawful, OnePlace}
use Rattle.run_model.specs.LogLines.{entry_line, head, heading, tail}
use Rattle.run_model.specs.LogReading.{IsEntry, ending}
use Rattle.run_model.specs.Pieces.{text}
use Rattle.run_model.specs.Runs.{Told, entries}
use Rattle.run_model.specs.Since.{pushed}
use Rattle.run_model.specs.Sorts.{how_many, is_stop_entry}
use Rattle.run_model.specs.Texts.{whole}
use Rattle.run_laws.specs.Runs.{Tells, ValidTurns}
use Rattle.log_audit.specs.declared.auditing.Audited.{Audited}
use Rattle.log_audit.specs.Form.{Log, log_in}
use Rattle.log_audit.specs.Tallies.{is_spared_entry}
use Rattle.log_audit.specs.Verdict.{audited, config_of}

-- ---- whole logs

abbrev pub entry_lines : List Entry → List ℕ
entry_lines [] = []
entry_lines (e ∷ es) = entry_line e ++ entry_lines es

-- the log of a machine that is made so, with the two numbers of its tail
abbrev pub log_text : Config → List Entry → ℕ → ℕ → List ℕ
log_text c es turns returned = head c ++ (entry_lines es ++ tail turns returned)

abbrev pub said : Config → List Entry → ℕ → ℕ → Log
said c es turns returned = record {
  heading = heading c.cpus c.spares c.threshold;
  body = record { entries = es; ending = ending turns returned };
}

-- the numbers have the ranges of a machine and of their types
abbrev pub AreEntries : List Entry → Type 0
AreEntries [] = ⊤
AreEntries (e ∷ es) = IsEntry e × AreEntries es

pub record Writes (c : Config) (es : List Entry) (turns returned : ℕ) : Type 0 where
  pub some_cpu : 1 ≤ c.cpus
  pub cpus : c.cpus ≤ 8
  pub spares : c.spares ≤ 8
  pub threshold : c.threshold ≤ 15
  pub each : AreEntries es
  pub turns_fit : turns < 2 ^ 64
  pub returned_fit : returned < 2 ^ 64

-- a log that is written is read as what was written
abbrev pub WrittenIsRead : Type 0
WrittenIsRead =
    (c : Config) (es : List Entry) (turns returned : ℕ) → Writes c es turns returned
    → log_in (log_text c es turns returned) ≡ Ok (said c es turns returned)

abbrev pub told_of : List Entry → ℕ → Audited
told_of es turns = record {
  turns = turns;
  spared = how_many is_spared_entry es;
  stopped = how_many is_stop_entry es;
}

-- and judged lawful where its entries are, whatever storage the machine has
abbrev pub LawfulIsYes : Type 0
LawfulIsYes =
    (c : Config) (es : List Entry) (turns returned : ℕ) → Writes c es turns returned
    → Lawful c turns returned es
    → audited (log_text c es turns returned) ≡ Ok (told_of es turns)

-- ---- the logs of runs

-- so the log of every run is judged lawful, whatever its turns meet
abbrev pub RunsAreYes : Type 0
RunsAreYes =
    (c : Config) (xs : List Choice) (ts : List Told) → ValidTurns c xs → Tells c xs ts
    → Writes c (entries ts) (length ts) (counts ts).returned
    → audited (text place.Log (whole c ts)) ≡ Ok (told_of (entries ts) (length ts))

-- ---- the cores along a lawful log

-- after each entry no core is with two CPUs, and none is both with a CPU and on hand
abbrev pub CoresInOnePlace : Type 0
CoresInOnePlace =
    (log : List ℕ) (a : Audited) (l : Log) (es more : List Entry) → audited log ≡ Ok a
    → log_in log ≡ Ok l → l.body.entries ≡ es ++ more
    → OnePlace (config_of l.heading) (pushed es [])
