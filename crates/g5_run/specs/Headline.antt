-- The headline. For every deck, console input, schedule and fault script within the premise, trace
-- and console are those of the machine of the Principles of Operation without faults, over the
-- commits in their order; a CPU check-stops only where the log shows an uncorrectable word, or a
-- failure past the threshold with no spare left; no instruction is retried past the threshold
-- between transfers; and the log tells what was struck. Source: the promise of this project.
use Rattle.std.specs.Prelude.{◌≡◌, ◌++◌, List, IsTrue}
use Rattle.g5_outside.specs.Views.{ShelfView, SinkView}
use Rattle.g5_writing.specs.Starts.{text_named}
use Rattle.program_model.specs.Accepted.{Job, first_machine, job_tells}
use Rattle.program_model.specs.Commands.{JobNames}
use Rattle.run_laws.specs.EventRuns.{events_tell}
use Rattle.run_laws.specs.Rules.{KeepsRules}
use Rattle.run_laws.specs.Runs.{told_without}
use Rattle.run_loop.specs.Engines.{FailsAsStruck}
use Rattle.run_model.specs.declared.logs.Config.{Config}
use Rattle.run_model.specs.declared.outputs.Place.TheVariants.{Log, Trace, Out}
use Rattle.run_model.specs.Pieces.{text}
use Rattle.run_model.specs.Runs.{Told, entries, order}
use Rattle.run_model.specs.Texts.{turns_pieces, whole}
use Rattle.machine_runs.specs.RunTells.{turns}

-- what the machine without faults tells of the events in their order
abbrev pub faultless : Config → Job → List Told
faultless c j = events_tell (first_machine c j) (order (job_tells c j))

pub record Headline (names : JobNames) (c : Config) (j : Job) (shelf : ShelfView)
    (out_old out_new : SinkView) : Type 0 where
  pub trace : IsTrue shelf.told
      → text_named shelf names.trace ≡ text Trace (turns_pieces 0 (faultless c j))
  pub console : IsTrue out_old.told
      → out_new.taken ≡ out_old.taken ++ text Out (turns_pieces 0 (faultless c j))
  pub log : IsTrue shelf.told → text_named shelf names.log ≡ text Log (whole c (job_tells c j))
  pub rules : KeepsRules c (job_tells c j)
  pub causes : FailsAsStruck j.strikes (entries (job_tells c j))

-- ---- the same run without faults

-- trace and console are also those of the empty script, and of the schedule without the turns that
-- make no event
pub record SameWithoutFaults (names : JobNames) (c : Config) (j : Job) (shelf : ShelfView)
    (out_old out_new : SinkView) : Type 0 where
  pub trace : IsTrue shelf.told → text_named shelf names.trace
      ≡ text Trace (turns_pieces 0 (told_without j.strikes c (first_machine c j) (turns j)))
  pub console : IsTrue out_old.told → out_new.taken ≡ out_old.taken
      ++ text Out (turns_pieces 0 (told_without j.strikes c (first_machine c j) (turns j)))
