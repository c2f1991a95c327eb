-- How the run of a generated input ends. Source: choice of this project.
use Rattle.std.specs.Prelude.{◌≡◌, ◌≤◌, ℕ, ◌++◌, true, IsTrue, take}
use Rattle.g5_outside.specs.Causes.{Rose}
use Rattle.g5_outside.specs.Views.{ShelfView, SinkView}
use Rattle.gen_runs.specs.Generated.{IsGeneratedRun}
use Rattle.gen_runs.specs.declared.tallies.Tally.{Tally}
use Rattle.program_model.specs.Accepted.{job_tells}
use Rattle.program_model.specs.Commands.{generate}
use Rattle.program_model.specs.Generator.{generated_config}
use Rattle.program_model.specs.Inputs.{input_name}
use Rattle.program_model.specs.Statuses.{line_of}
use Rattle.program_model.specs.declared.status.Status.{Status}
use Rattle.program_model.specs.declared.status.Status.TheVariants.{Done, CheckStopped, WriteFault, NoMemory}
use Rattle.run_model.specs.Texts.{report, run_summary}
use Rattle.status_lines.specs.Says.{Says}
use Rattle.g5_run.specs.Leaving.{SiliconAfter, status_by}

-- all turns were made, their summary is on the output, and the report is said; the script is within
-- the premise
pub record Summarizes (number turns : ℕ) (o p e f : SinkView) (z : SiliconAfter)
    (status : Status) : Type 0 where
  pub tally : Tally
  pub run : IsGeneratedRun number turns tally z.chip z.before z.after
  pub status_is : status ≡ status_by tally.counts
  pub summary : IsTrue o.told
      → p.taken ≡ o.taken ++ run_summary (job_tells generated_config run.job)
  pub said : Says (report true tally.counts) e f

-- all turns were made, and the output failed in the midst of their summary
pub record CutsSummary (number turns : ℕ) (o p e f : SinkView) (z : SiliconAfter) : Type 0 where
  pub tally : Tally
  pub run : IsGeneratedRun number turns tally z.chip z.before z.after
  pub count : ℕ
  pub summary : IsTrue o.told
      → p.taken ≡ o.taken ++ take count (run_summary (job_tells generated_config run.job))
  pub cause : Rose o.faults p.faults
  pub said : Says (line_of (input_name (generate number turns)) WriteFault) e f

abbrev pub GenEnds : ℕ → ℕ → SinkView → SinkView → SinkView → SinkView → SiliconAfter → Status
    → Type 0
GenEnds number turns o p e f z Done = Summarizes number turns o p e f z Done
GenEnds number turns o p e f z CheckStopped = Summarizes number turns o p e f z CheckStopped
GenEnds number turns o p e f z WriteFault = CutsSummary number turns o p e f z
GenEnds number turns o p e f z NoMemory =
    (p ≡ o) × Says (line_of (input_name (generate number turns)) NoMemory) e f
GenEnds number turns o p e f z status = ⊥

-- a number of turns in its range; no file was touched
pub record Generates (number turns : ℕ) (a b : ShelfView) (o p e f : SinkView) (z : SiliconAfter)
    (status : Status) : Type 0 where
  pub some : 1 ≤ turns
  pub few : turns ≤ 1000000
  pub shelf : b ≡ a
  pub ends : GenEnds number turns o p e f z status
