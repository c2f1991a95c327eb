-- The run of a generated input. Source: choice of this project.
use Rattle.std.specs.Prelude.{◌≡◌, ℕ, length}
use Rattle.machine_runs.specs.Jobs.{LeavesSilicon, job_hands}
use Rattle.machine_runs.specs.RunTells.{state_after, turns}
use Rattle.program_model.specs.Accepted.{Job, job_tells}
use Rattle.program_model.specs.Generator.{generated_config}
use Rattle.run_laws.specs.Rules.{KeepsRules}
use Rattle.run_loop.specs.Engines.{FailsAsStruck}
use Rattle.run_model.specs.Counts.{counts}
use Rattle.run_model.specs.Runs.{entries}
use Rattle.run_model.specs.Texts.{trace_bytes}
use Rattle.silicon.specs.Chip.{Chip}
use Rattle.silicon.specs.Tape.{Tape, tells as tells_tape}
use Rattle.gen_runs.specs.Inputs.{IsGeneratedJob}
use Rattle.gen_runs.specs.declared.tallies.Tally.{Tally}

-- All its turns were made, each as the definitions say, and this is what is counted of them. The run
-- keeps the rules of every run. The silicon is left as the last state has it, and tells what the
-- turns handed in.
pub record IsGeneratedRun (number count : ℕ) (tally : Tally) (z : Chip) (v w : Tape) : Type 0 where
  pub job : Job
  pub is : IsGeneratedJob number count job
  pub counted : tally.counts ≡ counts (job_tells generated_config job)
  pub traced : tally.trace ≡ trace_bytes (job_tells generated_config job)
  pub rules : KeepsRules generated_config (job_tells generated_config job)
  pub causes : FailsAsStruck job.strikes (entries (job_tells generated_config job))
  pub silicon :
      LeavesSilicon generated_config (state_after generated_config job (length (turns job))) z
  pub handed : w ≡ tells_tape v (job_hands generated_config job)
