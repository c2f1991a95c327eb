-- The inputs that are drawn from a number. Source: choice of this project.
use Rattle.std.specs.Prelude.{◌≡◌, ℕ, Ok}
use Rattle.program_model.specs.Accepted.{Job, generated_bytes, job}
use Rattle.program_model.specs.Generator.{generated_config}
use Rattle.run_model.specs.Premise.{Within}
use Rattle.run_model.specs.Schedule.{turns_of}

-- what is drawn from a number for so many turns gives this job, of so many turns and within the premise
pub record IsGeneratedJob (number count : ℕ) (j : Job) : Type 0 where
  pub accepted : job generated_config (generated_bytes number count) ≡ Ok j
  pub whole : turns_of j.runs ≡ count
  pub within : Within j.strikes
