-- A job's run in two parts. Source: choice of this project.
use Rattle.std.specs.Prelude.{◌≡◌, ◌≤◌, ◌+◌, ◌++◌, ℕ, Bool, IsTrue, List, drop, length, take}
use Rattle.program_model.specs.Accepted.{Job, job_tells}
use Rattle.run_model.specs.declared.logs.Config.{Config}
use Rattle.run_model.specs.declared.outputs.Counts.{Counts}
use Rattle.run_model.specs.Counts.{count_turns, counts}
use Rattle.run_model.specs.Runs.{Told}
use Rattle.run_model.specs.Texts.{front}
use Rattle.silicon.specs.Chip.{Chip}
use Rattle.machine_runs.specs.Jobs.{LeavesSilicon}
use Rattle.machine_runs.specs.RunTells.{IsSound, RunTells, state_after, turns}
use Rattle.machine_runs.specs.Whole.{pieces_by}
use Rattle.saved_runs.specs.Counting.{SameCounts}
use Rattle.saved_runs.specs.Parts.{rest_by}

-- The first turns of a job's run told `told`, and the rest of them, counted from `start` on, told
-- `more`, up to the tail of the log or not so far. Both together are what is said of the turns of
-- one run: for every script its rules and its causes, what the definitions say as far as the turns
-- are sound, the pieces of one run's outputs, and its counts. Where all turns are made and sound, the
-- silicon of the rest has the attempts begun and the words of the last state.
pub record IsRunInTwo (c : Config) (j : Job) (start : Counts) (told more : List Told)
    (ended : Bool) (z : Chip) : Type 0 where
  pub tells : RunTells c j (told ++ more)
  pub pieces : front c told ++ rest_by ended start more ≡ pieces_by ended c (told ++ more)
  pub counted : SameCounts (count_turns start more) (counts (told ++ more))
  pub all : IsTrue ended → length (told ++ more) ≡ length (turns j)
  pub sound : IsTrue ended → IsSound c j (length (turns j)) → told ++ more ≡ job_tells c j
  pub leaves : IsTrue ended → IsSound c j (length (turns j))
      → LeavesSilicon c (state_after c j (length (turns j))) z

-- The rest of a job's run, behind n turns of the definitions' run, told this, up to the tail of the
-- log or not so far: as far as the turns are sound, it is what the definitions say of these turns.
-- Where all are made and sound, it is all that they say, and the silicon has the attempts begun and
-- the words of the last state.
pub record IsRestOfJob (c : Config) (j : Job) (n : ℕ) (told : List Told) (ended : Bool) (z : Chip)
    : Type 0 where
  pub fronts : (m : ℕ) → m ≤ length told → IsSound c j (n + m)
      → take m told ≡ take m (drop n (job_tells c j))
  pub all : IsTrue ended → n + length told ≡ length (turns j)
  pub sound : IsTrue ended → IsSound c j (length (turns j)) → told ≡ drop n (job_tells c j)
  pub leaves : IsTrue ended → IsSound c j (length (turns j))
      → LeavesSilicon c (state_after c j (length (turns j))) z
