-- What the turns of a run tell, for every fault script, and where they are sound.
-- Source: choice of this project.
use Rattle.std.specs.Prelude.{◌≡◌, ◌≤◌, ℕ, List, length, take}
use Rattle.program_model.specs.Accepted.{Job, first_machine, job_tells}
use Rattle.run_laws.specs.Rules.{ByTable, KeepsRules}
use Rattle.run_loop.specs.Engines.{FailsAsStruck}
use Rattle.run_model.specs.declared.logs.Config.{Config}
use Rattle.run_model.specs.declared.schedules.RunKind.{RunKind}
use Rattle.run_model.specs.Fate.{Sound}
use Rattle.run_model.specs.Runs.{Model, Told, entries, first_model, run_after}
use Rattle.run_model.specs.Schedule.{kinds_of}

-- the turns of a job's schedule
abbrev pub turns : Job → List RunKind
turns j = kinds_of j.runs

-- the state after the first n of them
abbrev pub state_after : Config → Job → ℕ → Model
state_after c j n = run_after j.strikes c (first_model c (first_machine c j)) (take n (turns j))

-- the premise holds at every attempt that they begin
abbrev pub IsSound : Config → Job → ℕ → Type 0
IsSound c j n = Sound j.strikes (state_after c j n).fate

-- The first turns of a job told this: by the table of turns, so by the rules; no failure without its
-- strike; and what the definitions say, up to the first turn that is not sound.
pub record RunTells (c : Config) (j : Job) (told : List Told) : Type 0 where
  pub most : length told ≤ length (turns j)
  pub table : ByTable c (take (length told) (turns j)) told
  pub rules : KeepsRules c told
  pub causes : FailsAsStruck j.strikes (entries told)
  pub sound : (n : ℕ) → n ≤ length told → IsSound c j n → take n told ≡ take n (job_tells c j)
