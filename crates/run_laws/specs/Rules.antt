-- The rules that every run keeps, whatever its turns meet. Source: choice of this project.
use Rattle.std.specs.Prelude.{◌≡◌, ◌≤◌, ◌+◌, ◌++◌, ℕ, List, [], ◌∷◌, true, length, map}
use Rattle.std.specs.List.{list_any}
use Rattle.run_model.specs.declared.logs.Config.{Config}
use Rattle.run_model.specs.declared.schedules.RunKind.{RunKind}
use Rattle.run_model.specs.Cores.{Choice}
use Rattle.run_model.specs.Counts.{counts}
use Rattle.run_model.specs.Lawful.{Lawful}
use Rattle.run_model.specs.Runs.{Told, entries, outline_of}
use Rattle.run_model.specs.Since.{pushed, since}
use Rattle.run_model.specs.Sorts.{is_fail, is_no_spare, is_retry, of_core, of_cpu}
use Rattle.run_laws.specs.Runs.{Tells, ValidTurns}

-- turns of these kinds tell the entries and events of the table of turns, by something they met
pub record ByTable (c : Config) (kinds : List RunKind) (told : List Told) : Type 0 where
  pub choices : List Choice
  pub kinds_are : map (λ (x : Choice). x.kind) choices ≡ kinds
  pub valid : ValidTurns c choices
  pub tells : Tells c choices told

-- The log is lawful: a check-stop comes after an uncorrectable word of its turn, or where no spare
-- is left. At every point a CPU has at most as many retries since its last commit or transfer as
-- the threshold; and where no spare is left, its core has failed once more than that.
pub record KeepsRules (c : Config) (told : List Told) : Type 0 where
  pub lawful : Lawful c (length told) (counts told).returned (entries told)
  pub retries : (before after : List Told) (i : ℕ) → told ≡ before ++ after
      → since i (of_cpu i is_retry) (pushed (map outline_of before) []) ≤ c.threshold
  pub no_spare : (before : List Told) (t : Told) (after : List Told) (i k : ℕ)
      → told ≡ before ++ t ∷ after → list_any (of_core i k is_no_spare) t.entries ≡ true
      → since i (of_core i k is_fail) (pushed (map outline_of before) []) ≡ c.threshold + 1
