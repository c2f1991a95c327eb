-- What holds of every machine. Source: choice of this project.
use Rattle.std.specs.Prelude.{◌≡◌, ◌≤◌, ℕ, Bool, true, false, ◌&&◌, List, [], ◌∷◌}
use Rattle.run_model.specs.declared.logs.Config.{Config}
use Rattle.core_turns.specs.declared.held.Held.{Held}
use Rattle.core_turns.specs.declared.held.Held.TheVariants.{Running, Recovering, Lost, Taken}

-- a configuration within its limits, and as many CPUs as it says
pub record IsFitting (c : Config) (n : ℕ) : Type 0 where
  pub cpus : c.cpus ≡ n
  pub some : 1 ≤ c.cpus
  pub most : c.cpus ≤ 8
  pub spares : c.spares ≤ 8
  pub threshold : c.threshold ≤ 15

abbrev pub is_there : Held → Bool
is_there (Running k) = true
is_there (Recovering k) = true
is_there (Lost c retries) = true
is_there Taken = false

-- no CPU is in the midst of a turn
abbrev pub all_there : List Held → Bool
all_there [] = true
all_there (h ∷ hs) = is_there h && all_there hs
