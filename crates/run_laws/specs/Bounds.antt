-- The bound on wrong positions, of the CPUs that are not lost. Source: choice of this project.
use Rattle.std.specs.Prelude.{◌≡◌, ◌≢◌, ℕ, ◌<◌, false, List}
use Rattle.run_model.specs.declared.faults.Strike.{Strike}
use Rattle.run_model.specs.declared.logs.Config.{Config}
use Rattle.run_model.specs.Cores.{Cores, Did, is_lost}
use Rattle.run_model.specs.Fate.{Fate}
use Rattle.run_model.specs.Reading.{BoundAt}

-- the core of each CPU that is not lost is within the bound
abbrev pub BoundedCpus : List Strike → Config → Fate → Type 0
BoundedCpus ls c s = (i : ℕ) → i < c.cpus → is_lost (s.cores.mode i) ≡ false
    → BoundAt ls (s.cores.core i) (s.begun (s.cores.core i)) (s.wrong (s.cores.core i))

-- a turn of CPU i leaves the others
pub record Others (s : Cores) (i : ℕ) (d : Did) : Type 0 where
  pub core : (j : ℕ) → j ≢ i → d.after.core j ≡ s.core j
  pub mode : (j : ℕ) → j ≢ i → d.after.mode j ≡ s.mode j
  pub retries : (j : ℕ) → j ≢ i → d.after.retries j ≡ s.retries j
