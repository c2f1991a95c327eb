-- Each core stands in one place: with a CPU, among the spares, or fenced. Source: choice of this
-- project.
use Rattle.std.specs.Prelude.{◌≡◌, ◌≢◌, ℕ, ◌<◌, true, false}
use Rattle.run_model.specs.declared.logs.Config.{Config}
use Rattle.run_model.specs.Cores.{Cores, is_lost, belongs}

-- No two CPUs that are not lost have one core, no core of theirs is a spare, and all of these are
-- the machine's. A core of the machine that is in neither of these places is fenced, by the
-- definition of that.
pub record Apart (c : Config) (s : Cores) : Type 0 where
  pub cores : (i j : ℕ) → i < c.cpus → j < c.cpus → i ≢ j
      → is_lost (s.mode i) ≡ false → is_lost (s.mode j) ≡ false → s.core i ≢ s.core j
  pub free : (i : ℕ) → i < c.cpus → is_lost (s.mode i) ≡ false → s.spare (s.core i) ≡ false
  pub own : (i : ℕ) → i < c.cpus → belongs c (s.core i) ≡ true
  pub spares : (k : ℕ) → s.spare k ≡ true → belongs c k ≡ true
