-- Where the attempts of each core stand in a script. Source: choice of this project.
use Rattle.std.specs.Prelude.{ℕ, ◌+◌, ◌<◌, length, slice_index_or}
use Rattle.fault_script.specs.Walk.{IsAt}
use Rattle.fault_script.specs.declared.core_walks.CoreWalk.{CoreWalk}
use Rattle.fault_script.specs.declared.walking.Walk.{Walk}

-- so many attempts of this core were begun
pub record IsOn (walk : Walk) (core begun : ℕ) : Type 0 where
  pub here : core < length walk.cores.items
  pub at : (d : CoreWalk) → IsAt walk.ordered core begun (slice_index_or walk.cores.items core d)

-- some attempt of it was begun
abbrev pub IsBegun : Walk → ℕ → Type 0
IsBegun walk core = (last : ℕ) × IsOn walk core (last + 1)
