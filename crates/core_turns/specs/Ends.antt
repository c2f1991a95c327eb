-- How turns end. Source: choice of this project.
use Rattle.std.specs.Prelude.{◌≡◌, ℕ, []}
use Rattle.esa_model.specs.Bus.{check_stopped}
use Rattle.esa_model.specs.Clocks.{advanced_clock}
use Rattle.esa_model.specs.Line.{Side}
use Rattle.core_turns.specs.declared.held.Held.{Held}
use Rattle.core_turns.specs.Made.{Made}
use Rattle.core_turns.specs.declared.outcomes.Outcome.{Outcome}

-- what stands beside the storage after an event that is no commit
abbrev pub idle_side : Side → Side
idle_side side = record side { clock = advanced_clock side.clock }

abbrev pub stopped_side : ℕ → Side → Side
stopped_side i side =
    record side { bus = check_stopped i side.bus; clock = advanced_clock side.clock }

-- a turn ends so without a commit
pub record Quits (held : Held) (came : Outcome) (t : Made) : Type 0 where
  pub holds : t.held ≡ held
  pub outcome : t.outcome ≡ came
  pub psw : t.psw ≡ record { w0 = 0; w1 = 0 }
  pub changed : t.written.changed.items ≡ []
  pub console : t.written.console.items ≡ []
