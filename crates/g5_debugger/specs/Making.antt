-- Turns that a session makes, for every fault script. Source: choice of this project.
use Rattle.std.specs.Prelude.{◌≡◌, ℕ, ◌+◌, ◌*◌, List, [], ◌∷◌, length, take, drop}
use Rattle.run_loop.specs.Bounds.{Below}
use Rattle.run_loop.specs.Engines.{EngineView}
use Rattle.run_loop.specs.Making.{Tells}
use Rattle.run_model.specs.Counts.{count_turn, count_turns}
use Rattle.run_model.specs.Runs.{Told}
use Rattle.run_model.specs.declared.outputs.Counts.{Counts}
use Rattle.run_model.specs.declared.schedules.Run.{Run}
use Rattle.run_model.specs.declared.schedules.RunKind.{RunKind}
use Rattle.g5_debugger.specs.Left.{left}
use Rattle.g5_debugger.specs.declared.making.Reached.{Reached}

-- a turn of this kind was made after those of some counts, and is counted in others
pub record MakesOne (kind : RunKind) (before after : Counts) (old new : EngineView) : Type 0 where
  pub told : Told
  pub tells : Tells (kind ∷ []) (told ∷ []) old new
  pub counted : after ≡ count_turn before told
  pub small : (most : ℕ) → Below most before → Below (most + 45) after
  pub ready : new.ready

-- The next n turns that are left, or all of them, were made, and this place was reached. Each turn
-- raises a count by at most 45.
pub record MakesNext (n : ℕ) (runs : List Run) (start end : Reached) (old new : EngineView) :
    Type 0 where
  pub told : List Told
  pub tells : Tells (take n (left runs start.place)) told old new
  pub behind : left runs end.place ≡ drop n (left runs start.place)
  pub counted : end.made ≡ count_turns start.made told
  pub small : (most : ℕ) → Below most start.made → Below (most + 45 * length told) end.made
  pub ready : new.ready
