-- The first turns of a run and the rest of it, behind one another. Source: choice of this project.
use Rattle.std.specs.Prelude.{◌≡◌, ◌≤◌, ℕ, List, length, take}
use Rattle.run_model.specs.declared.schedules.RunKind.{RunKind}
use Rattle.run_model.specs.Cores.{Cores}
use Rattle.run_model.specs.Runs.{Model, Told, entries}
use Rattle.run_loop.specs.Engines.{EngineView, FailsAsStruck, Kept}
use Rattle.run_loop.specs.Making.{ByMode, SoundAfter, state_by, tells_by}

-- What is owed by an engine that is stood up again for another: script and configuration are the
-- same, and it stands for all that the other stands for. It may have new silicon, which tells
-- nothing of what was handed in before.
pub record Resumes (old new : EngineView) : Type 0 where
  pub kept : Kept old new
  pub by_mode : (s : Cores) → old.stands_by_mode s → new.stands_by_mode s
  pub stands : (x : Model) → old.stands x → new.stands x

-- Turns of these kinds told this, from the one engine on, up to where the other one stands. It is
-- what is said of turns that one engine makes (`Tells`), but for what was handed in to one silicon.
pub record TellsJoined (kinds : List RunKind) (told : List Told) (old new : EngineView) : Type 0 where
  pub each : length told ≡ length kinds
  pub kept : Kept old new
  pub struck : FailsAsStruck old.lines (entries told)
  pub by_mode : (s : Cores) → old.stands_by_mode s → ByMode s kinds told old new
  pub fronts : (x : Model) → old.stands x → (j : ℕ) → j ≤ length kinds
      → SoundAfter old x (take j kinds) → take j told ≡ tells_by old x (take j kinds)
  pub stands : (x : Model) → old.stands x → SoundAfter old x kinds
      → new.stands (state_by old x kinds)

-- and where all of them are sound: they told what the definitions say, and what the definitions
-- say of the state after them holds
pub record IsOneRun (x : Model) (kinds : List RunKind) (told : List Told) (old new : EngineView)
    : Type 0 where
  pub says : told ≡ tells_by old x kinds
  pub stands : new.stands (state_by old x kinds)
