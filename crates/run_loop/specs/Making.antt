-- What turns that were made tell and write, for every fault script. Source: choice of this project.
use Rattle.std.specs.Prelude.{◌≡◌, ℕ, ◌+◌, ◌≤◌, List, [], ◌∷◌, ◌++◌, length, take, map, Result, IfOk, OnOk}
use Rattle.g5_outside.specs.Views.{ShelfView, SinkView}
use Rattle.g5_writing.specs.Outputs.{Puts}
use Rattle.g5_writing.specs.declared.outputs.OutputFiles.{OutputFiles}
use Rattle.run_model.specs.declared.outputs.Counts.{Counts}
use Rattle.run_model.specs.declared.schedules.RunKind.{RunKind}
use Rattle.run_model.specs.Cores.{Cores, Choice, outlines, cores_after}
use Rattle.run_model.specs.Counts.{count_turn, count_turns, none_made}
use Rattle.run_model.specs.Fate.{Sound}
use Rattle.run_model.specs.Runs.{Model, Told, entries, run_tells, run_after, turned, outline_of}
use Rattle.run_model.specs.Texts.{turn_pieces, turns_pieces}
use Rattle.silicon.specs.Tape.{tells as tells_tape}
use Rattle.silicon.specs.declared.handed.Handed.{Handed}
use Rattle.run_loop.specs.Engines.{EngineView, FailsAsStruck, Kept, Obeys, Follows, SoundTurn}

-- what was told is what these cores make of what the turns met
pub record ByMode (s : Cores) (kinds : List RunKind) (told : List Told) (old new : EngineView) : Type 0 where
  pub choices : List Choice
  pub kinds_are : map (λ (x : Choice). x.kind) choices ≡ kinds
  pub outlines_are : map outline_of told ≡ outlines old.config s choices
  pub stands : new.stands_by_mode (cores_after old.config s choices)

-- the definition's run of these turns is sound
abbrev pub SoundAfter : EngineView → Model → List RunKind → Type 0
SoundAfter v x kinds = Sound v.lines (run_after v.lines v.config x kinds).fate

abbrev pub tells_by : EngineView → Model → List RunKind → List Told
tells_by v x kinds = run_tells v.lines v.config x kinds

abbrev pub state_by : EngineView → Model → List RunKind → Model
state_by v x kinds = run_after v.lines v.config x kinds

-- what the turns of the definition's run hand in to the silicon, in their order
abbrev pub hands_by : EngineView → Model → List RunKind → List Handed
hands_by v x [] = []
hands_by v x (k ∷ ks) = v.hands x k ++ hands_by v (turned v.lines v.config x k) ks

-- Turns of these kinds told this. As far as they are sound, each told what the definition says; and
-- where all are sound, they handed in what it says.
pub record Tells (kinds : List RunKind) (told : List Told) (old new : EngineView) : Type 0 where
  pub each : length told ≡ length kinds
  pub turns : new.turns ≡ old.turns + length kinds
  pub kept : Kept old new
  pub struck : FailsAsStruck old.lines (entries told)
  pub by_mode : (s : Cores) → old.stands_by_mode s → ByMode s kinds told old new
  pub fronts : (x : Model) → old.stands x → (j : ℕ) → j ≤ length kinds
      → SoundAfter old x (take j kinds) → take j told ≡ tells_by old x (take j kinds)
  pub handed : (x : Model) → old.stands x → SoundAfter old x kinds
      → new.tape ≡ tells_tape old.tape (hands_by old x kinds)
  pub stands : (x : Model) → old.stands x → SoundAfter old x kinds
      → new.stands (state_by old x kinds)

-- one turn, before which so much was made, was made, written and counted
pub record MakesTurn {E : Type 0} (files : OutputFiles) (kind : RunKind) (before : Counts)
    (old new : EngineView) (a b : ShelfView) (o p : SinkView) (result : Result Counts E) : Type 0 where
  pub told : Told
  pub turns : new.turns ≡ old.turns + 1
  pub kept : Kept old new
  pub struck : FailsAsStruck old.lines told.entries
  pub obeys : (s : Cores) → old.stands_by_mode s → Obeys s kind old new told
  pub follows : (x : Model) → old.stands x → SoundTurn old x kind → Follows x kind old new told
  pub written : Puts files (turn_pieces before.commits told) a b o p result
  pub counted : IfOk result (λ n. n ≡ count_turn before told)

-- The turns of this schedule, before which so much was made, or those of them up to a fault of an
-- output, were made, written and counted.
pub record MakesFrom {E : Type 0} (files : OutputFiles) (start : Counts) (kinds : List RunKind)
    (old new : EngineView) (a b : ShelfView) (o p : SinkView) (result : Result Counts E) : Type 0 where
  pub made : ℕ
  pub most : made ≤ length kinds
  pub all : OnOk result (made ≡ length kinds)
  pub told : List Told
  pub tells : Tells (take made kinds) told old new
  pub written : Puts files (turns_pieces start.commits told) a b o p result
  pub counted : IfOk result (λ n. n ≡ count_turns start told)

-- the same of a whole run's turns
abbrev pub Makes : {E : Type 0} → OutputFiles → List RunKind → EngineView → EngineView
    → ShelfView → ShelfView → SinkView → SinkView → Result Counts E → Type 0
Makes files kinds old new a b o p result = MakesFrom files none_made kinds old new a b o p result
