-- What the first turns of a run make, tell and write, and what the rest of them.
-- Source: choice of this project.
use Rattle.std.specs.Prelude.{◌≡◌, ◌≤◌, ◌++◌, ℕ, Bool, true, false, IsTrue, List, [], ◌∷◌, length, take, Result, IfOk, OnOk}
use Rattle.g5_outside.specs.Views.{ShelfView, SinkView}
use Rattle.g5_writing.specs.Outputs.{Puts}
use Rattle.g5_writing.specs.declared.outputs.OutputFiles.{OutputFiles}
use Rattle.run_model.specs.declared.outputs.Counts.{Counts}
use Rattle.run_model.specs.declared.outputs.Place.TheVariants.{Log}
use Rattle.run_model.specs.declared.schedules.RunKind.{RunKind}
use Rattle.run_model.specs.Counts.{count_turns, counts}
use Rattle.run_model.specs.LogLines.{tail}
use Rattle.run_model.specs.Pieces.{Piece, piece}
use Rattle.run_model.specs.Runs.{Told}
use Rattle.run_model.specs.Texts.{front, turns_pieces}
use Rattle.run_loop.specs.Engines.{EngineView}
use Rattle.run_loop.specs.Making.{Tells}

-- ---- the first turns

-- The turns of these kinds, or those of them up to a fault of an output, were made, written behind
-- the head of the log, and counted. Without a fault all are made.
pub record MakesFirst {E : Type 0} (files : OutputFiles) (kinds : List RunKind)
    (old new : EngineView) (a b : ShelfView) (o p : SinkView) (result : Result Counts E) :
    Type 0 where
  pub made : ℕ
  pub most : made ≤ length kinds
  pub told : List Told
  pub tells : Tells (take made kinds) told old new
  pub all : OnOk result (made ≡ length kinds)
  pub puts : Puts files (front old.config told) a b o p result
  pub counted : IfOk result (λ n. n ≡ counts told)

-- ---- the rest

-- The pieces of turns that tell this, before which so much was counted: with the tail of the log,
-- or of turns that ended before it. The head is not among them.
abbrev pub rest_by : Bool → Counts → List Told → List Piece
rest_by true start told =
    turns_pieces start.commits told
    ++ piece Log (tail (count_turns start told).turns (count_turns start told).returned) ∷ []
rest_by false start told = turns_pieces start.commits told

-- The turns of these kinds, before which so much was counted, or those of them up to a fault of an
-- output, were made, written, and counted. Without a fault all are made, and the tail is written.
pub record MakesRest {E : Type 0} (files : OutputFiles) (start : Counts) (kinds : List RunKind)
    (old new : EngineView) (a b : ShelfView) (o p : SinkView) (result : Result Counts E) :
    Type 0 where
  pub made : ℕ
  pub most : made ≤ length kinds
  pub told : List Told
  pub tells : Tells (take made kinds) told old new
  pub ended : Bool
  pub all : IsTrue ended → made ≡ length kinds
  pub fine : OnOk result (ended ≡ true)
  pub puts : Puts files (rest_by ended start told) a b o p result
  pub counted : IfOk result (λ n. n ≡ count_turns start told)
