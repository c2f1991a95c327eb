-- What a whole run makes, tells and writes. Source: choice of this project.
use Rattle.std.specs.Prelude.{◌≡◌, ℕ, ◌<◌, ◌≤◌, Bool, true, false, IsTrue, List, length, take, Result, IfOk, OnOk}
use Rattle.g5_outside.specs.Views.{ShelfView, SinkView}
use Rattle.g5_writing.specs.Outputs.{Puts}
use Rattle.g5_writing.specs.declared.outputs.OutputFiles.{OutputFiles}
use Rattle.run_model.specs.declared.logs.Config.{Config}
use Rattle.run_model.specs.declared.outputs.Counts.{Counts}
use Rattle.run_model.specs.declared.schedules.RunKind.{RunKind}
use Rattle.run_model.specs.Cores.{first_cores}
use Rattle.run_model.specs.Counts.{counts}
use Rattle.run_model.specs.Pieces.{Piece}
use Rattle.run_model.specs.Runs.{Told}
use Rattle.run_model.specs.Texts.{front, whole}
use Rattle.silicon.specs.Chip.{Chip}
use Rattle.twin_units.specs.UnitsSeen.{plain}
use Rattle.g5_machine.specs.Standing.{StandsByMode}
use Rattle.run_loop.specs.Engines.{EngineView}
use Rattle.run_loop.specs.Making.{Tells}
use Rattle.machine_runs.specs.declared.twin_machine.TwinMachine.{TwinMachine}

-- a machine that made no turn, two units that made no call, and silicon that began no attempt
pub record AtStart (e : TwinMachine) (z : Chip) : Type 0 where
  pub machine : StandsByMode e.machine (first_cores e.machine.config)
  pub calls_a : (plain e.a).calls ≡ 0
  pub calls_b : (plain e.b).calls ≡ 0
  pub begun : (c : ℕ) → c < 16 → z.begun c ≡ 0

-- the pieces of a run whose turns tell this: of one that came to the tail of its log, or of one
-- that ended before it
abbrev pub pieces_by : Bool → Config → List Told → List Piece
pieces_by true c told = whole c told
pieces_by false c told = front c told

-- The turns of these kinds, or those of them up to a fault of an output, were made, written between
-- head and tail, and counted. Without a fault all are made, and the texts are whole.
pub record MakesWhole {E : Type 0} (files : OutputFiles) (kinds : List RunKind)
    (old new : EngineView) (a b : ShelfView) (o p : SinkView) (result : Result Counts E) :
    Type 0 where
  pub made : ℕ
  pub most : made ≤ length kinds
  pub told : List Told
  pub tells : Tells (take made kinds) told old new
  pub ended : Bool
  pub all : IsTrue ended → made ≡ length kinds
  pub fine : OnOk result (ended ≡ true)
  pub puts : Puts files (pieces_by ended old.config told) a b o p result
  pub counted : IfOk result (λ n. n ≡ counts told)
