-- What follows of a session over a job that was held by lines of commands.
-- Source: choice of this project.
use Rattle.std.specs.Prelude.{◌≡◌, ◌≤◌, ℕ, All, List, length, take}
use Rattle.g5_debugger.specs.Sessions.{HasBegun, IsUnused}
use Rattle.g5_outside.specs.Causes.{Rose}
use Rattle.g5_outside.specs.Views.{SinkView}
use Rattle.g5_writing.specs.Outputs.{SinkGrew}
use Rattle.machine_runs.specs.Jobs.{LeavesSilicon}
use Rattle.machine_runs.specs.declared.ready.Ready.{Ready}
use Rattle.program_model.specs.Accepted.{Job}
use Rattle.program_model.specs.Session.{Said}
use Rattle.run_loop.specs.Fronts.{Begins}
use Rattle.run_model.specs.Fate.{Sound}
use Rattle.run_model.specs.Pieces.{IsCut, Piece, text}
use Rattle.run_model.specs.Schedule.{Fits, turns_of}
use Rattle.run_model.specs.Script.{lines}
use Rattle.run_model.specs.declared.logs.Config.{Config}
use Rattle.run_model.specs.declared.outputs.Place.TheVariants.{Out}
use Rattle.silicon.specs.Chip.{Chip}
use Rattle.silicon.specs.Tape.{Tape, tells as tells_tape}
use Rattle.debug_runs.specs.CommandLines.{before_quit}
use Rattle.debug_runs.specs.Holding.{hands_for, session_of_job}

-- all turns of the definitions' session are sound
abbrev pub IsSoundSession : Config → Job → List ℕ → Type 0
IsSoundSession c j commands = Sound j.strikes (session_of_job c j commands).after.model.fate

-- The output has the whole text of the definitions' session. The silicon is left as its last state has
-- it, and tells what its turns handed in.
pub record SaysWhole (c : Config) (j : Job) (commands : List ℕ) (z : Chip) (v w : Tape)
    (o p : SinkView) : Type 0 where
  pub grew : SinkGrew (text Out (session_of_job c j commands).pieces) o p
  pub silicon : LeavesSilicon c (session_of_job c j commands).after.model z
  pub handed : w ≡ tells_tape v (hands_for c j (before_quit c.cpus (lines commands)))

-- the output has this text up to a place in one of its lines, and there its count of faults rose
pub record SaysCut (said : Said) (o p : SinkView) : Type 0 where
  pub held : List Piece
  pub grew : SinkGrew (text Out held) o p
  pub cut : IsCut held said.pieces
  pub cause : Rose o.faults p.faults

-- what the output has more begins with this text
pub record SaysFirst (said : Said) (o p : SinkView) : Type 0 where
  pub more : List ℕ
  pub grew : SinkGrew more o p
  pub begins : Begins more (text Out said.pieces)

-- a session over this job can be held
pub record CanBeHeld (r : Ready) (z : Chip) : Type 0 where
  pub unused : IsUnused r.machine
  pub fits : All (λ run. Fits r.machine.machine.config.cpus run.what) r.schedule
  pub few : turns_of r.schedule ≤ 1000000
  pub begun : HasBegun 0 z
