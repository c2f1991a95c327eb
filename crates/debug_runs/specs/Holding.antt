-- A session over a job, held by lines of commands, for every fault script.
-- Source: choice of this project.
use Rattle.std.specs.Prelude.{◌≡◌, ℕ, ◌≤◌, List, [], ◌++◌, length, min, take, Result, IfOk, OnOk}
use Rattle.g5_outside.specs.Views.{SinkView}
use Rattle.g5_writing.specs.Outputs.{SinkGrew}
use Rattle.machine_runs.specs.Jobs.{LeavesSilicon, run_hands}
use Rattle.machine_runs.specs.RunTells.{RunTells, turns}
use Rattle.program_model.specs.Accepted.{Job, first_machine}
use Rattle.program_model.specs.Session.{Said, first_session, session, session_from}
use Rattle.program_model.specs.Session.{Session as ModelSession}
use Rattle.run_model.specs.Counts.{counts}
use Rattle.run_model.specs.Fate.{Sound}
use Rattle.run_model.specs.Pieces.{Piece, text}
use Rattle.run_model.specs.Runs.{Told, first_model}
use Rattle.run_model.specs.Script.{lines}
use Rattle.run_model.specs.declared.logs.Config.{Config}
use Rattle.run_model.specs.declared.outputs.Counts.{Counts}
use Rattle.run_model.specs.declared.outputs.Place.TheVariants.{Out}
use Rattle.silicon.specs.Chip.{Chip}
use Rattle.silicon.specs.Tape.{Tape, tells as tells_tape}
use Rattle.silicon.specs.declared.handed.Handed.{Handed}
use Rattle.debug_runs.specs.CommandLines.{before_quit, turns_in}
use Rattle.debug_runs.specs.Conversing.{Writes}

-- ---- the definitions' session over a job

abbrev pub session_at_start : Config → Job → ModelSession
session_at_start c j = first_session c (first_machine c j) (turns j)

-- what it says to lines, and how it goes on
abbrev pub said_of_job : Config → Job → List (List ℕ) → Said
said_of_job c j asked = session_from j.strikes c (session_at_start c j) asked

abbrev pub IsSoundFor : Config → Job → List (List ℕ) → Type 0
IsSoundFor c j asked = Sound j.strikes (said_of_job c j asked).after.model.fate

-- the whole of it, by the bytes of the commands
abbrev pub session_of_job : Config → Job → List ℕ → Said
session_of_job c j commands = session j.strikes c (session_at_start c j) commands

-- what the turns that lines ask for hand in to the silicon
abbrev pub hands_for : Config → Job → List (List ℕ) → List Handed
hands_for c j asked = run_hands j.strikes c (first_model c (first_machine c j))
    (take (turns_in c.cpus asked) (turns j))

-- ---- lines that were carried out

-- The turns of the job that these lines ask for, or all that it has, told this. The answers are those
-- of the definitions' session up to each line to which the turns are sound; where all are sound the
-- silicon is left as the last state has it, and tells what the turns handed in.
pub record CarriesJob (c : Config) (j : Job) (asked : List (List ℕ)) (told : List Told)
    (answers : List Piece) (z : Chip) (v w : Tape) : Type 0 where
  pub tells : RunTells c j told
  pub made : length told ≡ min (turns_in c.cpus asked) (length (turns j))
  pub each : length answers ≡ length asked
  pub fronts : (n : ℕ) → n ≤ length asked → IsSoundFor c j (take n asked)
      → take n answers ≡ (said_of_job c j (take n asked)).pieces
  pub silicon : IsSoundFor c j asked → LeavesSilicon c (said_of_job c j asked).after.model z
  pub handed : IsSoundFor c j asked → w ≡ tells_tape v (hands_for c j asked)

-- The lines before the first `quit`, or those of them up to a fault of the output, were carried out,
-- and their answers were written. The turns that were made are counted.
pub record HoldsJob {E : Type 0} (c : Config) (j : Job) (commands : List ℕ) (z : Chip)
    (v w : Tape) (o p : SinkView) (result : Result Counts E) : Type 0 where
  pub asked : List (List ℕ)
  pub more : List (List ℕ)
  pub front : before_quit c.cpus (lines commands) ≡ asked ++ more
  pub all : OnOk result (more ≡ [])
  pub told : List Told
  pub answers : List Piece
  pub carries : CarriesJob c j asked told answers z v w
  pub counted : IfOk result (λ n. n ≡ counts told)
  pub written : Writes answers o p result
