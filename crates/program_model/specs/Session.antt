-- A debugger's session: each line before the first `quit` has its answer and a line feed on `out`.
-- Source: choice of this project.
use Rattle.std.specs.Prelude.{ℕ, List, [], ◌∷◌, ◌++◌, take, drop, Option, Some, None}
use Rattle.esa_model.specs.Machine.{Machine}
use Rattle.run_model.specs.declared.faults.Strike.{Strike}
use Rattle.run_model.specs.declared.logs.Config.{Config}
use Rattle.run_model.specs.declared.outputs.Counts.{Counts}
use Rattle.run_model.specs.declared.outputs.Place.TheVariants.{Out}
use Rattle.run_model.specs.declared.schedules.RunKind.{RunKind}
use Rattle.run_model.specs.Counts.{none_made, count_turns}
use Rattle.run_model.specs.Pieces.{Piece, piece}
use Rattle.run_model.specs.Runs.{Model, first_model, run_tells, run_after}
use Rattle.run_model.specs.Script.{lines}
use Rattle.program_model.specs.declared.questions.Question.{Question}
use Rattle.program_model.specs.declared.questions.Question.TheVariants.{Turns, Quit}
use Rattle.program_model.specs.Debugger.{question, answer, unknown}

-- the model, the turns of the schedule that are left, and the counts of those that were made
pub record Session : Type 0 where
  pub model : Model
  pub left : List RunKind
  pub made : Counts

abbrev pub first_session : Config → Machine → List RunKind → Session
first_session c m kinds = record { model = first_model c m; left = kinds; made = none_made }

-- the next turns, or those that are left
unfoldable pub with_turns : List Strike → Config → ℕ → Session → Session
with_turns ls c n s = record {
  model = run_after ls c s.model (take n s.left);
  left = drop n s.left;
  made = count_turns s.made (run_tells ls c s.model (take n s.left));
}

abbrev pub asked : List Strike → Config → Session → Question → Session
asked ls c s (Turns n) = with_turns ls c n s
asked ls c s other = s

-- what a session writes and how it goes on
pub record Said : Type 0 where
  pub pieces : List Piece
  pub after : Session

abbrev pub says : List ℕ → Said → Said
says text more = record { pieces = piece Out (text ++ 10 ∷ []) ∷ more.pieces; after = more.after }

abbrev pub answered : Session → Question → List ℕ
answered s q = answer s.model.machine s.model.fate.cores q

abbrev pub said_by :
    List Strike → Config → Session → Option Question → (Session → Said) → Said
said_by ls c s None more = says unknown (more s)
said_by ls c s (Some Quit) more = record { pieces = []; after = s }
said_by ls c s (Some q) more = let t = asked ls c s q in says (answered t q) (more t)

-- the lines of commands from here on
abbrev pub session_from : List Strike → Config → Session → List (List ℕ) → Said
session_from ls c s [] = record { pieces = []; after = s }
session_from ls c s (line ∷ more) =
    said_by ls c s (question c.cpus line) (λ t. session_from ls c t more)

-- a whole session, by the bytes of its commands
unfoldable pub session : List Strike → Config → Session → List ℕ → Said
session ls c s commands = session_from ls c s (lines commands)
