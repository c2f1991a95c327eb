-- A session that is held by lines of commands, for every fault script.
-- Source: choice of this project.
use Rattle.std.specs.Prelude.{◌≡◌, ℕ, ◌≤◌, List, [], ◌∷◌, ◌++◌, length, take, drop, Result, OnOk, OnErr}
use Rattle.g5_debugger.specs.Sessions.{IsSession, left_of}
use Rattle.g5_debugger.specs.declared.session.Session.{Session}
use Rattle.g5_outside.specs.Causes.{Rose}
use Rattle.g5_outside.specs.Views.{SinkView}
use Rattle.g5_writing.specs.Outputs.{SinkGrew}
use Rattle.program_model.specs.Session.{Said, session_from}
use Rattle.program_model.specs.Session.{Session as ModelSession}
use Rattle.run_loop.specs.Engines.{EngineView}
use Rattle.run_loop.specs.Making.{Tells}
use Rattle.run_model.specs.Counts.{count_turns}
use Rattle.run_model.specs.Fate.{Sound}
use Rattle.run_model.specs.Pieces.{Piece, piece, text}
use Rattle.run_model.specs.Runs.{Told}
use Rattle.run_model.specs.Script.{lines}
use Rattle.run_model.specs.declared.outputs.Place.TheVariants.{Out}
use Rattle.debug_runs.specs.CommandLines.{before_quit, turns_in}

-- ---- the definitions' session

-- what it says to lines, and how it goes on
abbrev pub said_to : EngineView → ModelSession → List (List ℕ) → Said
said_to v d asked = session_from v.lines v.config d asked

-- the turns that lines make are sound
abbrev pub IsSoundTo : EngineView → ModelSession → List (List ℕ) → Type 0
IsSoundTo v d asked = Sound v.lines (said_to v d asked).after.model.fate

-- ---- lines that are carried out

-- The next n turns of the schedule, or those that are left, were made and counted on, each as the
-- table of turns has it and as far as they are sound as the definitions have it.
pub record MakesTurns (n : ℕ) (old new : Session) (before after : EngineView) : Type 0 where
  pub told : List Told
  pub tells : Tells (take n (left_of old)) told before after
  pub left : left_of new ≡ drop n (left_of old)
  pub counted : new.reached.made ≡ count_turns old.reached.made told

-- These lines made the turns that they ask for, and each has one answer. Up to any line to which the
-- turns are sound the answers are those of the definitions' session, and where all are sound the
-- session stands for that one after them.
pub record Carries (asked : List (List ℕ)) (old new : Session) (before after : EngineView)
    (answers : List Piece) : Type 0 where
  pub turns : MakesTurns (turns_in before.config.cpus asked) old new before after
  pub each : length answers ≡ length asked
  pub fronts : (d : ModelSession) → IsSession old before d → (n : ℕ) → n ≤ length asked
      → IsSoundTo before d (take n asked)
      → take n answers ≡ (said_to before d (take n asked)).pieces
  pub stands : (d : ModelSession) → IsSession old before d → IsSoundTo before d asked
      → IsSession new after (said_to before d asked).after

-- ---- their answers on the output

-- some whole pieces, then a front of the last, perhaps nothing
pub record IsLastCut (held whole : List Piece) : Type 0 where
  pub before : List Piece
  pub bytes : List ℕ
  pub count : ℕ
  pub whole_is : whole ≡ before ++ piece Out bytes ∷ []
  pub held_is : held ≡ before ++ piece Out (take count bytes) ∷ []

-- all of the pieces were written at Ok, and at Err all but a part of the last; there the count of
-- faults rose
pub record Writes {T E : Type 0} (whole : List Piece) (o p : SinkView) (result : Result T E) :
    Type 0 where
  pub held : List Piece
  pub grew : SinkGrew (text Out held) o p
  pub all : OnOk result (held ≡ whole)
  pub cut : OnErr result (IsLastCut held whole)
  pub cause : OnErr result (Rose o.faults p.faults)

-- The lines before the first `quit`, or those of them up to a fault of the output, were carried out,
-- and their answers were written.
pub record Converses {T E : Type 0} (commands : List ℕ) (old new : Session)
    (before after : EngineView) (o p : SinkView) (result : Result T E) : Type 0 where
  pub asked : List (List ℕ)
  pub more : List (List ℕ)
  pub front : before_quit before.config.cpus (lines commands) ≡ asked ++ more
  pub all : OnOk result (more ≡ [])
  pub answers : List Piece
  pub carries : Carries asked old new before after answers
  pub written : Writes answers o p result
