-- How a session is held, from its files and lines to its output: each status by its cause.
-- Source: choice of this project.
use Rattle.std.specs.Prelude.{◌≡◌, ◌↔◌, ℕ, List, IsTrue, Ok, Err, true}
use Rattle.debug_runs.specs.Consequences.{IsSoundSession, SaysCut, SaysWhole}
use Rattle.debug_runs.specs.Holding.{HoldsJob, IsSoundFor, session_of_job}
use Rattle.g5_outside.specs.Views.{ShelfView, SinkView, SourceView}
use Rattle.g5_outside.specs.declared.outside.Failed.{Failed}
use Rattle.program_model.specs.Accepted.{Job}
use Rattle.program_model.specs.Commands.{SessionNames}
use Rattle.program_model.specs.declared.status.Status.{Status}
use Rattle.program_model.specs.declared.status.Status.TheVariants.{WriteFault}
use Rattle.run_model.specs.Premise.{Within}
use Rattle.run_model.specs.declared.logs.Config.{Config}
use Rattle.silicon.specs.Chip.{Chip}
use Rattle.silicon.specs.Tape.{Tape}
use Rattle.debug_command.specs.Preparing.{IsGiven, IsRefused}
use Rattle.debug_command.specs.declared.holding.Held.{Held}

-- All lines before the first `quit` were carried out, as is said for every script. Where all turns
-- are sound, the output has the whole text of the definitions' session, and the silicon is left as
-- its last state has it. No file was created.
pub record HoldsSession (names : SessionNames) (c : Config) (a b : ShelfView) (k : SourceView)
    (o p : SinkView) (z : Chip) (v w : Tape) (held : Held) : Type 0 where
  pub job : Job
  pub lines : List ℕ
  pub given : IsGiven names c job lines a k
  pub premise : IsTrue held.within ↔ Within job.strikes
  pub session : HoldsJob {E = Failed} c job lines z v w o p (Ok held.counts)
  pub whole : IsSoundSession c job lines → SaysWhole c job lines z v w o p
  pub numbers : b.numbers ≡ a.numbers
  pub found : b.found ≡ true

-- The output failed in the midst of an answer: where the turns that were made are sound, it has the
-- text of the definitions' session up to there.
pub record CutsSession (names : SessionNames) (c : Config) (a b : ShelfView) (k : SourceView)
    (o p : SinkView) : Type 0 where
  pub job : Job
  pub lines : List ℕ
  pub given : IsGiven names c job lines a k
  pub failed : Failed
  pub chip : Chip
  pub before : Tape
  pub after : Tape
  pub session : HoldsJob c job lines chip before after o p (Err failed)
  pub cut : IsSoundFor c job session.asked → SaysCut (session_of_job c job lines) o p
  pub numbers : b.numbers ≡ a.numbers
  pub found : b.found ≡ true

-- nothing was begun
pub record BeginsNone (names : SessionNames) (c : Config) (a b : ShelfView) (k l : SourceView)
    (o p : SinkView) (status : Status) : Type 0 where
  pub because : IsRefused names c a b k l status
  pub numbers : b.numbers ≡ a.numbers
  pub out : p ≡ o

abbrev pub FailsToHold : SessionNames → Config → ShelfView → ShelfView → SourceView → SourceView
    → SinkView → SinkView → Status → Type 0
FailsToHold names c a b k l o p WriteFault = CutsSession names c a b k o p
FailsToHold names c a b k l o p status = BeginsNone names c a b k l o p status
