-- What the clause of a session over a job says to a reader.
use Rattle.std.proofs.Common.{◌≡◌, ℕ, ◌≤◌, List, [], ◌∷◌, ◌++◌, length, take, drop, refl, sym, ap, ◌∙◌, subst, arith, append-nil, Result, Ok, Err}
use Rattle.std.specs.Prelude.{All}
use Rattle.std.proofs.lemmas.List.{take-append-drop, take_all}
use Rattle.g5_outside.specs.Views.{SinkView}
use Rattle.g5_writing.specs.Outputs.{SinkGrew}
use Rattle.g5_writing.proofs.Putting.{text-append}
use Rattle.machine_runs.specs.Jobs.{IsReadyJob, LeavesSilicon}
use Rattle.machine_runs.specs.declared.ready.Ready.{Ready}
use Rattle.program_model.specs.Accepted.{Job}
use Rattle.program_model.specs.Session.{Said, Session, session, session_from, with_turns}
use Rattle.run_model.specs.Fate.{Sound}
use Rattle.run_model.specs.Pieces.{IsCut, Piece, text}
use Rattle.run_model.specs.Schedule.{Fits, turns_of}
use Rattle.run_model.specs.Script.{lines}
use Rattle.run_model.specs.declared.faults.Strike.{Strike}
use Rattle.run_model.specs.declared.logs.Config.{Config}
use Rattle.run_model.specs.declared.outputs.Counts.{Counts}
use Rattle.run_model.specs.declared.outputs.Place.TheVariants.{Out}
use Rattle.run_model.specs.declared.schedules.Run.{Run}
use Rattle.silicon.specs.Chip.{Chip}
use Rattle.silicon.specs.Tape.{Tape, tells as tells_tape}
use Rattle.debug_runs.specs.CommandLines.{before_quit, turns_in}
use Rattle.debug_runs.specs.Consequences.{CanBeHeld, IsSoundSession, SaysCut, SaysFirst, SaysWhole}
use Rattle.debug_runs.specs.Holding.{CarriesJob, HoldsJob, IsSoundFor, hands_for, said_of_job, session_at_start, session_of_job}
use Rattle.debug_runs.proofs.Putting.{cut_of_more}
use Rattle.debug_runs.proofs.Quits.{none_before, none_front, said_before}
use Rattle.debug_runs.proofs.Sayings.{NoQuit, after_turns, said_append}

-- ---- a whole session is what is said to the lines before the first `quit`

session_is : (ls : List Strike) (c : Config) (d : Session) (commands : List ℕ)
    → session_from ls c d (before_quit c.cpus (lines commands)) ≡ session ls c d commands
unfolding session
session_is ls c d commands = said_before ls c d (lines commands)

pub session_turns : (ls : List Strike) (c : Config) (d : Session) (commands : List ℕ)
    → (session ls c d commands).after
    ≡ with_turns ls c (turns_in c.cpus (before_quit c.cpus (lines commands))) d
session_turns ls c d commands =
    let asked : List (List ℕ) = before_quit c.cpus (lines commands) in
    ap (λ (s : Said). s.after) (sym (session_is ls c d commands))
    ∙ after_turns ls c d asked (none_before c.cpus (lines commands))

all_answers : (c : Config) (j : Job) (asked : List (List ℕ)) (answers : List Piece)
    → length answers ≡ length asked
    → ((n : ℕ) → n ≤ length asked → IsSoundFor c j (take n asked)
    → take n answers ≡ (said_of_job c j (take n asked)).pieces)
    → IsSoundFor c j asked → answers ≡ (said_of_job c j asked).pieces
all_answers c j asked answers each fronts sound =
    let n : ℕ = length asked in
    let all : take n asked ≡ asked = take_all n asked (omega arith) in
    let whole : take n answers ≡ answers = take_all n answers (omega (arith, each)) in
    sym whole
    ∙ fronts n (omega arith) (subst (λ xs. IsSoundFor c j xs) (sym all) sound)
    ∙ ap (λ xs. (said_of_job c j xs).pieces) all

-- ---- without a fault of the output

-- the lines that were carried out are all of them
asked_all : {E : Type 0} (c : Config) (j : Job) (commands : List ℕ) (z : Chip) (v w : Tape)
    (o p : SinkView) (made : Counts) → (m : HoldsJob {E = E} c j commands z v w o p (Ok made))
    → m.asked ≡ before_quit c.cpus (lines commands)
asked_all c j commands z v w o p r m =
    sym (m.front ∙ ap (λ xs. m.asked ++ xs) m.all ∙ append-nil m.asked)

pub whole_said : {E : Type 0} (c : Config) (j : Job) (commands : List ℕ) (z : Chip) (v w : Tape)
    (o p : SinkView) (made : Counts) → HoldsJob {E = E} c j commands z v w o p (Ok made)
    → IsSoundSession c j commands → SaysWhole c j commands z v w o p
whole_said c j commands z v w o p r m sound =
    let all : m.asked ≡ before_quit c.cpus (lines commands) =
    asked_all c j commands z v w o p r m in
    let same : said_of_job c j m.asked ≡ session_of_job c j commands =
    ap (λ xs. said_of_job c j xs) all
    ∙ session_is j.strikes c (session_at_start c j) commands in
    let sounds : IsSoundFor c j m.asked =
    subst (λ (s : Said). Sound j.strikes s.after.model.fate) (sym same) sound in
    let answers : m.written.held ≡ (session_of_job c j commands).pieces =
    m.written.all
    ∙ all_answers c j m.asked m.answers m.carries.each m.carries.fronts sounds
    ∙ ap (λ (s : Said). s.pieces) same in
    record {
      grew = subst (λ xs. SinkGrew (text Out xs) o p) answers m.written.grew;
      silicon = subst (λ (s : Said). LeavesSilicon c s.after.model z) same
          (m.carries.silicon sounds);
      handed = m.carries.handed sounds ∙ ap (λ xs. tells_tape v (hands_for c j xs)) all;
    }

pub first_said : {E : Type 0} (c : Config) (j : Job) (commands : List ℕ) (z : Chip) (v w : Tape)
    (o p : SinkView) (made : Counts) (n : ℕ) → HoldsJob {E = E} c j commands z v w o p (Ok made)
    → n ≤ length (before_quit c.cpus (lines commands))
    → IsSoundFor c j (take n (before_quit c.cpus (lines commands)))
    → SaysFirst (said_of_job c j (take n (before_quit c.cpus (lines commands)))) o p
first_said c j commands z v w o p r n m le sound =
    let asked : List (List ℕ) = before_quit c.cpus (lines commands) in
    let all : m.asked ≡ asked = asked_all c j commands z v w o p r m in
    let few : n ≤ length m.asked =
    subst (λ (xs : List (List ℕ)). n ≤ length xs) (sym all) le in
    let sounds : IsSoundFor c j (take n m.asked) =
    subst (λ xs. IsSoundFor c j (take n xs)) (sym all) sound in
    let front : take n m.answers ≡ (said_of_job c j (take n asked)).pieces =
    m.carries.fronts n few sounds ∙ ap (λ xs. (said_of_job c j (take n xs)).pieces) all in
    let parts : m.written.held
    ≡ (said_of_job c j (take n asked)).pieces ++ drop n m.answers =
    m.written.all ∙ sym (take-append-drop n m.answers)
    ∙ ap (λ xs. xs ++ drop n m.answers) front in
    record {
      more = text Out m.written.held;
      grew = m.written.grew;
      begins = record {
        more = text Out (drop n m.answers);
        is = ap (text Out) parts
            ∙ text-append Out (said_of_job c j (take n asked)).pieces (drop n m.answers);
      };
    }

-- ---- at a fault of the output

pub cut_said : {E : Type 0} (c : Config) (j : Job) (commands : List ℕ) (z : Chip) (v w : Tape)
    (o p : SinkView) (e : E) → (m : HoldsJob c j commands z v w o p (Err e))
    → IsSoundFor c j m.asked → SaysCut (session_of_job c j commands) o p
cut_said c j commands z v w o p e m sound =
    let ls : List Strike = j.strikes in
    let d : Session = session_at_start c j in
    let none : NoQuit c.cpus m.asked =
    none_front c.cpus m.asked m.more
    (subst (NoQuit c.cpus) m.front (none_before c.cpus (lines commands))) in
    let rest : List Piece = (session_from ls c (said_of_job c j m.asked).after m.more).pieces in
    let whole : (said_of_job c j m.asked).pieces ++ rest ≡ (session_of_job c j commands).pieces =
    ap (λ (s : Said). s.pieces)
    (sym (said_append ls c d m.asked m.more none)
    ∙ ap (λ xs. session_from ls c d xs) (sym m.front) ∙ session_is ls c d commands) in
    let answers : m.answers ++ rest ≡ (session_of_job c j commands).pieces =
    ap (λ xs. xs ++ rest)
    (all_answers c j m.asked m.answers m.carries.each m.carries.fronts sound) ∙ whole in
    record {
      held = m.written.held;
      grew = m.written.grew;
      cut = subst (λ xs. IsCut m.written.held xs) answers
          (cut_of_more m.written.held m.answers rest m.written.cut);
      cause = m.written.cause;
    }

-- ---- before a session

pub can_be_held : (c : Config) (j : Job) (z : Chip) (r : Ready) → IsReadyJob c j z r
    → CanBeHeld r z
can_be_held c j z r h = record {
  unused = record {
    machine = h.starts.start.machine;
    calls_a = h.starts.start.calls_a;
    calls_b = h.starts.start.calls_b;
  };
  fits = rw (h.schedule, h.starts.config) h.fits;
  few = subst (λ (rs : List Run). turns_of rs ≤ 1000000) (sym h.schedule) h.few;
  begun = λ k lt. let none = h.starts.start.begun k lt in omega (arith, none);
}
