-- The lines of a text, one after another: what is so before each, and after it.
use Rattle.std.proofs.Common.{◌≡◌, ℕ, ◌+◌, ◌<◌, ◌≤◌, true, false, List, [], ◌∷◌, ◌++◌, length, take, refl, sym, ap, ◌∙◌, subst, arith, append-nil, append_assoc, length-append, Option, Some, None, Result, Ok, Err, inl, inr}
use Rattle.std.proofs.lemmas.Bool.{cases_lt}
use Rattle.std.proofs.lemmas.List.{take_all, take-append-le}
use Rattle.g5_debugger.specs.Sessions.{Commands, IsSession, SaysAs, after_line, next_kinds, turns_of_line}
use Rattle.g5_debugger.specs.declared.session.Answer.{Answer}
use Rattle.g5_debugger.specs.declared.session.Session.{Session}
use Rattle.g5_outside.specs.Views.{SinkView}
use Rattle.g5_writing.specs.Outputs.{AddsToSink, SinkGrew}
use Rattle.program_model.specs.Debugger.{question}
use Rattle.program_model.specs.Session.{Said, session_from}
use Rattle.program_model.specs.Session.{Session as ModelSession}
use Rattle.program_model.specs.declared.questions.Question.{Question}
use Rattle.program_model.specs.declared.questions.Question.TheVariants.{Quit as AskedToQuit}
use Rattle.run_loop.proofs.Joining.{sound_run}
use Rattle.run_loop.specs.Engines.{EngineView, Kept}
use Rattle.run_loop.specs.Making.{SoundAfter}
use Rattle.run_model.specs.Fate.{Sound}
use Rattle.run_model.specs.Pieces.{Piece, piece, text}
use Rattle.run_model.specs.Runs.{run_after}
use Rattle.run_model.specs.Script.{lines}
use Rattle.run_model.specs.declared.faults.Strike.{Strike}
use Rattle.run_model.specs.declared.logs.Config.{Config}
use Rattle.run_model.specs.declared.outputs.Place.TheVariants.{Out}
use Rattle.debug_runs.specs.CommandLines.{before_quit, ends, text_of, turns_in}
use Rattle.debug_runs.specs.Conversing.{Carries, Converses, IsSoundTo, MakesTurns, said_to}
use Rattle.debug_runs.proofs.LineTexts.{ends_it, goes_on, is_line_text}
use Rattle.debug_runs.proofs.Putting.{grew_more, grew_none, grew_whole, writes_all, writes_cut}
use Rattle.debug_runs.proofs.Quits.{before_ends, before_goes, none_before, none_front}
use Rattle.debug_runs.proofs.Sayings.{NoQuit, is_quit, joined, line_model, line_text, said_more}
use Rattle.debug_runs.proofs.TurnsMade.{no_turns, turns_in_more, turns_of_command, turns_then}

-- ---- one line, by a script and a configuration

pub record Does (ls : List Strike) (c : Config) (q : Option Question) (now new : Session)
    (here there : EngineView) (a : Answer) : Type 0 where
  pub commands : Commands q now new here there a
  pub says : (d : ModelSession) → IsSession now here d
      → Sound ls (run_after ls c d.model (next_kinds q d)).fate → SaysAs ls c q d new there a

-- the same by the script and the configuration of an earlier view
does_as : (ls ms : List Strike) (c k : Config) (line : List ℕ) (now new : Session)
    (here there : EngineView) (a : Answer) → ls ≡ ms → c ≡ k
    → Does ls c (question c.cpus line) now new here there a
    → Does ms k (question k.cpus line) now new here there a
does_as ls ms c k line now new here there a e f h =
    subst (λ l. Does l k (question k.cpus line) now new here there a) e
    (subst (λ d. Does ls d (question d.cpus line) now new here there a) f h)

-- ---- lines that were carried out, and one more

no_lines : (s : Session) (v : EngineView) → Carries [] s s v v []
no_lines s v = record {
  turns = no_turns s v;
  each = refl;
  fronts = λ d is n le sound.
      let none : n ≡ 0 = omega (arith, le) in
      subst (λ k. take k [] ≡ (said_to v d (take k [])).pieces) (sym none) refl;
  stands = λ d is sound. is;
}

-- what is so of the answer and the session after one line more, by a session of the definitions
record IsAsSaid (old new : Session) (before after : EngineView) (d : ModelSession)
    (asked : List (List ℕ)) (answers : List Piece) : Type 0 where
  answers_are : answers ≡ (said_to before d asked).pieces
  stands : IsSession new after (said_to before d asked).after

all_answers : (asked : List (List ℕ)) (old now : Session) (before here : EngineView)
    (answers : List Piece) (d : ModelSession) → Carries asked old now before here answers
    → IsSession old before d → IsSoundTo before d asked
    → answers ≡ (said_to before d asked).pieces
all_answers asked old now before here answers d h is sound =
    let n : ℕ = length asked in
    let all : take n asked ≡ asked = take_all n asked (omega arith) in
    let whole : take n answers ≡ answers = take_all n answers (omega (arith, h.each)) in
    sym whole
    ∙ h.fronts d is n (omega arith) (subst (λ xs. IsSoundTo before d xs) (sym all) sound)
    ∙ ap (λ xs. (said_to before d xs).pieces) all

one_said : (line t : List ℕ) (asked : List (List ℕ)) (old now new : Session)
    (before here there : EngineView) (answers : List Piece) (a : Answer) (d : ModelSession)
    → NoQuit before.config.cpus asked → Carries asked old now before here answers
    → Does before.lines before.config (question before.config.cpus line) now new here there a
    → text_of a ≡ Some t → IsSession old before d
    → IsSoundTo before d (asked ++ line ∷ [])
    → IsAsSaid old new before there d (asked ++ line ∷ []) (answers ++ piece Out (t ++ 10 ∷ []) ∷ [])
one_said line t asked old now new before here there answers a d none h one e is sound =
    let ls : List Strike = before.lines in
    let c : Config = before.config in
    let q : Option Question = question c.cpus line in
    let s : ModelSession = (session_from ls c d asked).after in
    let u : ModelSession = after_line ls c q s in
    let goes : ends q ≡ false = goes_on q new there a t one.commands.answers e in
    let more = said_more ls c d asked line none goes in
    let sound_u : Sound ls u.model.fate =
    subst (λ (x : Said). Sound ls x.after.model.fate) more sound in
    let sound_next : Sound ls (run_after ls c s.model (next_kinds q s)).fate =
    subst (λ x. Sound ls x.fate) (line_model ls c q s) sound_u in
    let sound_s : Sound ls s.model.fate = sound_run ls c s.model (next_kinds q s) sound_next in
    let says = one.says s (h.stands d is sound_s) sound_next in
    let same : t ≡ line_text q u = is_line_text q u a t says.answer e in
    record {
      answers_are =
          ap (λ xs. xs ++ piece Out (t ++ 10 ∷ []) ∷ [])
          (all_answers asked old now before here answers d h is sound_s)
          ∙ ap (λ x. (session_from ls c d asked).pieces ++ piece Out (x ++ 10 ∷ []) ∷ []) same
          ∙ sym (ap (λ (x : Said). x.pieces) more);
      stands = subst (λ (x : Said). IsSession new there x.after) (sym more) says.is;
    }

one_line : (line t : List ℕ) (asked : List (List ℕ)) (old now new : Session)
    (before here there : EngineView) (answers : List Piece) (a : Answer)
    → NoQuit before.config.cpus asked → Carries asked old now before here answers
    → Does before.lines before.config (question before.config.cpus line) now new here there a
    → text_of a ≡ Some t
    → Carries (asked ++ line ∷ []) old new before there (answers ++ piece Out (t ++ 10 ∷ []) ∷ [])
one_line line t asked old now new before here there answers a none h one e =
    let cpus : ℕ = before.config.cpus in
    let q : Option Question = question cpus line in
    let p : Piece = piece Out (t ++ 10 ∷ []) in
    let all : List (List ℕ) = asked ++ line ∷ [] in
    let long : length all ≡ length asked + 1 = length-append asked (line ∷ []) in
    let longer : length (answers ++ p ∷ []) ≡ length answers + 1 =
    length-append answers (p ∷ []) in
    let each : length (answers ++ p ∷ []) ≡ length all = omega (arith, long, longer, h.each) in
    let said = λ (d : ModelSession) (is : IsSession old before d) (sound : IsSoundTo before d all).
    one_said line t asked old now new before here there answers a d none h one e is sound in
    record {
      turns = subst (λ n. MakesTurns n old new before there) (sym (turns_in_more cpus asked line))
          (turns_then (turns_in cpus asked) (turns_of_line q) old now new before here there h.turns
          (turns_of_command q now new here there a one.commands));
      each = each;
      fronts = λ d is n le sound. elim (cases_lt (length asked) n) [
        | inl lt ↦
            let whole : take n all ≡ all = take_all n all (omega (arith, long, lt)) in
            take_all n (answers ++ p ∷ []) (omega (arith, each, long, lt))
            ∙ (said d is (subst (λ xs. IsSoundTo before d xs) whole sound)).answers_are
            ∙ ap (λ xs. (said_to before d xs).pieces) (sym whole)
        | inr small ↦
            let front : take n all ≡ take n asked = take-append-le n asked (line ∷ []) small in
            take-append-le n answers (p ∷ []) (omega (arith, small, h.each))
            ∙ h.fronts d is n small (subst (λ xs. IsSoundTo before d xs) front sound)
            ∙ ap (λ xs. (said_to before d xs).pieces) (sym front)
      ];
      stands = λ d is sound. (said d is sound).stands;
    }

-- `quit` makes no turn
quit_line : (asked : List (List ℕ)) (old now new : Session) (before here there : EngineView)
    (answers : List Piece) (a : Answer) → Carries asked old now before here answers
    → Does before.lines before.config (Some AskedToQuit) now new here there a
    → Carries asked old new before there answers
quit_line asked old now new before here there answers a h one =
    let n : ℕ = turns_in before.config.cpus asked in
    let same : n + 0 ≡ n = omega arith in
    record {
      turns = subst (λ k. MakesTurns k old new before there) same
          (turns_then n 0 old now new before here there h.turns
          (turns_of_command (Some AskedToQuit) now new here there a one.commands));
      each = h.each;
      fronts = h.fronts;
      stands = λ d is sound.
          (one.says (said_to before d asked).after (h.stands d is sound) sound).is;
    }

-- ---- the loop over the lines

-- these lines were carried out and their answers written, and these bytes are the rest
pub record SoFar (commands rest : List ℕ) (old now : Session) (before here : EngineView)
    (o p : SinkView) : Type 0 where
  pub asked : List (List ℕ)
  pub front : before_quit before.config.cpus (lines commands)
      ≡ asked ++ before_quit before.config.cpus (lines rest)
  pub answers : List Piece
  pub carries : Carries asked old now before here answers
  pub grew : SinkGrew (text Out answers) o p

pub none_so_far : (commands : List ℕ) (s : Session) (v : EngineView) (o : SinkView)
    → SoFar commands commands s s v v o o
none_so_far commands s v o = record {
  asked = [];
  front = refl;
  answers = [];
  carries = no_lines s v;
  grew = grew_none o;
}

kept_of : (commands rest : List ℕ) (old now : Session) (before here : EngineView)
    (o p : SinkView) → SoFar commands rest old now before here o p → Kept before here
kept_of commands rest old now before here o p h = h.carries.turns.tells.kept

no_quit_of : (commands rest : List ℕ) (old now : Session) (before here : EngineView)
    (o p : SinkView) → (h : SoFar commands rest old now before here o p)
    → NoQuit before.config.cpus h.asked
no_quit_of commands rest old now before here o p h =
    let cpus : ℕ = before.config.cpus in
    none_front cpus h.asked (before_quit cpus (lines rest))
    (subst (NoQuit cpus) h.front (none_before cpus (lines commands)))

-- what a command does, as its clauses say it
pub does_line : (line : List ℕ) (now new : Session) (here there : EngineView) (a : Answer)
    → Commands (question here.config.cpus line) now new here there a
    → ((d : ModelSession) → IsSession now here d
    → SoundAfter here d.model (next_kinds (question here.config.cpus line) d)
    → SaysAs here.lines here.config (question here.config.cpus line) d new there a)
    → Does here.lines here.config (question here.config.cpus line) now new here there a
does_line line now new here there a commands says = record { commands = commands; says = says }

does_here : (commands rest line : List ℕ) (old now new : Session)
    (before here there : EngineView) (o p : SinkView) (a : Answer)
    → SoFar commands rest old now before here o p
    → Does here.lines here.config (question here.config.cpus line) now new here there a
    → Does before.lines before.config (question before.config.cpus line) now new here there a
does_here commands rest line old now new before here there o p a h one =
    let kept : Kept before here = kept_of commands rest old now before here o p h in
    does_as here.lines before.lines here.config before.config line now new here there a
    kept.lines kept.config one

-- the next line is among those before the first `quit`
next_front : (commands rest line after : List ℕ) (old now : Session) (before here : EngineView)
    (o p : SinkView) → (h : SoFar commands rest old now before here o p)
    → lines rest ≡ line ∷ lines after → ends (question before.config.cpus line) ≡ false
    → before_quit before.config.cpus (lines commands)
    ≡ (h.asked ++ line ∷ []) ++ before_quit before.config.cpus (lines after)
next_front commands rest line after old now before here o p h next goes =
    let cpus : ℕ = before.config.cpus in
    h.front
    ∙ ap (λ xs. h.asked ++ before_quit cpus xs) next
    ∙ ap (λ xs. h.asked ++ xs) (before_goes cpus line (lines after) goes)
    ∙ sym (append_assoc h.asked (line ∷ []) (before_quit cpus (lines after)))

-- a line was answered, and its answer written
pub one_more : {T E : Type 0} (commands rest line after t : List ℕ) (old now new : Session)
    (before here there : EngineView) (o p q : SinkView) (a : Answer) (u : T)
    → SoFar commands rest old now before here o p → lines rest ≡ line ∷ lines after
    → Does here.lines here.config (question here.config.cpus line) now new here there a
    → text_of a ≡ Some t → AddsToSink {E = E} (t ++ 10 ∷ []) p q (Ok u)
    → SoFar commands after old new before there o q
one_more commands rest line after t old now new before here there o p q a u h next one e adds =
    let does = does_here commands rest line old now new before here there o p a h one in
    let goes = goes_on (question before.config.cpus line) new there a t does.commands.answers e in
    record {
      asked = h.asked ++ line ∷ [];
      front = next_front commands rest line after old now before here o p h next goes;
      answers = h.answers ++ piece Out (t ++ 10 ∷ []) ∷ [];
      carries = one_line line t h.asked old now new before here there h.answers a
          (no_quit_of commands rest old now before here o p h) h.carries does e;
      grew = grew_more h.answers (t ++ 10 ∷ []) o p q h.grew
          (grew_whole (t ++ 10 ∷ []) p q u adds);
    }

-- a line was answered, and the output failed
pub cut_there : {T U E : Type 0} (commands rest line after t : List ℕ) (old now new : Session)
    (before here there : EngineView) (o p q : SinkView) (a : Answer) (x : E)
    → SoFar commands rest old now before here o p → lines rest ≡ line ∷ lines after
    → Does here.lines here.config (question here.config.cpus line) now new here there a
    → text_of a ≡ Some t → AddsToSink {T = T} (t ++ 10 ∷ []) p q (Err x)
    → Converses {T = U} commands old new before there o q (Err x)
cut_there commands rest line after t old now new before here there o p q a x h next one e adds =
    let does = does_here commands rest line old now new before here there o p a h one in
    let goes = goes_on (question before.config.cpus line) new there a t does.commands.answers e in
    record {
      asked = h.asked ++ line ∷ [];
      more = before_quit before.config.cpus (lines after);
      front = next_front commands rest line after old now before here o p h next goes;
      all = tt;
      answers = h.answers ++ piece Out (t ++ 10 ∷ []) ∷ [];
      carries = one_line line t h.asked old now new before here there h.answers a
          (no_quit_of commands rest old now before here o p h) h.carries does e;
      written = writes_cut h.answers (t ++ 10 ∷ []) o p q x h.grew adds;
    }

-- the session was ended
pub quit_there : {T E : Type 0} (commands rest line after : List ℕ) (old now new : Session)
    (before here there : EngineView) (o p : SinkView) (a : Answer) (u : T)
    → SoFar commands rest old now before here o p → lines rest ≡ line ∷ lines after
    → Does here.lines here.config (question here.config.cpus line) now new here there a
    → text_of a ≡ None → Converses {E = E} commands old new before there o p (Ok u)
quit_there commands rest line after old now new before here there o p a u h next one e =
    let cpus : ℕ = before.config.cpus in
    let q : Option Question = question cpus line in
    let does = does_here commands rest line old now new before here there o p a h one in
    let quits : ends q ≡ true = ends_it q new there a does.commands.answers e in
    record {
      asked = h.asked;
      more = [];
      front = h.front
          ∙ ap (λ xs. h.asked ++ before_quit cpus xs) next
          ∙ ap (λ xs. h.asked ++ xs) (before_ends cpus line (lines after) quits);
      all = refl;
      answers = h.answers;
      carries = quit_line h.asked old now new before here there h.answers a h.carries
          (subst (λ k. Does before.lines before.config k now new here there a) (is_quit q quits)
          does);
      written = writes_all h.answers o p u h.grew;
    }

-- no line is left
pub all_done : {T E : Type 0} (commands rest : List ℕ) (old now : Session)
    (before here : EngineView) (o p : SinkView) (u : T)
    → SoFar commands rest old now before here o p → lines rest ≡ []
    → Converses {E = E} commands old now before here o p (Ok u)
all_done commands rest old now before here o p u h none =
    let cpus : ℕ = before.config.cpus in
    record {
      asked = h.asked;
      more = [];
      front = h.front ∙ ap (λ xs. h.asked ++ before_quit cpus xs) none;
      all = refl;
      answers = h.answers;
      carries = h.carries;
      written = writes_all h.answers o p u h.grew;
    }
