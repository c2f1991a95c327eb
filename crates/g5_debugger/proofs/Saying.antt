-- A command of a session is one of the definitions' session.
use Rattle.std.proofs.Common.{◌≡◌, ◌≢◌, ℕ, List, take, drop, refl, sym, ap, ◌∙◌, subst, Option, Some, None}
use Rattle.program_model.specs.Debugger.{answer}
use Rattle.program_model.specs.Session.{answered, with_turns}
use Rattle.program_model.specs.Session.{Session as ModelSession}
use Rattle.program_model.specs.declared.questions.Question.{Question}
use Rattle.program_model.specs.declared.questions.Question.TheVariants.{Turns, Psw, General, Control, Prefix, Memory, Key, Cpu, Console, Quit as AskedToQuit}
use Rattle.run_loop.specs.Engines.{EngineView}
use Rattle.run_loop.specs.Making.{SoundAfter, state_by}
use Rattle.run_loop.proofs.Telling.{all_told}
use Rattle.run_model.specs.Counts.{count_turns}
use Rattle.run_model.specs.Runs.{Model, run_after, run_tells}
use Rattle.run_model.specs.declared.faults.Strike.{Strike}
use Rattle.run_model.specs.declared.logs.Config.{Config}
use Rattle.run_model.specs.declared.schedules.RunKind.{RunKind}
use Rattle.g5_debugger.specs.Answering.{TellsTurns}
use Rattle.g5_debugger.specs.Sessions.{AnswersLine, AnswersTo, Commands, IsAnswer, IsSession, IsText, SaysAs, after_line, left_of, next_kinds, turns_of_line}
use Rattle.g5_debugger.specs.declared.session.Answer.{Answer}
use Rattle.g5_debugger.specs.declared.session.Answer.TheVariants.{Text, Unknown, Quit}
use Rattle.g5_debugger.specs.declared.session.Session.{Session}

-- the definitions' session after a line has made the turns that it asks for
record IsMoved (ls : List Strike) (c : Config) (q : Option Question) (d : ModelSession) : Type 0 where
  model : (after_line ls c q d).model ≡ run_after ls c d.model (next_kinds q d)
  left : (after_line ls c q d).left ≡ drop (turns_of_line q) d.left
  made : (after_line ls c q d).made ≡ count_turns d.made (run_tells ls c d.model (next_kinds q d))

moved : (ls : List Strike) (c : Config) (q : Option Question) (d : ModelSession)
    → IsMoved ls c q d
unfolding with_turns
moved ls c None d = record { model = refl; left = refl; made = refl }
moved ls c (Some (Turns n)) d = record { model = refl; left = refl; made = refl }
moved ls c (Some (Psw i)) d = record { model = refl; left = refl; made = refl }
moved ls c (Some (General i)) d = record { model = refl; left = refl; made = refl }
moved ls c (Some (Control i)) d = record { model = refl; left = refl; made = refl }
moved ls c (Some (Prefix i)) d = record { model = refl; left = refl; made = refl }
moved ls c (Some (Memory at n)) d = record { model = refl; left = refl; made = refl }
moved ls c (Some (Key at)) d = record { model = refl; left = refl; made = refl }
moved ls c (Some (Cpu i)) d = record { model = refl; left = refl; made = refl }
moved ls c (Some Console) d = record { model = refl; left = refl; made = refl }
moved ls c (Some AskedToQuit) d = record { model = refl; left = refl; made = refl }

-- a text of which more holds
text_more : (a : Answer) (P Q : List ℕ → Type 0) → ((t : List ℕ) → P t → Q t) → IsText a P
    → IsText a Q
text_more (Text t) P Q more h = more t.items h
text_more Unknown P Q more h = absurd h
text_more Quit P Q more h = absurd h

is_answer : (q : Option Question) (d : ModelSession) (s : Session) (v : EngineView) (a : Answer)
    → v.stands d.model → AnswersLine q s v a → IsAnswer q d a
is_answer None d s v a stands h = h
is_answer (Some q) d s v a stands h = (
  h.quit,
  λ other. text_more a
      (λ t. TellsTurns q s.reached.made.turns t
      × ((x : Model) → v.stands x → t ≡ answer x.machine x.fate.cores q))
      (λ t. t ≡ answered d q) (λ t is. is.1 d.model stands) (h.text other),
)

pub says_as : (ls : List Strike) (c : Config) (q : Option Question) (d : ModelSession)
    (old new : Session) (before after : EngineView) (a : Answer) → before.lines ≡ ls
    → before.config ≡ c → Commands q old new before after a → IsSession old before d
    → SoundAfter before d.model (next_kinds q d) → SaysAs ls c q d new after a
says_as ls c q d old new before after a lines config h is sound =
    let n : ℕ = turns_of_line q in
    let ks : List RunKind = take n (left_of old) in
    let same : next_kinds q d ≡ ks = ap (λ z. take n z) is.left in
    let sounds : SoundAfter before d.model ks
    = subst (λ z. SoundAfter before d.model z) same sound in
    let m = moved ls c q d in
    let state : state_by before d.model ks ≡ (after_line ls c q d).model =
    ap (λ z. run_after z before.config d.model ks) lines
    ∙ ap (λ z. run_after ls z d.model ks) config
    ∙ ap (λ z. run_after ls c d.model z) (sym same) ∙ sym m.model in
    let told : h.told ≡ run_tells ls c d.model (next_kinds q d) =
    all_told ks h.told before after d.model h.tells is.stands sounds
    ∙ ap (λ z. run_tells z before.config d.model ks) lines
    ∙ ap (λ z. run_tells ls z d.model ks) config
    ∙ ap (λ z. run_tells ls c d.model z) (sym same) in
    let stands : after.stands (after_line ls c q d).model =
    subst (λ x. after.stands x) state (h.tells.stands d.model is.stands sounds) in
    record {
      is = record {
        stands = stands;
        left = m.left ∙ ap (λ z. drop n z) is.left ∙ sym h.left;
        made = m.made ∙ ap (λ z. count_turns d.made z) (sym told)
            ∙ ap (λ z. count_turns z h.told) is.made ∙ sym h.counted;
      };
      answer = is_answer q (after_line ls c q d) new after a stands h.answers;
    }

-- ---- a command from its parts

-- a line that is unknown, and one that asks for no turn
pub answers_text : (q : Question) (s : Session) (v : EngineView) (a : Answer)
    (P : List ℕ → Type 0) → (q ≡ AskedToQuit → a ≡ Quit) → (q ≢ AskedToQuit → IsText a P)
    → ((t : List ℕ) → P t → TellsTurns q s.reached.made.turns t
    × ((x : Model) → v.stands x → t ≡ answer x.machine x.fate.cores q))
    → AnswersTo q s v a
answers_text q s v a P quit text more = record {
  quit = quit;
  text = λ other. text_more a P
      (λ t. TellsTurns q s.reached.made.turns t
      × ((x : Model) → v.stands x → t ≡ answer x.machine x.fate.cores q))
      more (text other);
}
