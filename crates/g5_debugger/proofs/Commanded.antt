-- A command from what its calls give.
use Rattle.std.proofs.Common.{◌≡◌, ◌≢◌, ℕ, ◌≤◌, List, [], take, drop, refl, sym, ap, ◌∙◌, subst, arith, Option, Some, None}
use Rattle.g5_machine.specs.Standing.{StandsFor}
use Rattle.machine_runs.specs.Views.{view_of}
use Rattle.program_model.specs.Debugger.{answer}
use Rattle.program_model.specs.declared.questions.Question.{Question}
use Rattle.program_model.specs.declared.questions.Question.TheVariants.{Turns, Psw, General, Control, Prefix, Memory, Key, Cpu, Console, Quit as AskedToQuit}
use Rattle.run_loop.specs.Engines.{EngineView}
use Rattle.run_loop.specs.Making.{Tells}
use Rattle.run_loop.proofs.Telling.{tells_none}
use Rattle.run_model.specs.Runs.{Model}
use Rattle.run_model.specs.declared.logs.Config.{Config}
use Rattle.run_model.specs.declared.schedules.Run.{Run}
use Rattle.silicon.specs.Chip.{Chip}
use Rattle.silicon.specs.Tape.{Tape}
use Rattle.g5_debugger.specs.Answering.{TellsTurns}
use Rattle.g5_debugger.specs.Left.{left}
use Rattle.g5_debugger.specs.Making.{MakesNext}
use Rattle.g5_debugger.specs.Order.{IsInOrder}
use Rattle.g5_debugger.specs.Sessions.{Commands, IsText, left_of, turns_asked}
use Rattle.g5_debugger.specs.declared.session.Answer.{Answer}
use Rattle.g5_debugger.specs.declared.session.Answer.TheVariants.{Unknown, Quit}
use Rattle.g5_debugger.specs.declared.session.Session.{Session}
use Rattle.g5_debugger.proofs.Saying.{answers_text}

pub few_asked : (cpus : ℕ) (q : Question) → IsInOrder cpus q → turns_asked q ≤ 1000000
few_asked cpus (Turns n) h = h.1
few_asked cpus (Psw c) h = omega arith
few_asked cpus (General c) h = omega arith
few_asked cpus (Control c) h = omega arith
few_asked cpus (Prefix c) h = omega arith
few_asked cpus (Memory at n) h = omega arith
few_asked cpus (Key at) h = omega arith
few_asked cpus (Cpu c) h = omega arith
few_asked cpus Console h = omega arith
few_asked cpus AskedToQuit h = omega arith

-- the question stays in order
pub order_after : (c d : Config) (cpus : ℕ) (q : Question) → cpus ≡ c.cpus → d ≡ c
    → IsInOrder cpus q → IsInOrder d.cpus q
order_after c d cpus q own same h =
    subst (λ n. IsInOrder n q) (own ∙ ap (λ (k : Config). k.cpus) (sym same)) h

-- a line that asks nothing
pub commands_none : (q : Option Question) (s : Session) (v : EngineView) → None ≡ q
    → Commands q s s v v Unknown
commands_none q s v e = subst (λ p. Commands p s s v v Unknown) e (record {
  told = [];
  tells = tells_none v;
  left = refl;
  counted = refl;
  answers = refl;
})

-- what the answer is said to be, over the machine
abbrev pub IsSaid : Question → Session → List ℕ → Type 0
IsSaid q s t = TellsTurns q s.engine.machine.counts.turns t
    × ((z : Chip) (x : Model) → StandsFor s.engine.machine z x
    → t ≡ answer x.machine x.fate.cores q)

-- a line that asks something
pub commands_some : (q : Option Question) (asked : Question) (n : ℕ) (s s2 : Session) (a : Answer)
    (z y : Chip) (v w : Tape) → Some asked ≡ q → n ≡ turns_asked asked
    → s2.schedule ≡ s.schedule
    → MakesNext n s.schedule s.reached s2.reached (view_of s.engine z v) (view_of s2.engine y w)
    → (asked ≡ AskedToQuit → a ≡ Quit) → (asked ≢ AskedToQuit → IsText a (IsSaid asked s2))
    → Commands q s s2 (view_of s.engine z v) (view_of s2.engine y w) a
commands_some q asked n s s2 a z y v w e count same m quit text =
    let old : EngineView = view_of s.engine z v in
    let new : EngineView = view_of s2.engine y w in
    subst (λ p. Commands p s s2 old new a) e (record {
      told = m.told;
      tells = subst (λ k. Tells (take k (left_of s)) m.told old new) count m.tells;
      left = ap (λ (rs : List Run). left rs s2.reached.place) same ∙ m.behind
          ∙ ap (λ k. drop k (left_of s)) count;
      counted = m.counted;
      answers = answers_text asked s2 new a (IsSaid asked s2) quit text (λ t h. (
        subst (λ k. TellsTurns asked k t) (sym s2.turns) h.0,
        λ x st. h.1 y x st.stands,
      ));
    })
