-- Turns that a session made, turns behind turns.
use Rattle.std.proofs.Common.{◌≡◌, ℕ, ◌+◌, List, [], ◌∷◌, ◌++◌, take, drop, refl, sym, ap, ◌∙◌, subst, arith, Option}
use Rattle.std.proofs.Math.Seq.{take-add}
use Rattle.std.proofs.lemmas.List.{drop-drop}
use Rattle.g5_debugger.specs.Sessions.{Commands, left_of, turns_of_line}
use Rattle.g5_debugger.specs.declared.session.Answer.{Answer}
use Rattle.g5_debugger.specs.declared.session.Session.{Session}
use Rattle.program_model.specs.Debugger.{question}
use Rattle.program_model.specs.declared.questions.Question.{Question}
use Rattle.run_loop.proofs.Joining.{counts_append}
use Rattle.run_loop.proofs.Telling.{tells_none, tells_then}
use Rattle.run_loop.specs.Engines.{EngineView}
use Rattle.run_loop.specs.Making.{Tells}
use Rattle.run_model.specs.Counts.{count_turns}
use Rattle.run_model.specs.declared.schedules.RunKind.{RunKind}
use Rattle.debug_runs.specs.CommandLines.{turns_in}
use Rattle.debug_runs.specs.Conversing.{MakesTurns}

pub no_turns : (s : Session) (v : EngineView) → MakesTurns 0 s s v v
no_turns s v = record { told = []; tells = tells_none v; left = refl; counted = refl }

pub turns_of_command : (q : Option Question) (s t : Session) (v w : EngineView) (a : Answer)
    → Commands q s t v w a → MakesTurns (turns_of_line q) s t v w
turns_of_command q s t v w a h =
    record { told = h.told; tells = h.tells; left = h.left; counted = h.counted }

pub turns_then : (n m : ℕ) (old now new : Session) (before here after : EngineView)
    → MakesTurns n old now before here → MakesTurns m now new here after
    → MakesTurns (n + m) old new before after
turns_then n m old now new before here after a b =
    let ks : List RunKind = left_of old in
    let next : Tells (take m (drop n ks)) b.told here after =
    subst (λ js. Tells (take m js) b.told here after) a.left b.tells in
    record {
      told = a.told ++ b.told;
      tells = subst (λ js. Tells js (a.told ++ b.told) before after) (sym (take-add n m ks))
          (tells_then (take n ks) (take m (drop n ks)) a.told b.told before here after a.tells
          next);
      left = b.left ∙ ap (λ js. drop m js) a.left ∙ drop-drop m n ks;
      counted = b.counted ∙ ap (λ c. count_turns c b.told) a.counted
          ∙ sym (counts_append old.reached.made a.told b.told);
    }

-- how many turns one line more asks for
pub turns_in_more : (cpus : ℕ) (xs : List (List ℕ)) (x : List ℕ)
    → turns_in cpus (xs ++ x ∷ []) ≡ turns_in cpus xs + turns_of_line (question cpus x)
turns_in_more cpus [] x = omega arith
turns_in_more cpus (y ∷ ys) x = let rest = turns_in_more cpus ys x in omega (arith, rest)
