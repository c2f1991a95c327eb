use Rattle.std.proofs.Common.{◌≡◌, subst}
use Rattle.g5_machine.specs.Standing.{StandsFor}
use Rattle.g5_machine.specs.declared.machine.Machine.{Machine}
use Rattle.program_model.specs.Debugger.{answer}
use Rattle.run_model.specs.Runs.{Model}
use Rattle.silicon.specs.Chip.{Chip}
use Rattle.g5_debugger.specs.Answering.{TellsTurns}
use Rattle.g5_debugger.proofs.session.Session.answer.Goals as goal

pub returns-in_default : goal.returns-in_default
returns-in_default c =
    let asked = c.args.asked in
    let text = c.answer_of.result.items in
    let same : c.machine.result.now ≡ c.args.self.now.engine.machine = cc in
    record {
      quit = λ e. absurd (c.in_default.not-Quit e);
      text = λ other. (
        subst (λ (m : Machine). TellsTurns asked m.counts.turns text) same
            c.answer_of.ensures.turns,
        subst (λ (m : Machine). (z : Chip) (x : Model) → StandsFor m z x
            → text ≡ answer x.machine x.fate.cores asked) same c.answer_of.ensures.answer,
      );
    }
