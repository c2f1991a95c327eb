use Rattle.g5_debugger.proofs.HeldWords.{runs}
use Rattle.g5_debugger.proofs.answers.held_text.Goals as goal

pub returns-in-Some : goal.returns-in-Some
returns-in-Some c = λ z x st.
    runs (x.fate.cores.mode c.args.cpu.0) c.in-Some.registers.now
    (x.machine.registers c.args.cpu.0) c.args.words c.registers_text.result.items
    (c.in-Some.ensures.registers z x st) c.registers_text.ensures
