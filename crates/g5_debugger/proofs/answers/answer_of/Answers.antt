use Rattle.std.proofs.Common.{◌∙◌, ap}
use Rattle.program_model.specs.Debugger.{answer, state_text, two_texts}
use Rattle.esa_model.specs.Bus.{signals_of}
use Rattle.run_model.specs.Numbers.{decimal}
use Rattle.g5_debugger.proofs.answers.answer_of.Goals as goal

pub returns-in-Psw-clause-answer : goal.returns-in-Psw-clause-answer
unfolding answer
returns-in-Psw-clause-answer c = rw c.in-Psw.is (c.cpu_text.ensures)

pub returns-in-General-clause-answer : goal.returns-in-General-clause-answer
unfolding answer
returns-in-General-clause-answer c = rw c.in-General.is (c.cpu_text-in-General.ensures)

pub returns-in-Control-clause-answer : goal.returns-in-Control-clause-answer
unfolding answer
returns-in-Control-clause-answer c = rw c.in-Control.is (c.cpu_text-in-Control.ensures)

pub returns-in-Prefix-clause-answer : goal.returns-in-Prefix-clause-answer
unfolding answer
returns-in-Prefix-clause-answer c = rw c.in-Prefix.is (c.cpu_text-in-Prefix.ensures)

pub returns-in-Memory-clause-answer : goal.returns-in-Memory-clause-answer
unfolding answer
returns-in-Memory-clause-answer c = rw c.in-Memory.is (c.memory_text.ensures)

pub returns-in-Key-clause-answer : goal.returns-in-Key-clause-answer
unfolding answer
returns-in-Key-clause-answer c = rw c.in-Key.is (c.block_text.ensures)

pub returns-in-Cpu-clause-answer : goal.returns-in-Cpu-clause-answer
unfolding answer
returns-in-Cpu-clause-answer c =
    rw c.in-Cpu.is (λ z x st.
    c.named_number.ensures
    ∙ ap (λ t. two_texts t (decimal c.from.result))
    (c.state_name.ensures.name ∙ ap state_text (c.state.ensures z x st))
    ∙ ap (λ n. two_texts (state_text (signals_of x.machine.bus c.in-Cpu.cpu.0).state) (decimal n))
    (c.from.ensures ∙ c.core.ensures.core z x st))

pub returns-in-Console-clause-answer : goal.returns-in-Console-clause-answer
returns-in-Console-clause-answer c = rw c.in-Console.is (c.console_text.ensures)
