use Rattle.std.proofs.Common.{◌∙◌, refl}
use Rattle.esa_model.specs.declared.machine.CpuState.TheVariants.{CheckStop}
use Rattle.g5_debugger.specs.Answering.{words_in}
use Rattle.g5_debugger.proofs.HeldWords.{goes, is_stopped, no_stop}
use Rattle.g5_debugger.proofs.answers.cpu_text.Goals as goal

pub returns-in-CheckStop : goal.returns-in-CheckStop
returns-in-CheckStop c = λ z x st.
    c.text.ensures
    ∙ is_stopped x.machine x.fate.cores c.args.cpu.0
    (words_in c.args.words (x.machine.registers c.args.cpu.0)) CheckStop refl
    (c.in-CheckStop.ensures z x st)

pub returns-in-Operating : goal.returns-in-Operating
returns-in-Operating c = λ z x st.
    goes x.machine x.fate.cores c.args.cpu.0
    (words_in c.args.words (x.machine.registers c.args.cpu.0)) c.held_text.result.items
    c.state.result (no_stop c.state.result c.in-Operating.is) (c.state.ensures z x st)
    (c.held_text.ensures z x st)
