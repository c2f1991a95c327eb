use Rattle.std.proofs.Common.{◌∙◌, ap, length}
use Rattle.program_model.specs.Debugger.{answer, two_texts}
use Rattle.run_model.specs.Numbers.{decimal}
use Rattle.g5_debugger.proofs.answers.console_text.Goals as goal

pub returns : goal.returns
unfolding answer
returns c = λ z x st.
    let counts = c.console_counts-written.ensures in
    c.named_number.ensures
    ∙ ap (λ t. two_texts t (decimal c.console_counts-written.result.1))
    (c.deref.ensures.0 ∙ c.decimal.ensures ∙ ap decimal (counts.written z x st))
    ∙ ap (λ n. two_texts (decimal (length x.machine.console_written)) (decimal n))
    (counts.read z x st)
