use Rattle.std.proofs.Common.{◌∙◌, ap}
use Rattle.program_model.specs.Debugger.{key_text}
use Rattle.g5_debugger.proofs.answers.block_text.Goals as goal

pub returns-in-Some : goal.returns-in-Some
returns-in-Some c = λ z x st.
    c.text.ensures ∙ c.deref.ensures.0 ∙ c.hex2.ensures ∙ ap key_text (c.in-Some.ensures z x st)

pub returns-in-None : goal.returns-in-None
returns-in-None c = λ z x st. c.text-in-None.ensures ∙ ap key_text (c.in-None.ensures z x st)
