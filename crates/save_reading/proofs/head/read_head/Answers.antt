use Rattle.std.proofs.Common.{sym, ap, ◌∙◌}
use Rattle.std.proofs.lemmas.List.{take_rest}
use Rattle.save_model.specs.Fields.{numbers}
use Rattle.save_model.specs.Parts.{head_of, head_widths}
use Rattle.save_reading.proofs.Deciding.{no_head}
use Rattle.save_reading.proofs.head.read_head.Goals as goal

pub returns-else-is_head-clause-none : goal.returns-else-is_head-clause-none
returns-else-is_head-clause-none c = no_head c.args.bytes.now c.head-head.result (c.head-head.ensures ∙ ap (λ z. head_of (numbers head_widths z)) (take_rest c.args.bytes.now 8)) (sym c.is_head.ensures ∙ c.if-is_head.false)
