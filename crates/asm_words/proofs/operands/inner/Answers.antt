use Rattle.std.proofs.Common.{ap, sym, ◌∙◌}
use Rattle.asm_model.specs.Pieces.{inner}
use Rattle.asm_words.proofs.Forms.{inner_several}
use Rattle.asm_words.proofs.operands.inner.Goals as goal

pub returns-in-One : goal.returns-in-One
returns-in-One c = c.one_inside.ensures ∙ sym (ap (inner c.args.d.now) c.in-One.ensures)

pub returns-in-Two : goal.returns-in-Two
returns-in-Two c = c.two_inside.ensures ∙ sym (ap (inner c.args.d.now) c.in-Two.ensures)

pub returns-in-Several : goal.returns-in-Several
returns-in-Several c = sym (inner_several c.args.d.now _ c.in-Several.ensures)
