use Rattle.std.proofs.Common.{ap, sym, ◌∙◌}
use Rattle.asm_model.specs.Pieces.{by_parens, operand_of}
use Rattle.asm_words.proofs.Forms.{parens_several}
use Rattle.asm_words.proofs.operands.operand_of.Goals as goal

pub returns-in-One : goal.returns-in-One
unfolding operand_of
returns-in-One c = c.simple_operand.ensures ∙ sym (ap by_parens c.in-One.ensures)

pub returns-in-Two : goal.returns-in-Two
unfolding operand_of
returns-in-Two c = c.closed.ensures ∙ sym (ap by_parens c.in-Two.ensures)

pub returns-in-Several : goal.returns-in-Several
unfolding operand_of
returns-in-Several c = sym (parens_several _ c.in-Several.ensures)
