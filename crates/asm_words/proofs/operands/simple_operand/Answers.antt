use Rattle.std.proofs.Common.{ap, sym, ◌∙◌}
use Rattle.asm_model.specs.Pieces.{simple, simple_operand}
use Rattle.asm_words.proofs.Forms.{simple_several}
use Rattle.asm_words.proofs.operands.simple_operand.Goals as goal

pub returns-in-One : goal.returns-in-One
unfolding simple_operand
returns-in-One c = c.one_word.ensures ∙ sym (ap simple c.in-One.ensures)

pub returns-in-Two : goal.returns-in-Two
unfolding simple_operand
returns-in-Two c = c.two_words.ensures ∙ sym (ap simple c.in-Two.ensures)

pub returns-in-Several : goal.returns-in-Several
unfolding simple_operand
returns-in-Several c = sym (simple_several _ c.in-Several.ensures)
