-- The operands that are still to be read.
use Rattle.std.specs.Prelude.{ℕ, List, map}
use Rattle.asm_model.specs.declared.operands.Operand.{Operand}
use Rattle.asm_model.specs.Pieces.{operand_of}
use Rattle.asm_words.specs.declared.cuts.Rest.{Rest}
use Rattle.asm_words.specs.Cuts.{rest_pieces}

abbrev pub rest_operands : Rest → List Operand
rest_operands r = map operand_of (rest_pieces r)
