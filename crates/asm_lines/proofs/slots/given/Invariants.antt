use Rattle.std.proofs.Common.{◌≡◌, drop}
use Rattle.asm_model.specs.Slots.{given as given_by}
use Rattle.asm_words.specs.Operands.{rest_operands}
use Rattle.asm_lines.proofs.slots.given.Given as goal

abbrev pub invariant-loop-slot : goal.invariant-loop-slot
invariant-loop-slot l =
    given_by (drop l.slot-index l.slots) (rest_operands l.left) l.held
    ≡ given_by l.slots (rest_operands l.fn.rest) l.fn.g
