use Rattle.std.proofs.Common.{◌≡◌, drop}
use Rattle.esa_model.specs.Access.{has}
use Rattle.operand_access.proofs.blocks.has_block.Given as goal

abbrev pub invariant-loop-x : goal.invariant-loop-x
invariant-loop-x l = has l.b l.blocks ≡ has l.b (drop l.x-index l.blocks)
