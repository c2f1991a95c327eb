use Rattle.std.proofs.Common.{◌≡◌, drop}
use Rattle.esa_model.specs.Access.{noted_all}
use Rattle.operand_access.proofs.blocks.note_all.Given as goal

abbrev pub invariant-loop-k : goal.invariant-loop-k
invariant-loop-k l = noted_all l.r l.at l.offsets l.fn.blocks.items ≡ noted_all l.r l.at (drop l.k-index l.offsets) l.blocks.items
