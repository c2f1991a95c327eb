use Rattle.std.proofs.Common.{arith}
use Rattle.g5_outside.proofs.Moves.{moved}
use Rattle.g5_outside.proofs.bounded_text.read_from.Goals as goal

pub returns-clause-moved : goal.returns-clause-moved
returns-clause-moved c = moved c.args.bytes.now c.copy_from_slice.new.self _ c.args.at c.min-count.result (grind arith) (grind arith)
