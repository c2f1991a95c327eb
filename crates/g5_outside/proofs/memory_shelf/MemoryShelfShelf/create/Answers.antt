use Rattle.std.proofs.Common.{arith}
use Rattle.g5_outside.proofs.Places.{length-numbers_below}
use Rattle.g5_outside.proofs.memory_shelf.MemoryShelfShelf.create.Goals as goal

pub invariant_of-self-2 : goal.invariant_of-self-2
invariant_of-self-2 c =
    let n = length-numbers_below c.args.self.now.given in
    record { in_range = omega (arith, n, c.requires) }
