use Rattle.std.proofs.Common.{arith}
use Rattle.g5_outside.proofs.Places.{gave_below}
use Rattle.g5_outside.proofs.memory_shelf.MemoryShelfShelf.write.Goals as goal

pub add-count-requires : goal.add-count-requires
add-count-requires c = let below = gave_below _ _ c.requires.given in omega (arith, c.args.self.now.in_range)
