use Rattle.std.proofs.Common.{sym}
use Rattle.g5_outside.proofs.Places.{length-numbers_below}
use Rattle.g5_outside.proofs.memory_shelf.MemoryShelf.given.Goals as goal

pub returns : goal.returns
returns c = sym (length-numbers_below c.args.self.now.given)
