use Rattle.std.proofs.Common.{length}
use Rattle.deck_link.proofs.Marks.{Going}
use Rattle.deck_link.proofs.clashes.clash_on.Given as goal

abbrev pub invariant-loop-first : goal.invariant-loop-first
invariant-loop-first l = Going (length l.fn.marks) l.marks l.rest l.constants

abbrev pub decreases-loop-first : goal.decreases-loop-first
decreases-loop-first l = length l.rest
