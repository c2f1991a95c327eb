use Rattle.std.proofs.Common.{length}
use Rattle.log_audit.proofs.Walking.{Passing}
use Rattle.log_audit.proofs.judging.judge.Given as goal

abbrev pub invariant-loop-entry : goal.invariant-loop-entry
invariant-loop-entry l = Passing l.fn.c l.fn.last l.fn.from l.rest l.number l.memory l.tally

abbrev pub decreases-loop-entry : goal.decreases-loop-entry
decreases-loop-entry l = length l.rest
