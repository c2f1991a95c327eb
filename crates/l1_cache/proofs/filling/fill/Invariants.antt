use Rattle.l1_cache.specs.Filling.{Filling}
use Rattle.l1_cache.proofs.filling.fill.Given as goal

abbrev pub invariant-loop-k : goal.invariant-loop-k
invariant-loop-k l = Filling l.k l.line l.storage l.fn.bytes l.bytes
