use Rattle.std.proofs.Common.{◌≡◌, drop}
use Rattle.run_model.specs.Strikes.{store_bit}
use Rattle.silicon.proofs.passing.store_of.Given as goal

abbrev pub invariant-loop-s : goal.invariant-loop-s
invariant-loop-s l = store_bit (drop l.s-index l.strikes) l.core.0 l.n ≡ store_bit l.strikes l.core.0 l.n
