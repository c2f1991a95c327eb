use Rattle.std.proofs.Common.{◌≡◌, drop}
use Rattle.run_model.specs.Strikes.{fetch_bit}
use Rattle.silicon.proofs.passing.fetch_of.Given as goal

abbrev pub invariant-loop-s : goal.invariant-loop-s
invariant-loop-s l = fetch_bit (drop l.s-index l.strikes) l.core.0 l.n ≡ fetch_bit l.strikes l.core.0 l.n
