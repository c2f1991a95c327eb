use Rattle.std.proofs.Common.{◌≡◌, ◌≤◌, ◌*◌}
use Rattle.runit_ecc.specs.Syndrome.{parities}
use Rattle.runit_ecc.proofs.parity.syndrome_of.Given as goal

abbrev pub invariant-loop-j : goal.invariant-loop-j
invariant-loop-j l = record { same : l.syndrome ≡ parities l.j l.w; small : l.syndrome ≤ 64 * l.j }
