use Rattle.std.proofs.Common.{◌≡◌}
use Rattle.runit_ecc.specs.Syndrome.{set_checks}
use Rattle.runit_ecc.proofs.parity.with_all_checks.Given as goal

abbrev pub invariant-loop-j : goal.invariant-loop-j
invariant-loop-j l = l.r ≡ set_checks l.j l.s l.w
