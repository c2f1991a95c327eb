use Rattle.std.proofs.Common.{◌<◌, subst, sym}
use Rattle.std.specs.Prelude.{IfSome}
use Rattle.esa_model.specs.declared.long_operands.CompareUnit.{CompareUnit}
use Rattle.byte_rows.proofs.Units.{compare_code}
use Rattle.byte_rows.proofs.long.unit_compared.Goals as goal

pub returns-clause-code : goal.returns-clause-code
returns-clause-code c =
    subst (λ (u : CompareUnit). IfSome u.cc (λ k. k < 5)) (sym c.compare_unit.ensures)
    (compare_code c.args.first.now c.args.second.now c.args.c.now)
