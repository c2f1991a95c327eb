use Rattle.std.proofs.Common.{◌<◌, subst}
use Rattle.esa_model.specs.DecimalRows.{Decimal}
use Rattle.byte_rows.proofs.Codes.{two_code}
use Rattle.byte_rows.proofs.fields.two_fields.Goals as goal

pub returns-clause-code : goal.returns-clause-code
returns-clause-code c =
    subst (λ (d : Decimal). d.value.cc < 5) c.two.ensures
    (two_code c.args.op c.args.first.now c.args.second.now)
