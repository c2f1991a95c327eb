use Rattle.std.proofs.Common.{◌<◌, subst}
use Rattle.esa_model.specs.DecimalRows.{Decimal}
use Rattle.byte_rows.proofs.Codes.{shift_code}
use Rattle.byte_rows.proofs.fields.shifted.Goals as goal

pub returns-clause-code : goal.returns-clause-code
returns-clause-code c =
    subst (λ (d : Decimal). d.value.cc < 5) c.srp.ensures
    (shift_code c.args.first.now c.args.by c.args.round)
