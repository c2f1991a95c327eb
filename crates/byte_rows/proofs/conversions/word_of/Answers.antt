use Rattle.std.proofs.Common.{◌<◌, subst, sym}
use Rattle.esa_model.specs.declared.machine.Value.{Value}
use Rattle.byte_rows.proofs.Codes.{binary_code}
use Rattle.byte_rows.proofs.conversions.word_of.Goals as goal

pub returns-clause-code : goal.returns-clause-code
returns-clause-code c =
    subst (λ (v : Value). v.cc < 5) (sym c.cvb.ensures) (binary_code c.args.field.now)
