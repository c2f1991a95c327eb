use Rattle.std.proofs.Common.{◌∙◌, ap}
use Rattle.esa_model.specs.Access.{Operand, codes}
use Rattle.esa_model.specs.Word.{first_code}
use Rattle.operand_access.specs.Seen.{memory}
use Rattle.operand_access.proofs.Codes.{code_sized}
use Rattle.operand_access.proofs.protection.refused.Goals as goal

pub returns : goal.returns
returns c = λ storage e.
    c.code_within.ensures
    ∙ (code_sized c.args.r.now storage c.args.keys.now c.args.size c.whole.result e
    ∙ ap (λ (o : Operand). first_code (codes c.args.r.now (memory storage c.args.keys.now) o)) c.whole.ensures.whole)
