use Rattle.std.proofs.Common.{◌∙◌, sym, length}
use Rattle.operand_access.proofs.Codes.{code_sized, operand_inside}
use Rattle.operand_access.proofs.protection.operand_code.Goals as goal

pub returns-clause-code : goal.returns-clause-code
returns-clause-code g c =
    c.code_within.ensures ∙ code_sized c.args.r.now (g.V.View.bytes c.args.view.now) c.args.keys.now c.size.result c.args.o.now c.size.ensures.size

pub returns-clause-inside : goal.returns-clause-inside
returns-clause-inside g c = λ h.
    operand_inside c.args.r.now c.args.keys.now c.size.result (length (g.V.View.bytes c.args.view.now)) c.args.o.now c.size.ensures.size
    (sym c.code_within.ensures ∙ h)
