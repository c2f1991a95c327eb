use Rattle.std.proofs.Common.{◌∙◌, sym, length}
use Rattle.operand_access.proofs.Codes.{turn_sized, turn_inside}
use Rattle.operand_access.proofs.protection.code_in_turn.Goals as goal

pub returns-clause-code : goal.returns-clause-code
returns-clause-code g c =
    c.code_in_turn_within.ensures
    ∙ turn_sized c.args.r.now (g.V.View.bytes c.args.view.now) c.args.keys.now c.size.result c.args.a.now c.args.b.now c.size.ensures.size

pub returns-clause-first : goal.returns-clause-first
returns-clause-first g c = λ h.
    (turn_inside c.args.r.now c.args.keys.now c.size.result (length (g.V.View.bytes c.args.view.now)) c.args.a.now c.args.b.now
    c.size.ensures.size c.requires (sym c.code_in_turn_within.ensures ∙ h)).0

pub returns-clause-second : goal.returns-clause-second
returns-clause-second g c = λ h.
    (turn_inside c.args.r.now c.args.keys.now c.size.result (length (g.V.View.bytes c.args.view.now)) c.args.a.now c.args.b.now
    c.size.ensures.size c.requires (sym c.code_in_turn_within.ensures ∙ h)).1
