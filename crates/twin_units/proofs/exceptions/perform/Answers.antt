use Rattle.std.proofs.Common.{◌≡◌, arith}
use Rattle.esa_model.specs.Access.{refused}
use Rattle.operand_access.specs.Seen.{memory}
use Rattle.twin_units.proofs.exceptions.perform.Goals as goal

pub returns-then-is_problem-clause-sound : goal.returns-then-is_problem-clause-sound
returns-then-is_problem-clause-sound g c = λ m at. c.stop.ensures.sound m c.args.cpu.0

pub returns-then-not-in_order-clause-sound : goal.returns-then-not-in_order-clause-sound
returns-then-not-in_order-clause-sound g c = λ m at. c.stop-then-not-in_order.ensures.sound m c.args.cpu.0

pub returns-then-code-ne0-clause-sound : goal.returns-then-code-ne0-clause-sound
returns-then-code-ne0-clause-sound g c = λ m at. c.stop-then-code-ne0.ensures.sound m c.args.cpu.0

pub returns-then-e-ne0-clause-sound : goal.returns-then-e-ne0-clause-sound
returns-then-e-ne0-clause-sound g c = λ m at. c.stop-then-e-ne0.ensures.sound m c.args.cpu.0

pub returns-clause-sound : goal.returns-clause-sound
returns-clause-sound g c = λ m at.
    let here : refused c.args.r.now (memory (g.V.View.bytes c.args.view.now) c.args.side.now.keys) c.operands-os.result ≡ 0 =
    grind (arith, c.refusal_of-code.ensures.code, c.if-code-ne0.false, c.operands-os.ensures.same) in
    c.complete.ensures.sound m c.args.cpu.0 (g.V.View.bytes c.args.view.now) c.args.side.now at here
    c.effect_of-e.ensures.reads c.effect_of-e.ensures.sends c.effect_of-e.ensures.sets
