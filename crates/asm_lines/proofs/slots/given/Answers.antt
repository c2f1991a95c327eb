use Rattle.std.proofs.Common.{arith, sym, ◌∙◌}
use Rattle.asm_lines.proofs.Operating.{too_few, too_many}
use Rattle.asm_lines.proofs.slots.given.Goals as goal

pub returns-in-Nothing : goal.returns-in-Nothing
returns-in-Nothing c =
    sym (too_few c.args.slots.now c.loop-slot.slot-index c.loop-slot.left c.loop-slot.held
    (omega arith) c.in-Nothing.is)
    ∙ c.loop-slot.invariant

pub returns-in-More-left : goal.returns-in-More-left
returns-in-More-left c =
    sym (too_many c.args.slots.now c.loop-slot.slot-index c.loop-slot.left
    c.in-More-left.field-0 c.loop-slot.held (omega arith) c.in-More-left.is)
    ∙ c.loop-slot.invariant
