use Rattle.std.proofs.Common.{◌∙◌, arith}
use Rattle.operand_access.proofs.Over.{over_more, over_end}
use Rattle.operand_access.proofs.bytes.overlaid.Goals as goal

pub loop-k-preserved : goal.loop-k-preserved
loop-k-preserved c = λ storage h e. let before = c.loop-k.invariant storage h e in
    let more = over_more c.args.r.now c.args.at c.args.bytes.now storage c.loop-k.k c.args.a c.loop-k-test.true h in
    grind (arith, before, more, c.chosen-byte.ensures, c.place_of.ensures)

pub returns : goal.returns
returns c = λ storage h e. c.loop-k.invariant storage h e ∙ over_end c.args.r.now c.args.at c.args.bytes.now storage c.loop-k.k c.args.a (omega arith)
