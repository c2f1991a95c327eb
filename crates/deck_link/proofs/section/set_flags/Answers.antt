use Rattle.std.proofs.Common.{◌+◌, true, false, get_or, refl, ◌∙◌, arith, length-set}
use Rattle.deck_link.proofs.Flags.{none_flagged, one_flagged}
use Rattle.deck_link.proofs.section.set_flags.Goals as goal

pub loop-i-init : goal.loop-i-init
loop-i-init c = record { flags = λ k. none_flagged c.args.at k (get_or c.args.on.now k false); long = refl }

pub loop-i-preserved : goal.loop-i-preserved
loop-i-preserved c =
    let l = c.loop-i in
    record {
      flags = λ k. one_flagged c.args.at l.i k l.on c.args.on.now (let x = l.invariant.long in let y = c.requires in let z = c.loop-i-test.true in omega (arith, x, y, z)) (l.invariant.flags k);
      long = length-set l.on (c.args.at + l.i) true ∙ l.invariant.long;
    }
