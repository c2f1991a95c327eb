use Rattle.std.proofs.Common.{◌≡◌, ◌∙◌, ap, arith}
use Rattle.word_rows.proofs.Selected.{places_all, places_below}
use Rattle.word_rows.proofs.masks.places_of.Goals as goal

pub returns-clause-places : goal.returns-clause-places
returns-clause-places c =
    let e : c.loop-k.k ≡ 4 = omega (arith, c.loop-k.auto.k-end, c.loop-k-test.false) in
    c.loop-k.invariant.places ∙ (ap (places_below c.args.mask) e ∙ places_all c.args.mask)
