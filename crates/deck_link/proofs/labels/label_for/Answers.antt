use Rattle.std.proofs.Common.{arith}
use Rattle.deck_link.proofs.Made.{label_low}
use Rattle.deck_link.proofs.labels.label_for.Goals as goal

pub overflow_cast-result : goal.overflow_cast-result
overflow_cast-result c =
    let r = c.requires in
    let low = label_low c.args.deck.now.placed.items c.args.i.now r.small r.named r.near in
    let e = c.name_place_for.ensures in
    omega (arith, low, e)
