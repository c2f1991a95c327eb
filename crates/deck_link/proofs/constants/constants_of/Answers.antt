use Rattle.std.proofs.Common.{◌∙◌, ap}
use Rattle.deck_link.specs.Constants.{constants_for}
use Rattle.deck_link.proofs.constants.constants_of.Goals as goal

pub returns : goal.returns
returns c =
    let deck = c.args.deck.now in
    c.in_ok-constants.ensures ∙ ap (constants_for deck.lists.items.items deck.placed.items) c.deref.ensures.value
