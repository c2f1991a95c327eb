use Rattle.deck_cards.proofs.RelocationSteps.{card_of_shared}
use Rattle.deck_cards.proofs.relocations.rld_card.Goals as goal

pub returns-clause-fits : goal.returns-clause-fits
returns-clause-fits c =
    card_of_shared c.args.target c.args.place c.args.items.items c.requires.some c.requires.few
    c.requires.shared
