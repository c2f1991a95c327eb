use Rattle.deck_loader.specs.Listed.{listed}
use Rattle.deck_link.proofs.Deciding.{made_fit, made_long, made_short}
use Rattle.deck_link.proofs.linking.link_sound.Goals as goal

pub card_count-requires : goal.card_count-requires
card_count-requires c =
    let d = c.args.deck.now in
    made_fit (listed d.lists) d.entry c.in-Ok.parts c.requires.sound c.in-Ok.ensures

pub returns-then-card_count-gt-MOST_CARDS-clause-refused :
    goal.returns-then-card_count-gt-MOST_CARDS-clause-refused
returns-then-card_count-gt-MOST_CARDS-clause-refused c =
    let d = c.args.deck.now in
    made_long (listed d.lists) d.entry c.in-Ok.parts c.card_count.result c.requires.sound c.in-Ok.ensures
    c.card_count.ensures c.if-card_count-gt-MOST_CARDS.true

pub deck_of-requires-clause-fit : goal.deck_of-requires-clause-fit
deck_of-requires-clause-fit c =
    let d = c.args.deck.now in
    made_fit (listed d.lists) d.entry c.in-Ok.parts c.requires.sound c.in-Ok.ensures

pub returns-clause-linked : goal.returns-clause-linked
returns-clause-linked c =
    let d = c.args.deck.now in
    made_short (listed d.lists) d.entry c.in-Ok.parts c.card_count.result c.in-Ok-deck_of.linked.items
    c.requires.sound c.in-Ok.ensures c.card_count.ensures c.if-card_count-gt-MOST_CARDS.false
    c.in-Ok-deck_of.ensures
