use Rattle.std.proofs.Common.{◌++◌, ◌∙◌, ap}
use Rattle.deck_model.specs.CardWriting.{card_bytes}
use Rattle.deck_gen.specs.Parts.{blank_sequence}
use Rattle.deck_gen.proofs.TextCards.{deck_put}
use Rattle.deck_gen.proofs.cards.deck_of.Goals as goal

pub returns-clause-deck : goal.returns-clause-deck
returns-clause-deck c =
    let x = c.args.draws.now in
    let a = c.in_ok-put_card.ensures in
    let b = c.in_ok-put_text_cards.ensures in
    let d = c.in_ok-put_card-2.ensures in
    let e = c.in_ok-put_card-3.ensures in
    let t = c.deref.ensures.value ∙ c.in_ok-text.ensures.text in
    deck_put x _ _ _ _ c.deref.result.now c.section_card.result c.restart_card.result
    (a ∙ ap (λ xs. xs ++ card_bytes c.section_card.result blank_sequence) c.in_ok-deck.ensures.items)
    b d e t c.section_card.ensures.value c.restart_card.ensures.value
