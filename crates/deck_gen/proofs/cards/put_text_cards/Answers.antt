use Rattle.std.proofs.Common.{◌*◌, ◌++◌, ◌∙◌, ap}
use Rattle.deck_model.specs.Card.{txt}
use Rattle.deck_model.specs.CardWriting.{card_bytes}
use Rattle.deck_gen.specs.Parts.{blank_sequence}
use Rattle.deck_gen.proofs.TextCards.{one_put}
use Rattle.deck_gen.proofs.cards.put_text_cards.Goals as goal

pub loop-i-preserved : goal.loop-i-preserved
loop-i-preserved c =
    let i = c.loop-i.i in
    let rest = c.loop-i.rest.now in
    let out = c.loop-i.deck.items in
    let front = c.split_at.ensures.front in
    let card = c.text_card.ensures.value ∙ ap (txt 1 (56 * i)) front in
    one_put c.args.count i rest c.split_at.result.1.now c.args.text.now out c.args.deck.now.items
    c.put_card.new.deck.items c.loop-i.invariant c.loop-i-test.true
    (c.in_ok-put_card.ensures ∙ ap (λ x. out ++ card_bytes x blank_sequence) card)
    c.split_at.ensures.back
