use Rattle.std.proofs.Common.{◌≡◌, ℕ, Bool, false, [], ◌∷◌, ◌++◌, get_or, slice_index, length, length-take-le, map, ◌∙◌, ap, arith}
use Rattle.deck_model.specs.Card.{esd}
use Rattle.deck_model.specs.CardWriting.{card_bytes}
use Rattle.deck_cards.specs.NumberedCards.{sequence, deck_bytes}
use Rattle.deck_cards.specs.RelocationCards.{rld_cards}
use Rattle.deck_cards.specs.TextCards.{runs_of, text_cards}
use Rattle.link_model.specs.Linked.{one_section, label_card, end_card}
use Rattle.deck_link.specs.Parts.{runs_in}
use Rattle.deck_link.proofs.Composing.{composed}
use Rattle.deck_link.proofs.Counts.{cards_count}
use Rattle.deck_link.proofs.Flags.{taken_runs}
use Rattle.deck_link.proofs.cards.deck_of.Goals as goal

pub push_relocations-requires-clause-numbers : goal.push_relocations-requires-clause-numbers
push_relocations-requires-clause-numbers c =
    let p = c.args.parts.now in
    let all = cards_count p.extent p.entry p.labels.items (runs_in p) p.items.items in
    let few = c.requires.few in
    let low = c.requires.fit.low in
    let labels : length c.deref.result.now ≡ length p.labels.items = ap length c.deref.ensures.value in
    let items : length c.deref-3.result.now ≡ length p.items.items = ap length c.deref-3.ensures.value in
    let text : length c.text_of.result.now ≡ p.extent = ap length c.text_of.ensures ∙ length-take-le p.extent p.storage c.requires.fit.text in
    let n = c.in_ok-texts.ensures.number in
    let m = c.in_ok-relocations.ensures.numbers in
    omega (arith, all, few, low, labels, items, text, n, m)

pub returns : goal.returns
returns c =
    let p = c.args.parts.now in
    let bytes = c.text_of.result.now in
    let on : ℕ → Bool = λ k. get_or p.stands.items k false in
    let x = c.push_card.new.out.items in
    let y = c.push_labels.new.out.items in
    let z = c.push_texts.new.out.items in
    let w = c.push_relocations.new.out.items in
    let n = c.in_ok-texts.texts in
    let m = c.in_ok-relocations.relocations in
    let k = c.in_ok-last.last in
    composed (esd 1 (one_section p.extent ∷ [])) (end_card p.entry) (map label_card p.labels.items) (text_cards 1 (runs_in p)) (λ more. rld_cards more [] p.items.items) x y z w c.push_card-2.new.out.items n m k
    (c.in_ok-push_card.ensures ∙ (ap (λ xs. xs ++ card_bytes c.section_card.result (sequence 1)) c.new-deck.ensures.items ∙ ap (λ q. card_bytes q (sequence 1)) c.section_card.ensures.card))
    (λ rest. c.in_ok-texts.ensures.cards rest ∙ ap (λ xs. x ++ deck_bytes 2 (map label_card xs ++ rest)) c.deref.ensures.value)
    (λ rest. c.in_ok-relocations.ensures.cards rest
    ∙ (ap (λ xs. y ++ deck_bytes n (text_cards 1 (runs_of (λ j. get_or xs j false) (slice_index bytes) (length bytes)) ++ rest)) c.deref-2.ensures.value
    ∙ ap (λ rs. y ++ deck_bytes n (text_cards 1 rs ++ rest)) (taken_runs on p.extent p.storage bytes c.requires.fit.text c.text_of.ensures)))
    (λ rest. c.in_ok-last.ensures.cards rest ∙ ap (λ xs. z ++ deck_bytes m (rld_cards rest [] xs)) c.deref-3.ensures.value)
    (c.in_ok-push_card-2.ensures ∙ ap (λ q. w ++ card_bytes q (sequence k)) c.last_card.ensures.card)
