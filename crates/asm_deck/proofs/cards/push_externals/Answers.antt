use Rattle.std.proofs.Common.{◌≡◌, ◌+◌, ℕ, List, ◌∷◌, ◌++◌, length, refl, sym, ◌∙◌, ap, arith}
use Rattle.deck_model.specs.declared.cards.Card.{Card}
use Rattle.deck_cards.specs.NumberedCards.{deck_bytes}
use Rattle.asm_deck.specs.AssembledCards.{external_cards}
use Rattle.asm_deck.proofs.CardSteps.{one_card}
use Rattle.asm_deck.proofs.cards.push_externals.Goals as goal

pub loop-first-preserved : goal.loop-first-preserved
loop-first-preserved c =
    let l = c.loop-first in
    let x : l.rest.now ≡ c.in-Some.first.now ∷ c.in-Some.after.now = c.in-Some.ensures.cases.0 in
    let old = l.out.items in
    let n = l.invariant.numbers in
    record {
      so = λ more.
          one_card c.external_card.result l.id (l.id + 1) old c.push_card.new.out.items (external_cards (l.id + 1) c.in-Some.after.now ++ more) refl c.in_ok-push_card.ensures
          ∙ (ap (λ y. old ++ deck_bytes l.id (y ∷ (external_cards (l.id + 1) c.in-Some.after.now ++ more))) c.external_card.ensures.card
          ∙ (ap (λ ys. old ++ deck_bytes l.id (external_cards l.id ys ++ more)) (sym x) ∙ l.invariant.so more));
      numbers = let e = ap length x in omega (arith, e, n);
    }
