use Rattle.std.proofs.Common.{List, sym, subst}
use Rattle.deck_model.specs.declared.cards.RldItem.{RldItem}
use Rattle.deck_cards.specs.RelocationCards.{SharePointers}
use Rattle.deck_link.proofs.Gathered.{shared_items}
use Rattle.deck_link.proofs.constants.moving_items.Goals as goal

pub returns-clause-shared : goal.returns-clause-shared
returns-clause-shared c =
    let P : List RldItem → Type 0 = λ is. SharePointers 1 1 is in
    subst P (sym c.in_ok-items.ensures) (shared_items c.args.constants.now c.requires)
