use Rattle.std.proofs.Common.{◌≡◌, ◌++◌, [], ◌∷◌, List, subst, sym}
use Rattle.deck_model.specs.declared.cards.RldItem.{RldItem}
use Rattle.deck_cards.specs.RelocationCards.{SharePointers}
use Rattle.deck_cards.proofs.RelocationSteps.{shared_push}
use Rattle.deck_cards.proofs.relocations.add.Goals as goal

pub returns-clause-shared : goal.returns-clause-shared
returns-clause-shared c =
    let t = c.args.target in
    let p = c.args.place in
    let P : List RldItem → Type 0 = λ is. SharePointers t p is in
    let r = c.requires in
    subst P (sym c.push.ensures.items)
    (shared_push t p c.args.held.items.items c.args.item r.shared (r.target, r.place, r.fits))
