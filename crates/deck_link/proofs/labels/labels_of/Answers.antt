use Rattle.std.proofs.Common.{◌≡◌, None, List, sym, ◌∙◌, ap, subst}
use Rattle.std.specs.List.{find}
use Rattle.deck_model.specs.declared.decks.Item.{Item}
use Rattle.link_model.specs.Link.{is_far_label}
use Rattle.link_model.specs.Linked.{name_labels}
use Rattle.deck_link.proofs.labels.labels_of.Goals as goal

pub labels_among-requires-clause-near : goal.labels_among-requires-clause-near
labels_among-requires-clause-near c =
    let ps = c.args.deck.now.placed.items in
    let P : List Item → Type 0 = λ is. find (is_far_label ps) is ≡ None in
    subst P (sym c.deref.ensures.value) c.requires.near

pub returns : goal.returns
returns c = c.in_ok-labels.ensures ∙ ap (name_labels c.args.deck.now.placed.items) c.deref.ensures.value
