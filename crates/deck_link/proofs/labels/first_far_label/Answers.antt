use Rattle.std.proofs.Common.{◌∙◌, ap}
use Rattle.std.specs.List.{find}
use Rattle.deck_model.specs.Image.{item_number}
use Rattle.link_model.specs.Link.{is_far_label}
use Rattle.deck_link.proofs.labels.first_far_label.Goals as goal

pub returns : goal.returns
returns c =
    let ps = c.args.deck.now.placed.items in
    c.first_far.ensures ∙ ap (λ is. item_number (find (is_far_label ps) is)) c.deref.ensures.value
