use Rattle.std.proofs.Common.{◌≡◌, drop}
use Rattle.std.specs.List.{find}
use Rattle.deck_model.specs.Image.{item_number}
use Rattle.link_model.specs.Link.{is_far_label}
use Rattle.deck_link.proofs.labels.first_far.Given as goal

abbrev pub invariant-loop-i : goal.invariant-loop-i
invariant-loop-i l = item_number (find (is_far_label l.deck.placed.items) (drop l.i-index l.items)) ≡ item_number (find (is_far_label l.deck.placed.items) l.items)
