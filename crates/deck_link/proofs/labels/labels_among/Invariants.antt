use Rattle.std.proofs.Common.{◌≡◌, ◌++◌, None, length}
use Rattle.std.specs.List.{find}
use Rattle.link_model.specs.Link.{is_far_label}
use Rattle.link_model.specs.Linked.{name_labels}
use Rattle.deck_link.proofs.labels.labels_among.Given as goal

abbrev pub invariant-loop-first : goal.invariant-loop-first
invariant-loop-first l = record {
  so : l.labels.items ++ name_labels l.deck.placed.items l.rest ≡ name_labels l.deck.placed.items l.items;
  near : find (is_far_label l.deck.placed.items) l.rest ≡ None;
}

abbrev pub decreases-loop-first : goal.decreases-loop-first
decreases-loop-first l = length l.rest
