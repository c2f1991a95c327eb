use Rattle.std.proofs.Common.{◌≡◌, ◌≤◌, max, false, length}
use Rattle.std.specs.List.{list_any}
use Rattle.deck_model.specs.Image.{has_no_room}
use Rattle.link_model.specs.Linked.{whole_length}
use Rattle.deck_link.proofs.section.section_length.Given as goal

abbrev pub invariant-loop-first : goal.invariant-loop-first
invariant-loop-first l = record {
  so : max l.end (whole_length l.rest) ≡ whole_length l.placed;
  room : list_any (has_no_room 16711680) l.rest ≡ false;
  small : l.end ≤ 16711680;
}

abbrev pub decreases-loop-first : goal.decreases-loop-first
decreases-loop-first l = length l.rest
