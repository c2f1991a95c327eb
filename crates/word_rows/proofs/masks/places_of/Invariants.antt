use Rattle.std.proofs.Common.{◌≡◌, ◌≤◌, length}
use Rattle.word_rows.proofs.Selected.{places_below}
use Rattle.word_rows.proofs.masks.places_of.Given as goal

abbrev pub invariant-loop-k : goal.invariant-loop-k
invariant-loop-k l = record {
  places : l.out.items ≡ places_below l.mask l.k;
  room : length l.out.items ≤ l.k;
}
