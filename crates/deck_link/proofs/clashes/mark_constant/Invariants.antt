use Rattle.std.proofs.Common.{◌≡◌, ◌+◌, ◌-◌, length}
use Rattle.deck_model.specs.Image.{bytes_from}
use Rattle.deck_loader.specs.Written.{stored}
use Rattle.deck_link.specs.Marks.{tag}
use Rattle.deck_link.proofs.clashes.mark_constant.Given as goal

abbrev pub invariant-loop-i : goal.invariant-loop-i
invariant-loop-i l = record {
  so : stored (l.at + l.i) (bytes_from (tag l.width) l.i (l.width - l.i)) l.marks ≡ stored l.at (bytes_from (tag l.width) 0 l.width) l.fn.marks;
  long : length l.marks ≡ length l.fn.marks;
}
