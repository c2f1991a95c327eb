use Rattle.std.proofs.Common.{◌≡◌, ◌-◌, get_or}
use Rattle.deck_link.specs.Marks.{hits}
use Rattle.deck_link.proofs.clashes.is_hit.Given as goal

abbrev pub invariant-loop-i : goal.invariant-loop-i
invariant-loop-i l = hits (λ k. get_or l.marks k 0) l.at l.width l.i (l.width - l.i) ≡ hits (λ k. get_or l.marks k 0) l.at l.width 0 l.width
