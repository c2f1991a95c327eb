use Rattle.std.proofs.Common.{◌≡◌, ℕ, ◌||◌, false, get_or, length}
use Rattle.std.specs.List.{list_any}
use Rattle.deck_link.specs.Constants.{ConstantsIn, reached}
use Rattle.deck_link.proofs.section.flag_constants.Given as goal

abbrev pub invariant-loop-first : goal.invariant-loop-first
invariant-loop-first l = record {
  flags : (k : ℕ) → (list_any (reached k) l.rest || get_or l.on k false) ≡ (list_any (reached k) l.constants || get_or l.fn.on k false);
  inside : ConstantsIn (length l.on) l.rest;
  long : length l.on ≡ length l.fn.on;
}

abbrev pub decreases-loop-first : goal.decreases-loop-first
decreases-loop-first l = length l.rest
