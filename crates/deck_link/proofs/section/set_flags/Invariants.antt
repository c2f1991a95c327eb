use Rattle.std.proofs.Common.{◌≡◌, ℕ, ◌||◌, false, get_or, length}
use Rattle.deck_cards.specs.TextCards.{reaches}
use Rattle.deck_link.proofs.section.set_flags.Given as goal

abbrev pub invariant-loop-i : goal.invariant-loop-i
invariant-loop-i l = record {
  flags : (k : ℕ) → get_or l.on k false ≡ (reaches l.at l.i k || get_or l.fn.on k false);
  long : length l.on ≡ length l.fn.on;
}
