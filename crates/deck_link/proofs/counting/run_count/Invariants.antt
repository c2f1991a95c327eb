use Rattle.std.proofs.Common.{◌≡◌, ◌≤◌, ◌+◌, ◌-◌, ℕ, false, get_or, length}
use Rattle.deck_cards.specs.TextCards.{runs, runs_of}
use Rattle.deck_link.proofs.counting.run_count.Given as goal

abbrev pub invariant-loop-i : goal.invariant-loop-i
invariant-loop-i l = record {
  so : (f : ℕ → ℕ) → l.counted.closed + length (runs (λ k. get_or l.stands k false) f (l.i - l.counted.held) l.counted.held (length l.stands - l.i)) ≡ length (runs_of (λ k. get_or l.stands k false) f (length l.stands));
  few : l.counted.held ≤ 56;
  held : l.counted.held ≤ l.i;
  low : l.counted.closed ≤ l.i;
}
