use Rattle.std.proofs.Common.{◌≡◌, ℕ, ◌||◌, false, get_or, length}
use Rattle.std.specs.List.{list_any}
use Rattle.deck_loader.specs.Written.{AreInside}
use Rattle.link_model.specs.Linked.{text_reaches}
use Rattle.deck_link.proofs.section.flag_texts.Given as goal

abbrev pub invariant-loop-first : goal.invariant-loop-first
invariant-loop-first l = record {
  flags : (k : ℕ) → (list_any (text_reaches l.deck.placed.items k) l.rest || get_or l.on k false) ≡ (list_any (text_reaches l.deck.placed.items k) l.texts || get_or l.fn.on k false);
  inside : AreInside l.deck.placed.items (length l.on) l.rest;
  long : length l.on ≡ length l.fn.on;
}

abbrev pub decreases-loop-first : goal.decreases-loop-first
decreases-loop-first l = length l.rest
