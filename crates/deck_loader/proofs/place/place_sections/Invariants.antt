use Rattle.std.proofs.Common.{◌≡◌, ◌≤◌, ◌<◌, ◌+◌, ◌*◌, ◌^◌, ◌++◌, All, length}
use Rattle.deck_model.specs.declared.decks.Placed.{Placed}
use Rattle.deck_model.specs.Image.{place}
use Rattle.deck_loader.proofs.place.place_sections.Given as goal

abbrev pub invariant-loop-item : goal.invariant-loop-item
invariant-loop-item l = record {
  so : l.placed.items ++ place l.from l.texts l.rest ≡ place l.origin l.texts l.items;
  low : l.from + 17179869184 * length l.rest ≤ l.origin + 17179869184 * length l.items;
  each : All (λ (p : Placed). p.at < 2 ^ 63) l.placed.items;
}

abbrev pub decreases-loop-item : goal.decreases-loop-item
decreases-loop-item l = length l.rest
