use Rattle.std.proofs.Common.{◌≡◌, ℕ, ◌<◌, map, take, get_or}
use Rattle.deck_model.specs.declared.decks.Placed.{Placed}
use Rattle.deck_loader.specs.ItemKeys.{placed_key}
use Rattle.deck_loader.proofs.keys.placed_keys.Given as goal

abbrev pub invariant-loop-p : goal.invariant-loop-p
invariant-loop-p l = record {
  so : l.keys.items ≡ map placed_key (take l.p-index l.placed);
  ids : (k : ℕ) (d : Placed) → k < l.p-index → (get_or l.placed k d).item.id < 4294967296;
}
