use Rattle.std.proofs.Common.{◌≡◌, ℕ, ◌<◌, map, take, get_or}
use Rattle.deck_model.specs.declared.decks.Item.{Item}
use Rattle.deck_loader.specs.ItemKeys.{id_key}
use Rattle.deck_loader.proofs.keys.id_keys.Given as goal

abbrev pub invariant-loop-i : goal.invariant-loop-i
invariant-loop-i l = record {
  so : l.keys.items ≡ map id_key (take l.i-index l.items);
  ids : (k : ℕ) (d : Item) → k < l.i-index → (get_or l.items k d).id < 4294967296;
}
