use Rattle.std.proofs.Common.{◌≡◌, map, take}
use Rattle.deck_loader.specs.ItemKeys.{name_key}
use Rattle.deck_loader.proofs.keys.name_keys.Given as goal

abbrev pub invariant-loop-i : goal.invariant-loop-i
invariant-loop-i l = l.keys.items ≡ map name_key (take l.i-index l.items)
