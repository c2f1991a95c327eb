use Rattle.std.proofs.Common.{◌≡◌, drop}
use Rattle.std.specs.List.{find}
use Rattle.deck_model.specs.Image.{has_length}
use Rattle.deck_loader.proofs.entry.default_entry_of.Given as goal

abbrev pub invariant-loop-p : goal.invariant-loop-p
invariant-loop-p l = find has_length (drop l.p-index l.placed) ≡ find has_length l.placed
