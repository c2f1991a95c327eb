use Rattle.std.proofs.Common.{◌≡◌, ◌++◌, length}
use Rattle.deck_model.specs.Deck.{pointer_uses}
use Rattle.deck_loader.proofs.pushes.push_pointer_uses.Given as goal

abbrev pub invariant-loop-item : goal.invariant-loop-item
invariant-loop-item l = l.uses.items ++ pointer_uses l.number l.owner l.rest ≡ l.fn.uses.items ++ pointer_uses l.number l.owner l.list

abbrev pub decreases-loop-item : goal.decreases-loop-item
decreases-loop-item l = length l.rest
