use Rattle.std.proofs.Common.{◌≡◌, take}
use Rattle.deck_cards.proofs.texts.bytes_of.Given as goal

abbrev pub invariant-loop-b : goal.invariant-loop-b
invariant-loop-b l = l.bytes.items ≡ take l.b-index l.from
