use Rattle.std.proofs.Common.{◌≡◌, ℕ, ◌<◌, List, length, get_or, take}
use Rattle.esa_model.specs.Access.{written}
use Rattle.operand_access.proofs.bytes.overlaid.Given as goal

abbrev pub invariant-loop-k : goal.invariant-loop-k
invariant-loop-k l = (storage : List ℕ) → l.a < length storage → get_or storage l.a 0 ≡ l.before → l.byte ≡ get_or (written l.r l.at (take l.k l.bytes) storage) l.a 0
