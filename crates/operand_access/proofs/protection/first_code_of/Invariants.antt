use Rattle.std.proofs.Common.{◌≡◌, ◌+◌, drop}
use Rattle.std.specs.Prelude.{map}
use Rattle.esa_model.specs.Word.{first_code}
use Rattle.operand_access.specs.Seen.{permit_in}
use Rattle.operand_access.proofs.protection.first_code_of.Given as goal

abbrev pub invariant-loop-k : goal.invariant-loop-k
invariant-loop-k l =
    first_code (map (λ k. permit_in l.r l.size l.keys l.store (l.at + k)) l.offsets)
    ≡ first_code (map (λ k. permit_in l.r l.size l.keys l.store (l.at + k)) (drop l.k-index l.offsets))
