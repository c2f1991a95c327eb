use Rattle.std.proofs.Common.{◌≡◌, ◌+◌, drop}
use Rattle.std.specs.Prelude.{map}
use Rattle.esa_model.specs.Word.{first_code}
use Rattle.esa_model.specs.Access.{in_turn}
use Rattle.operand_access.specs.Seen.{permit_in}
use Rattle.operand_access.proofs.protection.code_in_turn_within.Given as goal

abbrev pub invariant-loop-k : goal.invariant-loop-k
invariant-loop-k l =
    first_code (in_turn
    (map (λ k. permit_in l.r l.size l.keys l.a.store (l.a.at + k)) l.a.offsets)
    (map (λ k. permit_in l.r l.size l.keys l.b.store (l.b.at + k)) l.b.offsets))
    ≡ first_code (in_turn
    (map (λ k. permit_in l.r l.size l.keys l.a.store (l.a.at + k)) (drop l.k l.a.offsets))
    (map (λ k. permit_in l.r l.size l.keys l.b.store (l.b.at + k)) (drop l.k l.b.offsets)))
