use Rattle.std.proofs.Common.{◌+◌, ◌<◌, ◌≤◌, subst, sym}
use Rattle.std.specs.Prelude.{IfSome}
use Rattle.esa_model.specs.declared.long_operands.MoveUnit.{MoveUnit}
use Rattle.byte_rows.proofs.Units.{move_few, move_code}
use Rattle.byte_rows.proofs.long.unit_moved.Goals as goal

pub returns-clause-few : goal.returns-clause-few
returns-clause-few c =
    subst (λ (u : MoveUnit). u.copied + u.padded ≤ 256) (sym c.move_unit.ensures)
    (move_few c.args.m.now)

pub returns-clause-code : goal.returns-clause-code
returns-clause-code c =
    subst (λ (u : MoveUnit). IfSome u.cc (λ k. k < 5)) (sym c.move_unit.ensures)
    (move_code c.args.m.now)
