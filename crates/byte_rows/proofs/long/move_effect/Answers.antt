-- No more bytes are stored than the operand has.
use Rattle.std.proofs.Common.{◌≡◌, ◌+◌, ◌∙◌, ap, arith}
use Rattle.esa_model.specs.Psw.{is_wide}
use Rattle.esa_model.specs.declared.long_operands.MoveUnit.{MoveUnit}
use Rattle.esa_model.specs.LongMoves.{long_operands, move_row}
use Rattle.byte_rows.proofs.Covered.{covered}
use Rattle.byte_rows.proofs.long.move_effect.Goals as goal

pub returns-clause-covers : goal.returns-clause-covers
returns-clause-covers g c =
    let r = c.args.r.now in
    let d = c.args.i.now.decoded in
    let v : MoveUnit = c.unit_moved-u.result in
    let u : MoveUnit = move_row (long_operands r.general d.r1 d.r2 (is_wide r.psw)) in
    let same : v ≡ u = c.unit_moved-u.ensures.unit ∙ ap move_row c.operands_of-m.ensures in
    let sum : v.copied + v.padded ≡ u.copied + u.padded
    = ap (λ (v : MoveUnit). v.copied + v.padded) same in
    let out = c.stored.ensures.short in
    covered _ _ _ _ _ _
    (omega (arith, sum, out, c.padded-out.ensures.len, c.bytes_of-copied.ensures.len))
    c.stored.ensures.console
