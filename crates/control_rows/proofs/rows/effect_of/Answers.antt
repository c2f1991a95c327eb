-- A row stores no more bytes than its operand has.
use Rattle.std.proofs.Common.{false, true}
use Rattle.esa_model.specs.ControlRows.{stored_len}
use Rattle.esa_model.specs.Line.{second_at}
use Rattle.esa_model.specs.Rows.Controls.{controls_line}
use Rattle.control_rows.proofs.Covered.{covers_within}
use Rattle.control_rows.proofs.rows.effect_of.Goals as goal

pub returns-in-Storing-clause-covers : goal.returns-in-Storing-clause-covers
unfolding controls_line
returns-in-Storing-clause-covers g c =
    let len = stored_len c.args.opcode c.args.i.now.decoded in
    let at = second_at c.args.r.now c.args.i.now.decoded in
    let e = c.storing_effect.result in
    let known = c.storing_effect.ensures in
    rw c.in-Storing.is
    (covers_within at len false true e known.bytes known.console_out)
