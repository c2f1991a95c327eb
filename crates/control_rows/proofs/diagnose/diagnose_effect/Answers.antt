-- A read stores no more bytes than its operand has.
use Rattle.std.proofs.Common.{◌≡◌, ◌∙◌, ap, sym, false, true}
use Rattle.std.specs.Prelude.{Some}
use Rattle.esa_model.specs.ControlRows.{console_called}
use Rattle.esa_model.specs.Line.{general, second_at}
use Rattle.esa_model.specs.Rows.Controls.{text_at}
use Rattle.control_rows.proofs.Covered.{covers_within}
use Rattle.control_rows.proofs.diagnose.diagnose_effect.Goals as goal

pub returns-in-Some-true-clause-covers : goal.returns-in-Some-true-clause-covers
returns-in-Some-true-clause-covers g c =
    let r = c.args.r.now in
    let d = c.args.i.now.decoded in
    let count = general r d.r2 in
    let reads : console_called (second_at r d) count ≡ Some true =
    sym c.function_called.ensures.called ∙ (c.in-Some-true.is ∙ ap Some c.in-Some-true.field-0-test) in
    let at = text_at r d in
    let known = c.read.ensures in
    rw reads (covers_within at count false true c.read.result known.short known.console_out)
