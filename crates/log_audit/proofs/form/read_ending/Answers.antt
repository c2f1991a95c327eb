use Rattle.std.proofs.Common.{◌+◌, ◌∙◌, sym, arith}
use Rattle.log_audit.specs.Form.{fed_lines}
use Rattle.log_audit.proofs.Cutting.{ending_step}
use Rattle.log_audit.proofs.form.read_ending.Goals as goal

pub loop-after-preserved : goal.loop-after-preserved
loop-after-preserved c = record {
  ends =
      sym
      (ending_step (c.loop-after.number + 1) (fed_lines c.loop-after.rest.now) c.in-Some.field-0-0
      (fed_lines c.in-Some.after.now) c.in-Some.ensures.some)
      ∙ c.loop-after.invariant.ends;
  numbered = omega (arith, c.loop-after.invariant.numbered, c.in-Some.ensures.shorter);
}
