use Rattle.std.proofs.Common.{arith, sym}
use Rattle.std.proofs.lemmas.Bool.Decides.{nat_tests}
use Rattle.run_model.specs.Script.{is_line_feed}
use Rattle.fault_script.proofs.Cuts.{first_at}
use Rattle.fault_script.proofs.parsing.line_len.Goals as goal

pub returns-then-b-eq10-clause-value : goal.returns-then-b-eq10-clause-value
returns-then-b-eq10-clause-value c = let e = c.if-b-eq10.true in sym (first_at is_line_feed c.args.text.now c.loop-i.i (omega arith) c.loop-i.invariant (grind (arith, nat_tests)))
