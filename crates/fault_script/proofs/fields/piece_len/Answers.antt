use Rattle.std.proofs.Common.{arith, sym}
use Rattle.std.proofs.lemmas.Bool.Decides.{nat_tests}
use Rattle.run_model.specs.Script.{is_blank}
use Rattle.fault_script.proofs.Cuts.{first_at}
use Rattle.fault_script.proofs.fields.piece_len.Goals as goal

pub returns-then-b-eq32-clause-value : goal.returns-then-b-eq32-clause-value
returns-then-b-eq32-clause-value c = let e = c.if-b-eq32.true in sym (first_at is_blank c.args.text.now c.loop-i.i (omega arith) c.loop-i.invariant (grind (arith, nat_tests)))
