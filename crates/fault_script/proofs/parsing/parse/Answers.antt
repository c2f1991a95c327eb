use Rattle.std.proofs.Common.{arith, ap}
use Rattle.run_model.specs.Script.{lines}
use Rattle.run_model.specs.Script.{strikes_from, script}
use Rattle.fault_script.proofs.parsing.parse.Goals as goal

pub loop-line-init : goal.loop-line-init
unfolding script
loop-line-init c = record { so = ap (λ f. strikes_from 1 f (lines c.args.text.now)) c.new-gathered.ensures; numbered = omega arith }
