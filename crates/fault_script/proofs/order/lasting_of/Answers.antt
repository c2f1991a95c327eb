use Rattle.std.proofs.Common.{take}
use Rattle.fault_script.proofs.Forms.{ranges_take, ranges_lasting}
use Rattle.fault_script.proofs.order.lasting_of.Goals as goal

pub returns-clause-ranges : goal.returns-clause-ranges
returns-clause-ranges c = rw c.loop-s.invariant (ranges_lasting (take c.loop-s.s-index c.args.strikes.now) (ranges_take c.args.strikes.now c.loop-s.s-index c.requires))
