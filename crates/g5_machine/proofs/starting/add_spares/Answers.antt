use Rattle.std.proofs.Common.{ap}
use Rattle.run_model.specs.declared.faults.CoreNo.{CoreNo}
use Rattle.g5_machine.proofs.Starts.{one_spare}
use Rattle.g5_machine.proofs.starting.add_spares.Goals as goal

pub loop-j-preserved : goal.loop-j-preserved
loop-j-preserved c =
    one_spare c.loop-j.j c.new.result c.loop-j.pool c.add.new.self
    (ap (λ (k : CoreNo). k.0) c.new.ensures) c.loop-j.invariant c.add.ensures
