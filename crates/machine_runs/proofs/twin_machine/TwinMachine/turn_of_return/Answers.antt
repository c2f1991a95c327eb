-- What the machine says of a core that is returned.
use Rattle.run_model.specs.declared.schedules.RunKind.TheVariants.{Return}
use Rattle.g5_machine.specs.Turning.{return_told}
use Rattle.machine_runs.specs.declared.twin_machine.TwinMachine.{TwinMachine}
use Rattle.machine_runs.proofs.Giving.{gives_by, plain_says, return_hands, return_struck}
use Rattle.machine_runs.proofs.twin_machine.TwinMachine.turn_of_return.Goals as goal

pub returns-clause-gives : goal.returns-clause-gives
returns-clause-gives c = λ z v ready.
    let e : TwinMachine = c.args.self.now in
    let m2 = c.return_core-entry.new.self in
    let entry = c.return_core-entry.result in
    let f = c.return_core-entry.ensures in
    rw c.tell_alone.ensures.told
    (gives_by (Return c.args.core) e (record e { machine = m2 }) z z v v (return_told entry) ready
    (plain_says (Return c.args.core) e m2 z v (return_told entry) (return_hands c.args.core) f.turns f.config f.obeys
    (f.follows z))
    (return_struck e m2 z c.args.core entry ready f.obeys))
