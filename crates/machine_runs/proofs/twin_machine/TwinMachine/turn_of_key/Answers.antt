-- What the machine says of its interrupt key.
use Rattle.run_model.specs.declared.schedules.RunKind.TheVariants.{Key}
use Rattle.g5_machine.specs.Turning.{key_told}
use Rattle.machine_runs.specs.declared.twin_machine.TwinMachine.{TwinMachine}
use Rattle.machine_runs.proofs.Giving.{gives_by, key_hands, none_struck, plain_says}
use Rattle.machine_runs.proofs.twin_machine.TwinMachine.turn_of_key.Goals as goal

pub returns-clause-gives : goal.returns-clause-gives
returns-clause-gives c = λ z v ready.
    let e : TwinMachine = c.args.self.now in
    let m2 = c.key.new.self in
    let f = c.key.ensures in
    rw c.tell_alone.ensures.told
    (gives_by (Key c.args.cpu) e (record e { machine = m2 }) z z v v (key_told c.args.cpu) ready
    (plain_says (Key c.args.cpu) e m2 z v (key_told c.args.cpu) (key_hands c.args.cpu) f.turns f.config f.obeys
    (f.follows z))
    (none_struck z.lines))
