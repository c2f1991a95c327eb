-- What the machine says of a turn of a CPU.
use Rattle.std.proofs.Common.{◌-◌, ◌^◌, arith, refl}
use Rattle.run_model.specs.declared.schedules.RunKind.TheVariants.{Turns}
use Rattle.g5_machine.specs.Turning.{told_by}
use Rattle.machine_runs.specs.declared.twin_machine.TwinMachine.{TwinMachine}
use Rattle.machine_runs.proofs.Giving.{begun_small, cpu_says, cpu_struck, gives_by}
use Rattle.machine_runs.proofs.twin_machine.TwinMachine.turn_of_cpu.Goals as goal

pub turn-turn-requires-clause-begun : goal.turn-turn-requires-clause-begun
turn-turn-requires-clause-begun g c =
    begun_small c.args.self.now (g.Z.Silicon.seen c.args.silicon.now) c.args.cpu.0 (2 ^ 64 - 1)
    c.requires.ready c.requires.known (omega (arith, c.requires.room))

pub returns-clause-gives : goal.returns-clause-gives
returns-clause-gives g c =
    let e : TwinMachine = c.args.self.now in
    let e2 : TwinMachine = record {
      machine = c.turn-turn.new.self;
      a = c.turn-turn.new.a;
      b = c.turn-turn.new.b;
    } in
    let y = g.Z.Silicon.seen c.args.silicon.now in
    let z = g.Z.Silicon.seen c.turn-turn.new.z in
    let v = g.Z.Silicon.tape c.args.silicon.now in
    let w = g.Z.Silicon.tape c.turn-turn.new.z in
    let t = c.turn-turn.result in
    let es = c.turn-turn.new.entries.items in
    let f = c.turn-turn.ensures in
    rw c.event_of-told.ensures
    (gives_by (Turns c.args.cpu) e e2 y z v w (told_by c.args.cpu.0 t es c.turn-turn.new.written) c.requires.ready
    (cpu_says e e2 y z v w c.args.cpu t es c.turn-turn.new.written f.rises f.calls_a f.calls_b f.turns f.config f.obeys
    (f.follows refl refl) (f.hands refl refl))
    (cpu_struck e e2 y c.args.cpu t es c.requires.ready c.requires.known f.config f.goes
    (f.causes refl refl)))
