-- A turn of any kind gives what is asked of it.
use Rattle.machine_runs.proofs.twin_machine.TwinMachineEngine.turn.Goals as goal

pub returns-in-Turns-clause-ready : goal.returns-in-Turns-clause-ready
returns-in-Turns-clause-ready g c = c.turn_of_cpu.ensures.gives.ready

pub returns-in-Turns-clause-turns : goal.returns-in-Turns-clause-turns
returns-in-Turns-clause-turns g c = c.turn_of_cpu.ensures.gives.turns

pub returns-in-Turns-clause-kept : goal.returns-in-Turns-clause-kept
returns-in-Turns-clause-kept g c = c.turn_of_cpu.ensures.gives.kept

pub returns-in-Turns-clause-causes : goal.returns-in-Turns-clause-causes
returns-in-Turns-clause-causes g c = c.turn_of_cpu.ensures.gives.causes

pub returns-in-Turns-clause-obeys : goal.returns-in-Turns-clause-obeys
returns-in-Turns-clause-obeys g c = rw c.in-Turns.is (c.turn_of_cpu.ensures.gives.obeys)

pub returns-in-Turns-clause-follows : goal.returns-in-Turns-clause-follows
returns-in-Turns-clause-follows g c = rw c.in-Turns.is (c.turn_of_cpu.ensures.gives.follows)

pub returns-in-Key-clause-ready : goal.returns-in-Key-clause-ready
returns-in-Key-clause-ready g c = (c.turn_of_key.ensures.gives (g.Z.Silicon.seen c.args.silicon.now) (g.Z.Silicon.tape c.args.silicon.now) c.requires.ready).ready

pub returns-in-Key-clause-turns : goal.returns-in-Key-clause-turns
returns-in-Key-clause-turns g c = (c.turn_of_key.ensures.gives (g.Z.Silicon.seen c.args.silicon.now) (g.Z.Silicon.tape c.args.silicon.now) c.requires.ready).turns

pub returns-in-Key-clause-kept : goal.returns-in-Key-clause-kept
returns-in-Key-clause-kept g c = (c.turn_of_key.ensures.gives (g.Z.Silicon.seen c.args.silicon.now) (g.Z.Silicon.tape c.args.silicon.now) c.requires.ready).kept

pub returns-in-Key-clause-causes : goal.returns-in-Key-clause-causes
returns-in-Key-clause-causes g c = (c.turn_of_key.ensures.gives (g.Z.Silicon.seen c.args.silicon.now) (g.Z.Silicon.tape c.args.silicon.now) c.requires.ready).causes

pub returns-in-Key-clause-obeys : goal.returns-in-Key-clause-obeys
returns-in-Key-clause-obeys g c = rw c.in-Key.is ((c.turn_of_key.ensures.gives (g.Z.Silicon.seen c.args.silicon.now) (g.Z.Silicon.tape c.args.silicon.now) c.requires.ready).obeys)

pub returns-in-Key-clause-follows : goal.returns-in-Key-clause-follows
returns-in-Key-clause-follows g c = rw c.in-Key.is ((c.turn_of_key.ensures.gives (g.Z.Silicon.seen c.args.silicon.now) (g.Z.Silicon.tape c.args.silicon.now) c.requires.ready).follows)

pub returns-in-Return-clause-ready : goal.returns-in-Return-clause-ready
returns-in-Return-clause-ready g c = (c.turn_of_return.ensures.gives (g.Z.Silicon.seen c.args.silicon.now) (g.Z.Silicon.tape c.args.silicon.now) c.requires.ready).ready

pub returns-in-Return-clause-turns : goal.returns-in-Return-clause-turns
returns-in-Return-clause-turns g c = (c.turn_of_return.ensures.gives (g.Z.Silicon.seen c.args.silicon.now) (g.Z.Silicon.tape c.args.silicon.now) c.requires.ready).turns

pub returns-in-Return-clause-kept : goal.returns-in-Return-clause-kept
returns-in-Return-clause-kept g c = (c.turn_of_return.ensures.gives (g.Z.Silicon.seen c.args.silicon.now) (g.Z.Silicon.tape c.args.silicon.now) c.requires.ready).kept

pub returns-in-Return-clause-causes : goal.returns-in-Return-clause-causes
returns-in-Return-clause-causes g c = (c.turn_of_return.ensures.gives (g.Z.Silicon.seen c.args.silicon.now) (g.Z.Silicon.tape c.args.silicon.now) c.requires.ready).causes

pub returns-in-Return-clause-obeys : goal.returns-in-Return-clause-obeys
returns-in-Return-clause-obeys g c = rw c.in-Return.is ((c.turn_of_return.ensures.gives (g.Z.Silicon.seen c.args.silicon.now) (g.Z.Silicon.tape c.args.silicon.now) c.requires.ready).obeys)

pub returns-in-Return-clause-follows : goal.returns-in-Return-clause-follows
returns-in-Return-clause-follows g c = rw c.in-Return.is ((c.turn_of_return.ensures.gives (g.Z.Silicon.seen c.args.silicon.now) (g.Z.Silicon.tape c.args.silicon.now) c.requires.ready).follows)
