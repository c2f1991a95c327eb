use Rattle.std.proofs.Common.{◌≡◌, ◌≤◌}
use Rattle.std.specs.Vec.{vec_capacity}
use Rattle.g5_machine.specs.Starting.{WokenTo}
use Rattle.g5_machine.proofs.starting.wake_cores.Given as goal

abbrev pub invariant-loop-cpu : goal.invariant-loop-cpu
invariant-loop-cpu g l = record {
  woken : WokenTo l.entry l.cpu (g.Z.Silicon.seen l.fn.z) (g.Z.Silicon.seen l.z) l.cpus.items;
  tape : g.Z.Silicon.tape l.z ≡ g.Z.Silicon.tape l.fn.z;
  room : l.count ≤ vec_capacity l.cpus;
}
