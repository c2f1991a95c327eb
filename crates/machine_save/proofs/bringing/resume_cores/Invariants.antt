use Rattle.std.proofs.Common.{◌≡◌}
use Rattle.machine_save.specs.Bringing.{StoresTo}
use Rattle.machine_save.proofs.bringing.resume_cores.Given as goal

abbrev pub invariant-cores : goal.invariant-cores
invariant-cores g l = record {
  stores : StoresTo l.k l.cores (g.Z.Silicon.seen l.fn.z) (g.Z.Silicon.seen l.z);
  tape : g.Z.Silicon.tape l.z ≡ g.Z.Silicon.tape l.fn.z;
}
