use Rattle.std.specs.Vec.{vec_capacity}
use Rattle.save_writing.specs.Written.{cpu_written}
use Rattle.save_writing.proofs.Puts.{Putting}
use Rattle.save_writing.proofs.parts.put_cpus.Given as goal

abbrev pub invariant-cpus : goal.invariant-cpus
invariant-cpus l = Putting cpu_written 336 l.cpus l.cpu-index l.initial.room.items l.room.items (vec_capacity l.initial.room) (vec_capacity l.room)
