use Rattle.std.specs.Vec.{vec_capacity}
use Rattle.save_writing.specs.Written.{core_written}
use Rattle.save_writing.proofs.Puts.{Putting}
use Rattle.save_writing.proofs.parts.put_cores.Given as goal

abbrev pub invariant-cores : goal.invariant-cores
invariant-cores l = Putting core_written 656 l.cores l.core-index l.initial.room.items l.room.items (vec_capacity l.initial.room) (vec_capacity l.room)
