use Rattle.std.specs.Vec.{vec_capacity}
use Rattle.byteorder.specs.Endian.{big_bytes}
use Rattle.save_writing.proofs.Puts.{Putting}
use Rattle.save_writing.proofs.numbers.put_bytes.Given as goal

abbrev pub invariant-bytes : goal.invariant-bytes
invariant-bytes l = Putting (λ n. big_bytes 1 n) 1 l.bytes l.byte-index l.initial.room.items l.room.items (vec_capacity l.initial.room) (vec_capacity l.room)
