use Rattle.std.specs.Vec.{vec_capacity}
use Rattle.byteorder.specs.Endian.{big_bytes}
use Rattle.save_writing.proofs.Puts.{Putting}
use Rattle.save_writing.proofs.numbers.put_words.Given as goal

abbrev pub invariant-words : goal.invariant-words
invariant-words l = Putting (λ n. big_bytes 8 n) 8 l.words l.word-index l.initial.room.items l.room.items (vec_capacity l.initial.room) (vec_capacity l.room)
