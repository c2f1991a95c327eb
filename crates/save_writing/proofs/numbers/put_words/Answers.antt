use Rattle.std.proofs.Common.{arith, length, ◌+◌, ◌++◌, ◌∙◌, ap}
use Rattle.std.specs.Vec.{vec_capacity}
use Rattle.byteorder.specs.Endian.{big_bytes}
use Rattle.save_writing.proofs.Puts.{putting_start, putting_next, putting_end}
use Rattle.save_writing.proofs.numbers.put_words.Goals as goal

pub words-init : goal.words-init
words-init c = putting_start (λ n. big_bytes 8 n) 8 c.args.words.now c.args.room.now.items (vec_capacity c.args.room.now)

pub returns-clause-items : goal.returns-clause-items
returns-clause-items c = putting_end (λ n. big_bytes 8 n) 8 c.args.words.now c.words.word-index c.args.room.now.items c.words.room.items (vec_capacity c.args.room.now) (vec_capacity c.words.room) (omega arith) c.words.invariant

pub words-preserved : goal.words-preserved
words-preserved c = putting_next (λ n. big_bytes 8 n) 8 c.args.words.now c.words.word-index _ c.args.room.now.items c.words.room.items c.put_all.new.room.items (vec_capacity c.args.room.now) (vec_capacity c.words.room) (vec_capacity c.put_all.new.room) c.words-test.true c.words.invariant (c.put_all.ensures.items ∙ ap (λ z. c.words.room.items ++ z) c.to_be_bytes.ensures) c.put_all.ensures.capacity (c.put_all.ensures.length ∙ ap (λ z. length c.words.room.items + length z) c.to_be_bytes.ensures)

pub put_all-requires : goal.put_all-requires
put_all-requires c = omega (arith, c.words-test.true, c.requires, c.words.invariant.long, c.words.invariant.capacity)
