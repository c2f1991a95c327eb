use Rattle.std.proofs.Common.{arith, refl}
use Rattle.run_model.specs.Checkpoint.{word_of, words_of}
use Rattle.machine_save.proofs.Filling.{filling_start, filling_next, filling_end}
use Rattle.machine_save.proofs.numbers.words_of.Goals as goal

pub words-init : goal.words-init
words-init c = filling_start (word_of c.args.r.now) 40 _ refl

pub words-preserved : goal.words-preserved
words-preserved c = filling_next (word_of c.args.r.now) 40 c.words.k c.words.words c.word_of.result c.words-test.true c.words.invariant c.word_of.ensures

pub returns : goal.returns
unfolding words_of
returns c = filling_end (word_of c.args.r.now) 40 c.words.k c.words.words (omega arith) (omega arith) c.words.invariant
