use Rattle.std.proofs.Common.{length, arith}
use Rattle.save_reading.proofs.Numbering.{filled_start, filled_next, filled_words, filled_rest}
use Rattle.save_reading.proofs.reader.Reader.eights.Goals as goal

pub words-init : goal.words-init
words-init c = filled_start 8 c.args.words.now c.args.self.now.rest.now

pub eight-requires : goal.eight-requires
eight-requires c = omega (arith, c.words.invariant.left, c.requires)

pub words-preserved : goal.words-preserved
words-preserved c = filled_next 8 (length c.args.words.now) c.words.k c.words.words c.args.self.now.rest.now c.words.self.rest.now c.eight.new.self.rest.now c.eight.result (omega arith) c.words.invariant c.eight.ensures.value c.eight.ensures.rest c.eight.ensures.left

pub returns-clause-value : goal.returns-clause-value
returns-clause-value c = filled_words 8 (length c.args.words.now) c.words.k c.words.words c.args.self.now.rest.now c.words.self.rest.now (omega arith) (omega arith) c.words.invariant

pub returns-clause-rest : goal.returns-clause-rest
returns-clause-rest c = filled_rest 8 (length c.args.words.now) c.words.k c.words.words c.args.self.now.rest.now c.words.self.rest.now (omega arith) (omega arith) c.words.invariant
