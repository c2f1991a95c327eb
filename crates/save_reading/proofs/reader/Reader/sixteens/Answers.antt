use Rattle.std.proofs.Common.{length, arith}
use Rattle.save_reading.proofs.Numbering.{filled_start, filled_next, filled_words, filled_rest}
use Rattle.save_reading.proofs.reader.Reader.sixteens.Goals as goal

pub words-init : goal.words-init
words-init c = filled_start 16 c.args.words.now c.args.self.now.rest.now

pub sixteen-requires : goal.sixteen-requires
sixteen-requires c = omega (arith, c.words.invariant.left, c.requires)

pub words-preserved : goal.words-preserved
words-preserved c = filled_next 16 (length c.args.words.now) c.words.k c.words.words c.args.self.now.rest.now c.words.self.rest.now c.sixteen.new.self.rest.now c.sixteen.result (omega arith) c.words.invariant c.sixteen.ensures.value c.sixteen.ensures.rest c.sixteen.ensures.left

pub returns-clause-value : goal.returns-clause-value
returns-clause-value c = filled_words 16 (length c.args.words.now) c.words.k c.words.words c.args.self.now.rest.now c.words.self.rest.now (omega arith) (omega arith) c.words.invariant

pub returns-clause-rest : goal.returns-clause-rest
returns-clause-rest c = filled_rest 16 (length c.args.words.now) c.words.k c.words.words c.args.self.now.rest.now c.words.self.rest.now (omega arith) (omega arith) c.words.invariant
