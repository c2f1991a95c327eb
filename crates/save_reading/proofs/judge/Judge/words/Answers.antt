use Rattle.std.proofs.Common.{drop, arith, ap, ◌∙◌}
use Rattle.save_model.specs.Parts.{word_fields}
use Rattle.save_reading.specs.Judging.{judge_one}
use Rattle.save_reading.proofs.Judges.{judging_next, judging_done, words_step, words_end}
use Rattle.save_reading.proofs.judge.Judge.words.Goals as goal

pub words-preserved : goal.words-preserved
words-preserved c = judging_next c.args.self.now c.words.self c.field.new.self 8 c.words.k (word_fields c.args.pages c.args.mode 0 c.args.words.now) (word_fields c.args.pages c.args.mode c.words.k (drop c.words.k c.args.words.now)) _ c.words.invariant (words_step c.args.pages c.args.mode c.words.k 0 c.args.words.now c.words.self c.field.new.self (omega arith) (c.field.ensures ∙ ap (λ z. judge_one c.words.self 8 z) c.word_good.ensures)) (ap (λ j. j.at) c.field.ensures)

pub returns-clause-fields : goal.returns-clause-fields
returns-clause-fields c = judging_done c.args.self.now c.words.self 8 c.words.k (word_fields c.args.pages c.args.mode 0 c.args.words.now) _ (words_end c.args.pages c.args.mode c.words.k c.args.words.now (omega arith)) c.words.invariant
