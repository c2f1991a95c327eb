use Rattle.std.proofs.Common.{drop, arith, ap, ◌∙◌}
use Rattle.save_model.specs.Parts.{stored_fields}
use Rattle.save_reading.specs.Judging.{judge_one}
use Rattle.save_reading.proofs.Judges.{judging_next, judging_done, stored_step, stored_end}
use Rattle.save_reading.proofs.judge.Judge.stored.Goals as goal

pub words-preserved : goal.words-preserved
words-preserved c = judging_next c.args.self.now c.words.self c.field.new.self 16 c.words.k (stored_fields 0 c.args.words.now) (stored_fields c.words.k (drop c.words.k c.args.words.now)) _ c.words.invariant (stored_step c.words.k 0 c.args.words.now c.words.self c.field.new.self (omega arith) (c.field.ensures ∙ ap (λ z. judge_one c.words.self 16 z) c.stored_good.ensures)) (ap (λ j. j.at) c.field.ensures)

pub returns-clause-fields : goal.returns-clause-fields
returns-clause-fields c = judging_done c.args.self.now c.words.self 16 c.words.k (stored_fields 0 c.args.words.now) _ (stored_end c.words.k c.args.words.now (omega arith)) c.words.invariant
