use Rattle.std.proofs.Common.{drop, arith, ap}
use Rattle.save_model.specs.Parts.{key_fields}
use Rattle.save_reading.proofs.Judges.{judging_next, judging_done, keys_step, keys_end}
use Rattle.save_reading.proofs.judge.Judge.keys.Goals as goal

pub field-requires : goal.field-requires
field-requires c = omega (arith, c.keys.invariant.at, c.requires, c.keys-test.true)

pub keys-preserved : goal.keys-preserved
keys-preserved c = judging_next c.args.self.now c.keys.self c.field.new.self 1 c.keys.key-index (key_fields c.args.keys.now) (key_fields (drop c.keys.key-index c.args.keys.now)) _ c.keys.invariant (keys_step c.keys.key-index _ c.args.keys.now c.keys.self c.field.new.self c.keys-test.true c.field.ensures) (ap (λ j. j.at) c.field.ensures)

pub returns-clause-fields : goal.returns-clause-fields
returns-clause-fields c = judging_done c.args.self.now c.keys.self 1 c.keys.key-index (key_fields c.args.keys.now) _ (keys_end c.keys.key-index c.args.keys.now (omega arith)) c.keys.invariant
