use Rattle.std.proofs.Common.{drop, arith, take, []}
use Rattle.save_model.specs.Parts.{cpus_fields}
use Rattle.save_reading.proofs.Judges.{judging_next, judging_done, cpus_step, cpus_end}
use Rattle.save_reading.proofs.judge.Judge.cpus.Goals as goal

pub cpus-preserved : goal.cpus-preserved
cpus-preserved c = judging_next c.args.self.now c.cpus.self c.cpu.new.self 336 c.cpus.i (cpus_fields c.args.head.now [] c.args.cpus.now) (cpus_fields c.args.head.now (take c.cpus.i c.args.cpus.now) (drop c.cpus.i c.args.cpus.now)) _ c.cpus.invariant (cpus_step c.args.head.now c.args.cpus.now c.cpus.i _ c.cpus.self c.cpu.new.self (omega arith) c.cpu.ensures.fields) c.cpu.ensures.at

pub returns-clause-fields : goal.returns-clause-fields
returns-clause-fields c = judging_done c.args.self.now c.cpus.self 336 c.cpus.i (cpus_fields c.args.head.now [] c.args.cpus.now) _ (cpus_end c.args.head.now c.args.cpus.now c.cpus.i (omega arith)) c.cpus.invariant
