use Rattle.std.proofs.Common.{drop, arith}
use Rattle.save_model.specs.Parts.{cores_fields}
use Rattle.save_reading.proofs.Judges.{judging_next, judging_done, cores_step, cores_end}
use Rattle.save_reading.proofs.judge.Judge.cores.Goals as goal

pub cores-preserved : goal.cores-preserved
cores-preserved c = judging_next c.args.self.now c.cores.self c.core.new.self 656 c.cores.k (cores_fields c.args.head.now c.args.cpus.now 0 c.args.cores.now) (cores_fields c.args.head.now c.args.cpus.now c.cores.k (drop c.cores.k c.args.cores.now)) _ c.cores.invariant (cores_step c.args.head.now c.args.cpus.now c.args.cores.now c.cores.k _ c.cores.self c.core.new.self (omega (arith, c.requires.sixteen)) c.core.ensures.fields) c.core.ensures.at

pub returns-clause-fields : goal.returns-clause-fields
returns-clause-fields c = judging_done c.args.self.now c.cores.self 656 c.cores.k (cores_fields c.args.head.now c.args.cpus.now 0 c.args.cores.now) _ (cores_end c.args.head.now c.args.cpus.now c.args.cores.now c.cores.k (omega (arith, c.requires.sixteen))) c.cores.invariant
