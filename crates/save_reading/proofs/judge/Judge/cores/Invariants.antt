use Rattle.std.proofs.Common.{drop}
use Rattle.save_model.specs.Parts.{cores_fields}
use Rattle.save_reading.proofs.Judges.{Judging}
use Rattle.save_reading.proofs.judge.Judge.cores.Given as goal

abbrev pub invariant-cores : goal.invariant-cores
invariant-cores l = Judging l.initial.self l.self 656 l.k (cores_fields l.head l.cpus 0 l.cores) (cores_fields l.head l.cpus l.k (drop l.k l.cores))
