use Rattle.std.proofs.Common.{drop, take, []}
use Rattle.save_model.specs.Parts.{cpus_fields}
use Rattle.save_reading.proofs.Judges.{Judging}
use Rattle.save_reading.proofs.judge.Judge.cpus.Given as goal

abbrev pub invariant-cpus : goal.invariant-cpus
invariant-cpus l = Judging l.initial.self l.self 336 l.i (cpus_fields l.head [] l.cpus) (cpus_fields l.head (take l.i l.cpus) (drop l.i l.cpus))
