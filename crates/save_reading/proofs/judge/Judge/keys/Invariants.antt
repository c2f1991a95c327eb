use Rattle.std.proofs.Common.{drop}
use Rattle.save_model.specs.Parts.{key_fields}
use Rattle.save_reading.proofs.Judges.{Judging}
use Rattle.save_reading.proofs.judge.Judge.keys.Given as goal

abbrev pub invariant-keys : goal.invariant-keys
invariant-keys l = Judging l.initial.self l.self 1 l.key-index (key_fields l.keys) (key_fields (drop l.key-index l.keys))
