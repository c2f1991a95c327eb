use Rattle.std.proofs.Common.{drop}
use Rattle.save_model.specs.Parts.{stored_fields}
use Rattle.save_reading.proofs.Judges.{Judging}
use Rattle.save_reading.proofs.judge.Judge.stored.Given as goal

abbrev pub invariant-words : goal.invariant-words
invariant-words l = Judging l.initial.self l.self 16 l.k (stored_fields 0 l.words) (stored_fields l.k (drop l.k l.words))
