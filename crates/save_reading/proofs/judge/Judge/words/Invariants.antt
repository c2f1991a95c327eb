use Rattle.std.proofs.Common.{drop}
use Rattle.save_model.specs.Parts.{word_fields}
use Rattle.save_reading.proofs.Judges.{Judging}
use Rattle.save_reading.proofs.judge.Judge.words.Given as goal

abbrev pub invariant-words : goal.invariant-words
invariant-words l = Judging l.initial.self l.self 8 l.k (word_fields l.fn.pages l.fn.mode 0 l.words) (word_fields l.fn.pages l.fn.mode l.k (drop l.k l.words))
