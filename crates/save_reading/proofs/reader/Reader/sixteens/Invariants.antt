use Rattle.std.proofs.Common.{length}
use Rattle.save_reading.proofs.Numbering.{Filled}
use Rattle.save_reading.proofs.reader.Reader.sixteens.Given as goal

abbrev pub invariant-words : goal.invariant-words
invariant-words l = Filled 16 (length l.initial.words) l.k l.words l.initial.self.rest.now l.self.rest.now
