use Rattle.std.proofs.Common.{length}
use Rattle.save_reading.proofs.Numbering.{Filled}
use Rattle.save_reading.proofs.reader.Reader.eights.Given as goal

abbrev pub invariant-words : goal.invariant-words
invariant-words l = Filled 8 (length l.initial.words) l.k l.words l.initial.self.rest.now l.self.rest.now
