use Rattle.std.proofs.Common.{drop}
use Rattle.g5_writing.proofs.Progress.{Left}
use Rattle.run_model.specs.Texts.{entry_pieces}
use Rattle.run_loop.proofs.writing.write_entries.Given as goal

abbrev pub invariant-entries : goal.invariant-entries
invariant-entries g l = Left l.files (entry_pieces l.entries) (entry_pieces (drop l.entry-index l.entries)) (g.F.Shelf.seen l.initial.shelf) (g.F.Shelf.seen l.shelf) (g.O.Sink.seen l.initial.out) (g.O.Sink.seen l.out)
