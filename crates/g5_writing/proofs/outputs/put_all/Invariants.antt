use Rattle.std.proofs.Common.{drop}
use Rattle.g5_writing.specs.Lines.{line_pieces}
use Rattle.g5_writing.proofs.Progress.{Left}
use Rattle.g5_writing.proofs.outputs.put_all.Given as goal

abbrev pub invariant-lines : goal.invariant-lines
invariant-lines g l = Left l.files (line_pieces l.place l.lines) (line_pieces l.place (drop l.line-index l.lines)) (g.F.Shelf.seen l.initial.shelf) (g.F.Shelf.seen l.shelf) (g.O.Sink.seen l.initial.out) (g.O.Sink.seen l.out)
