use Rattle.std.proofs.Common.{◌+◌, drop}
use Rattle.g5_writing.specs.Lines.{line_pieces}
use Rattle.g5_writing.proofs.LineSteps.{lines_step}
use Rattle.g5_writing.proofs.Progress.{left_less, left_cut}
use Rattle.g5_writing.proofs.outputs.put_all.Goals as goal

pub returns-in-Err : goal.returns-in-Err
returns-in-Err g c =
    left_cut c.args.files (line_pieces c.args.place c.args.lines.now) _ _ (line_pieces c.args.place (drop (c.lines.line-index + 1) c.args.lines.now)) (g.F.Shelf.seen c.args.shelf.now) (g.F.Shelf.seen c.lines.shelf) (g.F.Shelf.seen c.put.new.shelf) (g.O.Sink.seen c.args.out.now) (g.O.Sink.seen c.lines.out) (g.O.Sink.seen c.put.new.out) c.in-Err.failed (lines_step c.args.place c.args.lines.now c.lines.line-index _ c.lines-test.true) c.lines.invariant c.in-Err.ensures

pub lines-preserved : goal.lines-preserved
lines-preserved g c =
    left_less c.args.files (line_pieces c.args.place c.args.lines.now) _ _ (line_pieces c.args.place (drop (c.lines.line-index + 1) c.args.lines.now)) (g.F.Shelf.seen c.args.shelf.now) (g.F.Shelf.seen c.lines.shelf) (g.F.Shelf.seen c.put.new.shelf) (g.O.Sink.seen c.args.out.now) (g.O.Sink.seen c.lines.out) (g.O.Sink.seen c.put.new.out) c.in-Ok.field-0 (lines_step c.args.place c.args.lines.now c.lines.line-index _ c.lines-test.true) c.lines.invariant c.in-Ok.ensures
