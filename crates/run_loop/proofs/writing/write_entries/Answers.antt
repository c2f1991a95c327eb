use Rattle.std.proofs.Common.{◌+◌, drop}
use Rattle.g5_writing.proofs.Progress.{left_less, left_cut}
use Rattle.run_model.specs.Texts.{entry_pieces}
use Rattle.run_loop.proofs.Sending.{entries_step}
use Rattle.run_loop.proofs.writing.write_entries.Goals as goal

pub returns-in-Err : goal.returns-in-Err
returns-in-Err g c =
    left_cut c.args.files (entry_pieces c.args.entries.now) _ _ (entry_pieces (drop (c.entries.entry-index + 1) c.args.entries.now)) (g.F.Shelf.seen c.args.shelf.now) (g.F.Shelf.seen c.entries.shelf) (g.F.Shelf.seen c.write_entry.new.shelf) (g.O.Sink.seen c.args.out.now) (g.O.Sink.seen c.entries.out) (g.O.Sink.seen c.write_entry.new.out) c.in-Err.failed (entries_step c.args.entries.now c.entries.entry-index _ c.entries-test.true) c.entries.invariant c.in-Err.ensures

pub entries-preserved : goal.entries-preserved
entries-preserved g c =
    left_less c.args.files (entry_pieces c.args.entries.now) _ _ (entry_pieces (drop (c.entries.entry-index + 1) c.args.entries.now)) (g.F.Shelf.seen c.args.shelf.now) (g.F.Shelf.seen c.entries.shelf) (g.F.Shelf.seen c.write_entry.new.shelf) (g.O.Sink.seen c.args.out.now) (g.O.Sink.seen c.entries.out) (g.O.Sink.seen c.write_entry.new.out) c.in-Ok.field-0 (entries_step c.args.entries.now c.entries.entry-index _ c.entries-test.true) c.entries.invariant c.in-Ok.ensures
