use Rattle.std.proofs.Common.{◌∙◌, ap, ◌++◌, refl}
use Rattle.run_model.specs.Texts.{entry_pieces, commit_pieces}
use Rattle.g5_writing.proofs.Putting.{puts_then_as, puts_stop_as}
use Rattle.run_loop.specs.Engines.{told_of}
use Rattle.run_loop.proofs.Sending.{turn_is}
use Rattle.run_loop.proofs.writing.write_turn.Goals as goal

pub returns-in-Err : goal.returns-in-Err
returns-in-Err g c =
    let t = told_of c.args.turn.now in
    let behind = commit_pieces c.args.commits t t.event in
    puts_stop_as {T = Unit {0}} c.args.files (entry_pieces c.as_slice.result.now) behind _ (g.F.Shelf.seen c.args.shelf.now) (g.F.Shelf.seen c.write_entries.new.shelf) (g.O.Sink.seen c.args.out.now) (g.O.Sink.seen c.write_entries.new.out) c.in-Err.failed _ c.in-Err.failed c.in-Err.ensures refl
    (ap (λ es. entry_pieces es ++ behind) c.as_slice.ensures.value ∙ turn_is c.args.commits t)

pub returns-in-Ok : goal.returns-in-Ok
returns-in-Ok g c =
    let t = told_of c.args.turn.now in
    let behind = commit_pieces c.args.commits t t.event in
    puts_then_as c.args.files (entry_pieces c.as_slice.result.now) behind _ (g.F.Shelf.seen c.args.shelf.now) (g.F.Shelf.seen c.write_entries.new.shelf) (g.F.Shelf.seen c.write_event.new.shelf) (g.O.Sink.seen c.args.out.now) (g.O.Sink.seen c.write_entries.new.out) (g.O.Sink.seen c.write_event.new.out) c.in-Ok.field-0 c.write_event.result c.in-Ok.ensures c.write_event.ensures
    (ap (λ es. entry_pieces es ++ behind) c.as_slice.ensures.value ∙ turn_is c.args.commits t)
