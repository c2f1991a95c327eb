use Rattle.std.proofs.Common.{◌∷◌, [], refl}
use Rattle.run_model.specs.declared.outputs.Place.TheVariants.{Trace, Out}
use Rattle.run_model.specs.Pieces.{piece}
use Rattle.std.proofs.lemmas.Result.{err_from_is_err_and}
use Rattle.g5_writing.proofs.Putting.{puts_then_as, puts_stop_as}
use Rattle.run_loop.proofs.writing.write_commit.Goals as goal

pub returns-in_err-put : goal.returns-in_err-put
returns-in_err-put g c =
    let p = err_from_is_err_and c.from_residual.result c.from_residual.ensures.1 in
    rw (p.1, p.2) (puts_stop_as c.args.files (piece Trace c.deref-2.result.now ∷ []) (piece Out c.args.turn.now.written.console.items ∷ []) _ (g.F.Shelf.seen c.args.shelf.now) (g.F.Shelf.seen c.put.new.shelf) (g.O.Sink.seen c.args.out.now) (g.O.Sink.seen c.put.new.out) c.in_err-put.field-0.0 _ c.in_err-put.field-0.0 c.in_err-put.ensures refl (cc))

pub returns : goal.returns
returns g c =
    puts_then_as c.args.files (piece Trace c.deref-2.result.now ∷ []) (piece Out c.deref-3.result.now ∷ []) _ (g.F.Shelf.seen c.args.shelf.now) (g.F.Shelf.seen c.put.new.shelf) (g.F.Shelf.seen c.put-2.new.shelf) (g.O.Sink.seen c.args.out.now) (g.O.Sink.seen c.put.new.out) (g.O.Sink.seen c.put-2.new.out) c.in_ok-put.field-0 c.put-2.result c.in_ok-put.ensures c.put-2.ensures (cc)
