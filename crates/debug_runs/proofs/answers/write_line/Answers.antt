use Rattle.std.proofs.Common.{[], ◌∷◌}
use Rattle.debug_runs.proofs.Putting.{adds_cut, adds_then}
use Rattle.debug_runs.proofs.answers.write_line.Goals as goal

pub returns-in-Ok : goal.returns-in-Ok
returns-in-Ok g c =
    adds_then c.args.text.now (10 ∷ []) (g.O.Sink.seen c.args.out.now)
    (g.O.Sink.seen c.add_to_sink.new.out) (g.O.Sink.seen c.add_to_sink-in-Ok.new.out) tt
    c.add_to_sink-in-Ok.result c.in-Ok.ensures c.add_to_sink-in-Ok.ensures

pub returns-in-Err : goal.returns-in-Err
returns-in-Err g c =
    adds_cut c.args.text.now (10 ∷ []) (g.O.Sink.seen c.args.out.now)
    (g.O.Sink.seen c.add_to_sink.new.out) c.in-Err.failed c.in-Err.failed c.in-Err.ensures
