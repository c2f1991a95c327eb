use Rattle.std.proofs.Common.{◌∷◌, [], ◌++◌}
use Rattle.std.proofs.lemmas.Result.{err_from_is_err_and}
use Rattle.status_lines.proofs.Saying.{sink_then, sink_stop}
use Rattle.status_lines.proofs.lines.add_parts.Goals as goal

pub returns-in_err-add_to_sink : goal.returns-in_err-add_to_sink
returns-in_err-add_to_sink g c =
    let p = err_from_is_err_and c.from_residual.result c.from_residual.ensures.1 in
    let f = c.in_err-add_to_sink.field-0.0 in
    rw (p.1, p.2) (sink_stop c.args.first.now (c.args.second.now ++ 10 ∷ [])
    (g.E.Sink.seen c.args.err.now) (g.E.Sink.seen c.add_to_sink.new.out) f f c.in_err-add_to_sink.ensures)

pub returns-in_err-add_to_sink-2 : goal.returns-in_err-add_to_sink-2
returns-in_err-add_to_sink-2 g c =
    let residual = c.from_residual-in_err-add_to_sink-2 in
    let q = err_from_is_err_and residual.result residual.ensures.1 in
    let a = g.E.Sink.seen c.args.err.now in
    let b = g.E.Sink.seen c.add_to_sink.new.out in
    let d = g.E.Sink.seen c.add_to_sink-2.new.out in
    let f = c.in_err-add_to_sink-2.field-0.0 in
    let rest = c.args.second.now ++ 10 ∷ [] in
    rw (q.1, q.2) (sink_then c.args.first.now rest a b d c.in_ok-add_to_sink.field-0 _
    c.in_ok-add_to_sink.ensures
    (sink_stop {U = Unit {0}} c.args.second.now (10 ∷ []) b d f f c.in_err-add_to_sink-2.ensures))

pub returns : goal.returns
returns g c =
    let a = g.E.Sink.seen c.args.err.now in
    let b = g.E.Sink.seen c.add_to_sink.new.out in
    let d = g.E.Sink.seen c.add_to_sink-2.new.out in
    let e = g.E.Sink.seen c.add_to_sink-3.new.out in
    let last = c.add_to_sink-3 in
    let first = c.in_ok-add_to_sink in
    let second = c.in_ok-add_to_sink-2 in
    sink_then c.args.first.now (c.args.second.now ++ 10 ∷ []) a b e first.field-0 last.result first.ensures
    (sink_then c.args.second.now (10 ∷ []) b d e second.field-0 last.result second.ensures last.ensures)
