use Rattle.std.proofs.Common.{take, subst}
use Rattle.std.proofs.lemmas.List.{take_rest}
use Rattle.g5_writing.specs.Outputs.{SinkGrew}
use Rattle.g5_writing.proofs.Adding.{sink_took, sink_failed, sink_next}
use Rattle.g5_writing.proofs.outputs.add_to_sink.Goals as goal

pub returns-in-Err : goal.returns-in-Err
returns-in-Err g c =
    let w = c.write.ensures in
    let grew = sink_took c.writes.rest.now (g.O.Sink.seen c.writes.out) (g.O.Sink.seen c.write.new.self) c.write.result w.content w.told w.cause.later in
    sink_failed c.args.bytes.now c.writes.rest.now (g.O.Sink.seen c.args.out.now) (g.O.Sink.seen c.writes.out) (g.O.Sink.seen c.write.new.self) w.content.count _ c.writes.invariant grew c.in-Err.ensures.cause.failed

pub writes-preserved : goal.writes-preserved
writes-preserved g c =
    let w = c.in-Ok.ensures in
    let grew = sink_took c.writes.rest.now (g.O.Sink.seen c.writes.out) (g.O.Sink.seen c.write.new.self) _ w.content w.told w.cause.later in
    let exact = subst (λ k. SinkGrew (take k c.writes.rest.now) (g.O.Sink.seen c.writes.out) (g.O.Sink.seen c.write.new.self)) (cc (w.content.answer)) grew in
    sink_next c.args.bytes.now c.writes.rest.now _ (g.O.Sink.seen c.args.out.now) (g.O.Sink.seen c.writes.out) (g.O.Sink.seen c.write.new.self) c.in-Ok.count c.writes.invariant exact (take_rest c.writes.rest.now c.in-Ok.count)
