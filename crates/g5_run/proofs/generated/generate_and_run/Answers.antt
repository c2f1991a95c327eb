use Rattle.std.proofs.Common.{◌≡◌, true, sym, subst}
use Rattle.run_model.specs.Texts.{report, summary}
use Rattle.status_lines.specs.Says.{Says}
use Rattle.g5_run.specs.Generates.{GenEnds}
use Rattle.g5_run.specs.Leaving.{silicon_after}
use Rattle.g5_run.proofs.Summaries.{cut, summarized}
use Rattle.g5_run.proofs.generated.generate_and_run.Goals as goal

pub returns-in-Ok-add_to_sink : goal.returns-in-Ok-add_to_sink
returns-in-Ok-add_to_sink g c =
    let e = g.E.Sink.seen c.args.err.now in
    let f = g.E.Sink.seen c.say.new.err in
    let bytes : c.deref.result.now ≡ summary c.in-Ok.tally.counts c.in-Ok.tally.trace = cc in
    let text : c.deref-in-Ok-add_to_sink.result.now ≡ report true c.in-Ok.tally.counts = cc in
    summarized c.args.number c.args.turns c.in-Ok.tally c.deref.result.now
    (g.O.Sink.seen c.args.out.now) (g.O.Sink.seen c.add_to_sink.new.out) e f
    (silicon_after (g.Z.Silicon.seen c.run_generated.new.silicon)
    (g.Z.Silicon.tape c.args.silicon.now) (g.Z.Silicon.tape c.run_generated.new.silicon))
    c.status_of.result c.in-Ok.ensures bytes c.in-Ok-add_to_sink.ensures
    (subst (λ t. Says t e f) text c.say.ensures) c.status_of.ensures

pub returns-in-Err-add_to_sink : goal.returns-in-Err-add_to_sink
returns-in-Err-add_to_sink g c =
    let o = g.O.Sink.seen c.args.out.now in
    let p = g.O.Sink.seen c.add_to_sink.new.out in
    let e = g.E.Sink.seen c.args.err.now in
    let f = g.E.Sink.seen c.end-in-Err-add_to_sink.new.err in
    let z = silicon_after (g.Z.Silicon.seen c.run_generated.new.silicon)
    (g.Z.Silicon.tape c.args.silicon.now) (g.Z.Silicon.tape c.run_generated.new.silicon) in
    let bytes : c.deref.result.now ≡ summary c.in-Ok.tally.counts c.in-Ok.tally.trace = cc in
    let fault = c.end-in-Err-add_to_sink.ensures in
    subst (λ s. GenEnds c.args.number c.args.turns o p e f z s) (sym fault.status)
    (cut c.args.number c.args.turns c.in-Ok.tally c.deref.result.now o p e f z
    c.in-Err-add_to_sink.field-0 c.in-Ok.ensures bytes c.in-Err-add_to_sink.ensures fault.said)
