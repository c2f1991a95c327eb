use Rattle.std.proofs.Common.{◌≡◌, subst}
use Rattle.g5_words.specs.Asked.{session_names}
use Rattle.run_model.specs.Texts.{report}
use Rattle.status_lines.specs.Says.{Says}
use Rattle.g5_run.specs.Leaving.{beside, silicon_after}
use Rattle.g5_run.proofs.Failing.{debug_fails}
use Rattle.g5_run.proofs.session.converse_and_say.Goals as goal

pub returns-in-Ok : goal.returns-in-Ok
returns-in-Ok g c =
    let e = g.E.Sink.seen c.args.err.now in
    let f = g.E.Sink.seen c.say.new.err in
    let text : c.deref.result.now ≡ report c.in-Ok.held.within c.in-Ok.held.counts = cc in
    record {
      held = c.in-Ok.held;
      session = c.in-Ok.ensures.held;
      said = subst (λ t. Says t e f) text c.say.ensures;
    }

pub returns-in-Err : goal.returns-in-Err
returns-in-Err g c =
    debug_fails (session_names c.args.names.now) c.args.config (g.F.Shelf.seen c.args.shelf.now)
    (g.F.Shelf.seen c.debug_session.new.shelf) (g.O.Sink.seen c.args.out.now)
    (g.O.Sink.seen c.debug_session.new.out) (g.E.Sink.seen c.args.err.now)
    (g.E.Sink.seen c.say_line.new.err)
    (beside (silicon_after (g.Z.Silicon.seen c.debug_session.new.silicon)
    (g.Z.Silicon.tape c.args.silicon.now) (g.Z.Silicon.tape c.debug_session.new.silicon))
    (g.I.Source.seen c.args.keys.now) (g.I.Source.seen c.debug_session.new.keys)) c.in-Err.status
    c.in-Err.ensures.fails c.say_line.ensures
