use Rattle.g5_run.specs.Leaving.{silicon_after}
use Rattle.std.proofs.Common.{◌≡◌, subst}
use Rattle.g5_words.specs.Asked.{job_names}
use Rattle.run_model.specs.Texts.{report}
use Rattle.status_lines.specs.Says.{Says}
use Rattle.g5_run.proofs.Telling.{whole_ends}
use Rattle.g5_run.proofs.top.run_command.Goals as goal

pub returns-in-Whole : goal.returns-in-Whole
returns-in-Whole g c =
    let e = g.E.Sink.seen c.args.err.now in
    let f = g.E.Sink.seen c.say.new.err in
    let text : c.deref.result.now ≡ report c.in-Whole.within c.in-Whole.counts = cc in
    whole_ends (job_names c.args.names.now) c.args.config c.in-Whole.counts c.in-Whole.within
    (g.F.Shelf.seen c.args.shelf.now) (g.F.Shelf.seen c.run_job.new.shelf)
    (g.O.Sink.seen c.args.out.now) (g.O.Sink.seen c.run_job.new.out) e f
    (silicon_after (g.Z.Silicon.seen c.run_job.new.silicon) (g.Z.Silicon.tape c.args.silicon.now)
    (g.Z.Silicon.tape c.run_job.new.silicon)) c.status_of.result c.in-Whole.ensures
    (subst (λ t. Says t e f) text c.say.ensures) c.status_of.ensures
