use Rattle.g5_words.specs.Asked.{job_names}
use Rattle.g5_run.proofs.Ending.{ends_cut, ends_unstarted, ends_whole}
use Rattle.g5_run.proofs.job.run_job.Goals as goal

pub returns-in-Err-start_files : goal.returns-in-Err-start_files
returns-in-Err-start_files g c =
    ends_unstarted (job_names c.args.names.now) c.args.config c.in-Ok.ready
    (g.Z.Silicon.seen c.prepare.new.silicon) (g.Z.Silicon.tape c.prepare.new.silicon)
    (g.F.Shelf.seen c.args.shelf.now) (g.F.Shelf.seen c.prepare.new.shelf)
    (g.F.Shelf.seen c.start_files.new.shelf) (g.O.Sink.seen c.args.out.now) c.in-Err-start_files.field-0 c.in-Ok.ensures.ready
    c.in-Ok.ensures.only c.in-Err-start_files.ensures

pub returns-in-Ok-make_whole : goal.returns-in-Ok-make_whole
returns-in-Ok-make_whole g c =
    ends_whole (job_names c.args.names.now) c.args.config c.in-Ok.ready
    c.make_whole.new.machine (g.Z.Silicon.seen c.prepare.new.silicon)
    (g.Z.Silicon.seen c.make_whole.new.silicon) (g.Z.Silicon.tape c.args.silicon.now)
    (g.Z.Silicon.tape c.prepare.new.silicon) (g.Z.Silicon.tape c.make_whole.new.silicon)
    c.in-Ok-start_files.files
    (g.F.Shelf.seen c.args.shelf.now) (g.F.Shelf.seen c.prepare.new.shelf)
    (g.F.Shelf.seen c.start_files.new.shelf) (g.F.Shelf.seen c.make_whole.new.shelf)
    (g.O.Sink.seen c.args.out.now) (g.O.Sink.seen c.make_whole.new.out)
    c.in-Ok-make_whole.counts c.in-Ok.ensures.ready c.in-Ok.ensures.only
    c.prepare.ensures.tape c.in-Ok-start_files.ensures c.requires.differ c.in-Ok-make_whole.ensures

pub returns : goal.returns
returns g c =
    ends_cut (job_names c.args.names.now) c.args.config c.in-Ok.ready
    c.make_whole.new.machine (g.Z.Silicon.seen c.prepare.new.silicon)
    (g.Z.Silicon.seen c.make_whole.new.silicon) (g.Z.Silicon.tape c.prepare.new.silicon)
    (g.Z.Silicon.tape c.make_whole.new.silicon) c.in-Ok-start_files.files
    (g.F.Shelf.seen c.args.shelf.now) (g.F.Shelf.seen c.prepare.new.shelf)
    (g.F.Shelf.seen c.start_files.new.shelf) (g.F.Shelf.seen c.make_whole.new.shelf)
    (g.O.Sink.seen c.args.out.now) (g.O.Sink.seen c.make_whole.new.out)
    c.in-Err-make_whole.field-0 c.in-Ok.ensures.ready c.in-Ok.ensures.only
    c.in-Ok-start_files.ensures c.requires.differ c.in-Err-make_whole.ensures
