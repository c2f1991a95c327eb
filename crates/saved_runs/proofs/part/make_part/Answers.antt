use Rattle.std.proofs.Common.{◌+◌, ◌-◌, ◌*◌, ◌^◌, arith, refl, sym, subst}
use Rattle.run_model.specs.Schedule.{Fits}
use Rattle.run_loop.proofs.Going.{going_files}
use Rattle.run_loop.proofs.Rising.{below_more}
use Rattle.run_loop.proofs.Runs.{run_fits}
use Rattle.saved_runs.proofs.Parts.{part_below, part_commits, part_room, parting_done, parting_failed, parting_next, parting_start}
use Rattle.saved_runs.proofs.part.make_part.Goals as goal

pub runs-init : goal.runs-init
runs-init g c = parting_start c.args.files c.args.runs.now c.args.most c.args.start (g.E.Engine.seen c.args.engine.now (g.Z.Silicon.seen c.args.silicon.now) (g.Z.Silicon.tape c.args.silicon.now)) (g.F.Shelf.seen c.args.shelf.now) (g.O.Sink.seen c.args.out.now) c.requires.ready

pub runs-preserved : goal.runs-preserved
runs-preserved g c = parting_next c.args.files c.args.runs.now c.args.most c.runs.run-index _ c.part_of-part.result c.args.start c.runs.sum c.in-Ok.after c.runs.skipped c.runs.left c.saturating_sub-skipped.result (c.runs.left - c.from-left.result) (g.E.Engine.seen c.args.engine.now (g.Z.Silicon.seen c.args.silicon.now) (g.Z.Silicon.tape c.args.silicon.now)) (g.E.Engine.seen c.runs.engine (g.Z.Silicon.seen c.runs.silicon) (g.Z.Silicon.tape c.runs.silicon)) (g.E.Engine.seen c.make_run.new.engine (g.Z.Silicon.seen c.make_run.new.silicon) (g.Z.Silicon.tape c.make_run.new.silicon)) (g.F.Shelf.seen c.args.shelf.now) (g.F.Shelf.seen c.runs.shelf) (g.F.Shelf.seen c.make_run.new.shelf) (g.O.Sink.seen c.args.out.now) (g.O.Sink.seen c.runs.out) (g.O.Sink.seen c.make_run.new.out) c.runs-test.true c.runs.invariant c.make_run.ensures.ready c.part_of-part.ensures.count (omega (arith, c.saturating_sub-skipped.ensures, c.from.ensures)) (omega (arith, c.from-left.ensures)) c.part_of-part.ensures.turns c.in-Ok.ensures.small c.in-Ok.ensures.makes

pub returns-in-Err-clause-makes : goal.returns-in-Err-clause-makes
returns-in-Err-clause-makes g c = parting_failed c.args.files c.args.runs.now c.args.most c.runs.run-index _ c.part_of-part.result c.args.start c.runs.sum c.runs.skipped c.runs.left (g.E.Engine.seen c.args.engine.now (g.Z.Silicon.seen c.args.silicon.now) (g.Z.Silicon.tape c.args.silicon.now)) (g.E.Engine.seen c.runs.engine (g.Z.Silicon.seen c.runs.silicon) (g.Z.Silicon.tape c.runs.silicon)) (g.E.Engine.seen c.make_run.new.engine (g.Z.Silicon.seen c.make_run.new.silicon) (g.Z.Silicon.tape c.make_run.new.silicon)) (g.F.Shelf.seen c.args.shelf.now) (g.F.Shelf.seen c.runs.shelf) (g.F.Shelf.seen c.make_run.new.shelf) (g.O.Sink.seen c.args.out.now) (g.O.Sink.seen c.runs.out) (g.O.Sink.seen c.make_run.new.out) c.in-Err.failed c.runs-test.true c.runs.invariant c.part_of-part.ensures.turns c.in-Err.ensures.makes

pub returns-clause-makes : goal.returns-clause-makes
returns-clause-makes g c = parting_done c.args.files c.args.runs.now c.args.most c.runs.run-index c.args.start c.runs.sum c.runs.skipped c.runs.left (g.E.Engine.seen c.args.engine.now (g.Z.Silicon.seen c.args.silicon.now) (g.Z.Silicon.tape c.args.silicon.now)) (g.E.Engine.seen c.runs.engine (g.Z.Silicon.seen c.runs.silicon) (g.Z.Silicon.tape c.runs.silicon)) (g.F.Shelf.seen c.args.shelf.now) (g.F.Shelf.seen c.runs.shelf) (g.O.Sink.seen c.args.out.now) (g.O.Sink.seen c.runs.out) (omega arith) c.runs.invariant

pub make_run-requires-clause-fits : goal.make_run-requires-clause-fits
make_run-requires-clause-fits g c = subst (λ w. Fits (g.E.Engine.seen c.runs.engine (g.Z.Silicon.seen c.runs.silicon) (g.Z.Silicon.tape c.runs.silicon)).config.cpus w) (sym c.part_of-part.ensures.what) (run_fits c.args.runs.now c.runs.run-index _ (g.E.Engine.seen c.args.engine.now (g.Z.Silicon.seen c.args.silicon.now) (g.Z.Silicon.tape c.args.silicon.now)).config (g.E.Engine.seen c.runs.engine (g.Z.Silicon.seen c.runs.silicon) (g.Z.Silicon.tape c.runs.silicon)).config c.runs.invariant.going.tells.kept.config c.runs-test.true c.requires.fits)

pub make_run-requires-clause-room : goal.make_run-requires-clause-room
make_run-requires-clause-room g c = part_room c.args.files c.args.runs.now c.args.most c.runs.run-index _ c.part_of-part.result c.args.start c.runs.sum c.runs.skipped c.runs.left (g.E.Engine.seen c.args.engine.now (g.Z.Silicon.seen c.args.silicon.now) (g.Z.Silicon.tape c.args.silicon.now)) (g.E.Engine.seen c.runs.engine (g.Z.Silicon.seen c.runs.silicon) (g.Z.Silicon.tape c.runs.silicon)) (g.F.Shelf.seen c.args.shelf.now) (g.F.Shelf.seen c.runs.shelf) (g.O.Sink.seen c.args.out.now) (g.O.Sink.seen c.runs.out) (2 ^ 47) c.runs-test.true c.requires.room c.runs.invariant c.part_of-part.ensures.count

pub make_run-requires-clause-files : goal.make_run-requires-clause-files
make_run-requires-clause-files g c = going_files c.args.files _ c.args.start c.runs.sum (g.E.Engine.seen c.args.engine.now (g.Z.Silicon.seen c.args.silicon.now) (g.Z.Silicon.tape c.args.silicon.now)) (g.E.Engine.seen c.runs.engine (g.Z.Silicon.seen c.runs.silicon) (g.Z.Silicon.tape c.runs.silicon)) (g.F.Shelf.seen c.args.shelf.now) (g.F.Shelf.seen c.runs.shelf) (g.O.Sink.seen c.args.out.now) (g.O.Sink.seen c.runs.out) c.runs.invariant.going c.requires.files

pub make_run-requires-clause-below : goal.make_run-requires-clause-below
make_run-requires-clause-below g c = below_more (2 ^ 60 + 45 * 1000000) (2 ^ 61) c.runs.sum (omega arith) (part_below c.args.files c.args.runs.now c.args.most c.runs.run-index c.args.start c.runs.sum c.runs.skipped c.runs.left (g.E.Engine.seen c.args.engine.now (g.Z.Silicon.seen c.args.silicon.now) (g.Z.Silicon.tape c.args.silicon.now)) (g.E.Engine.seen c.runs.engine (g.Z.Silicon.seen c.runs.silicon) (g.Z.Silicon.tape c.runs.silicon)) (g.F.Shelf.seen c.args.shelf.now) (g.F.Shelf.seen c.runs.shelf) (g.O.Sink.seen c.args.out.now) (g.O.Sink.seen c.runs.out) 1000000 c.requires.few c.requires.below c.runs.invariant)

pub make_run-requires-clause-commits : goal.make_run-requires-clause-commits
make_run-requires-clause-commits g c = part_commits c.args.files c.args.runs.now c.args.most c.runs.run-index _ c.part_of-part.result c.args.start c.runs.sum c.runs.skipped c.runs.left (g.E.Engine.seen c.args.engine.now (g.Z.Silicon.seen c.args.silicon.now) (g.Z.Silicon.tape c.args.silicon.now)) (g.E.Engine.seen c.runs.engine (g.Z.Silicon.seen c.runs.silicon) (g.Z.Silicon.tape c.runs.silicon)) (g.F.Shelf.seen c.args.shelf.now) (g.F.Shelf.seen c.runs.shelf) (g.O.Sink.seen c.args.out.now) (g.O.Sink.seen c.runs.out) 1000000 c.runs-test.true c.requires.few c.requires.made c.requires.commits c.runs.invariant c.part_of-part.ensures.count
