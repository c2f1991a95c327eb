use Rattle.std.proofs.Common.{◌+◌, ◌*◌, ◌^◌, ◌≡◌, arith}
use Rattle.run_loop.proofs.Going.{going_files}
use Rattle.run_loop.proofs.Rising.{below_more}
use Rattle.run_loop.proofs.Runs.{turning_start, turning_next, turning_failed, turning_done, turn_room, turn_commits, fits_now}
use Rattle.run_loop.proofs.running.make_run.Goals as goal

pub turns-init : goal.turns-init
turns-init g c = turning_start c.args.files c.args.run.what c.args.run.count c.args.start (g.E.Engine.seen c.args.engine.now (g.Z.Silicon.seen c.args.silicon.now) (g.Z.Silicon.tape c.args.silicon.now)) (g.F.Shelf.seen c.args.shelf.now) (g.O.Sink.seen c.args.out.now) c.requires.ready

pub turns-preserved : goal.turns-preserved
turns-preserved g c = turning_next c.args.files c.args.run.what c.args.run.count c.turns.turn c.args.start c.turns.sum c.in-Ok.after (g.E.Engine.seen c.args.engine.now (g.Z.Silicon.seen c.args.silicon.now) (g.Z.Silicon.tape c.args.silicon.now)) (g.E.Engine.seen c.turns.engine (g.Z.Silicon.seen c.turns.silicon) (g.Z.Silicon.tape c.turns.silicon)) (g.E.Engine.seen c.make_turn.new.engine (g.Z.Silicon.seen c.make_turn.new.silicon) (g.Z.Silicon.tape c.make_turn.new.silicon)) (g.F.Shelf.seen c.args.shelf.now) (g.F.Shelf.seen c.turns.shelf) (g.F.Shelf.seen c.make_turn.new.shelf) (g.O.Sink.seen c.args.out.now) (g.O.Sink.seen c.turns.out) (g.O.Sink.seen c.make_turn.new.out) c.turns-test.true c.turns.invariant c.make_turn.ensures.ready c.in-Ok.ensures.small c.in-Ok.ensures.makes

pub returns-in-Err-clause-makes : goal.returns-in-Err-clause-makes
returns-in-Err-clause-makes g c = turning_failed c.args.files c.args.run.what c.args.run.count c.turns.turn c.args.start c.turns.sum (g.E.Engine.seen c.args.engine.now (g.Z.Silicon.seen c.args.silicon.now) (g.Z.Silicon.tape c.args.silicon.now)) (g.E.Engine.seen c.turns.engine (g.Z.Silicon.seen c.turns.silicon) (g.Z.Silicon.tape c.turns.silicon)) (g.E.Engine.seen c.make_turn.new.engine (g.Z.Silicon.seen c.make_turn.new.silicon) (g.Z.Silicon.tape c.make_turn.new.silicon)) (g.F.Shelf.seen c.args.shelf.now) (g.F.Shelf.seen c.turns.shelf) (g.F.Shelf.seen c.make_turn.new.shelf) (g.O.Sink.seen c.args.out.now) (g.O.Sink.seen c.turns.out) (g.O.Sink.seen c.make_turn.new.out) c.in-Err.failed c.turns-test.true c.turns.invariant c.in-Err.ensures.makes

pub returns-clause-makes : goal.returns-clause-makes
returns-clause-makes g c = turning_done c.args.files c.args.run.what c.args.run.count c.turns.turn c.args.start c.turns.sum (g.E.Engine.seen c.args.engine.now (g.Z.Silicon.seen c.args.silicon.now) (g.Z.Silicon.tape c.args.silicon.now)) (g.E.Engine.seen c.turns.engine (g.Z.Silicon.seen c.turns.silicon) (g.Z.Silicon.tape c.turns.silicon)) (g.F.Shelf.seen c.args.shelf.now) (g.F.Shelf.seen c.turns.shelf) (g.O.Sink.seen c.args.out.now) (g.O.Sink.seen c.turns.out) (omega arith) c.turns.invariant

pub returns-clause-small : goal.returns-clause-small
returns-clause-small g c = λ most b.
    let all : c.turns.turn ≡ c.args.run.count = omega (arith, c.turns.invariant.inside) in
    below_more (most + 45 * c.turns.turn) (most + 45 * c.args.run.count) c.turns.sum (omega (arith, all)) (c.turns.invariant.small most b)

pub make_turn-requires-clause-fits : goal.make_turn-requires-clause-fits
make_turn-requires-clause-fits g c = fits_now c.args.run.what (g.E.Engine.seen c.args.engine.now (g.Z.Silicon.seen c.args.silicon.now) (g.Z.Silicon.tape c.args.silicon.now)).config (g.E.Engine.seen c.turns.engine (g.Z.Silicon.seen c.turns.silicon) (g.Z.Silicon.tape c.turns.silicon)).config c.turns.invariant.going.tells.kept.config c.requires.fits

pub make_turn-requires-clause-room : goal.make_turn-requires-clause-room
make_turn-requires-clause-room g c = turn_room c.args.files c.args.run.what c.args.run.count c.turns.turn c.args.start c.turns.sum (g.E.Engine.seen c.args.engine.now (g.Z.Silicon.seen c.args.silicon.now) (g.Z.Silicon.tape c.args.silicon.now)) (g.E.Engine.seen c.turns.engine (g.Z.Silicon.seen c.turns.silicon) (g.Z.Silicon.tape c.turns.silicon)) (g.F.Shelf.seen c.args.shelf.now) (g.F.Shelf.seen c.turns.shelf) (g.O.Sink.seen c.args.out.now) (g.O.Sink.seen c.turns.out) (2 ^ 47) c.turns-test.true c.requires.room c.turns.invariant

pub make_turn-requires-clause-files : goal.make_turn-requires-clause-files
make_turn-requires-clause-files g c = going_files c.args.files _ c.args.start c.turns.sum (g.E.Engine.seen c.args.engine.now (g.Z.Silicon.seen c.args.silicon.now) (g.Z.Silicon.tape c.args.silicon.now)) (g.E.Engine.seen c.turns.engine (g.Z.Silicon.seen c.turns.silicon) (g.Z.Silicon.tape c.turns.silicon)) (g.F.Shelf.seen c.args.shelf.now) (g.F.Shelf.seen c.turns.shelf) (g.O.Sink.seen c.args.out.now) (g.O.Sink.seen c.turns.out) c.turns.invariant.going c.requires.files

pub make_turn-requires-clause-below : goal.make_turn-requires-clause-below
make_turn-requires-clause-below g c = below_more (2 ^ 61 + 45 * c.turns.turn) (2 ^ 62) c.turns.sum (omega (arith, c.requires.commits, c.turns.invariant.inside)) (c.turns.invariant.small (2 ^ 61) c.requires.below)

pub make_turn-requires-clause-commits : goal.make_turn-requires-clause-commits
make_turn-requires-clause-commits g c = turn_commits c.args.files c.args.run.what c.args.run.count c.turns.turn c.args.start c.turns.sum (g.E.Engine.seen c.args.engine.now (g.Z.Silicon.seen c.args.silicon.now) (g.Z.Silicon.tape c.args.silicon.now)) (g.E.Engine.seen c.turns.engine (g.Z.Silicon.seen c.turns.silicon) (g.Z.Silicon.tape c.turns.silicon)) (g.F.Shelf.seen c.args.shelf.now) (g.F.Shelf.seen c.turns.shelf) (g.O.Sink.seen c.args.out.now) (g.O.Sink.seen c.turns.out) 1000000 c.turns-test.true c.requires.commits c.turns.invariant
