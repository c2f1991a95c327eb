-- Turns and tail one after another.
use Rattle.std.proofs.Common.{◌∷◌, [], ◌≤◌, ◌+◌, ◌^◌, sym, subst, drop, arith, Ok, Err}
use Rattle.run_model.specs.Schedule.{kinds_of, turns_of}
use Rattle.run_loop.proofs.Rising.{below_more}
use Rattle.machine_runs.specs.Views.{view_of}
use Rattle.machine_runs.proofs.Wholes.{files_stay}
use Rattle.saved_runs.proofs.Rests.{rest_cut, rest_failed, rest_made, rest_said}
use Rattle.saved_runs.proofs.rest.make_rest.Goals as goal

pub make_part-requires-clause-room : goal.make_part-requires-clause-room
make_part-requires-clause-room g c =
    let few : turns_of c.runs.result.now ≤ 1000000 = subst (λ rs. turns_of rs ≤ 1000000) (sym c.runs.ensures) c.requires.few in
    omega (arith, few, c.requires.turns)

pub make_part-requires-clause-below : goal.make_part-requires-clause-below
make_part-requires-clause-below g c = below_more 1000000 (2 ^ 60) c.args.start (omega arith) c.requires.counts

pub write_tail-requires : goal.write_tail-requires
write_tail-requires g c = files_stay c.args.files _ (g.F.Shelf.seen c.args.shelf.now) (g.F.Shelf.seen c.make_part.new.shelf) (g.O.Sink.seen c.args.out.now) (g.O.Sink.seen c.make_part.new.out) _ c.in-Ok.ensures.makes.written c.requires.files

pub returns-in-Err : goal.returns-in-Err
returns-in-Err g c =
    let f = c.in-Err.failed in
    rest_failed c.args.files c.args.start (drop c.args.start.turns (kinds_of c.args.schedule.now)) (view_of c.args.machine.now (g.Z.Silicon.seen c.args.silicon.now) (g.Z.Silicon.tape c.args.silicon.now)) (view_of c.make_part.new.engine (g.Z.Silicon.seen c.make_part.new.silicon) (g.Z.Silicon.tape c.make_part.new.silicon)) (g.F.Shelf.seen c.args.shelf.now) (g.F.Shelf.seen c.make_part.new.shelf) (g.O.Sink.seen c.args.out.now) (g.O.Sink.seen c.make_part.new.out) f
    (rest_said c.args.files c.args.start c.args.schedule.now c.runs.result.now c.turns.result (view_of c.args.machine.now (g.Z.Silicon.seen c.args.silicon.now) (g.Z.Silicon.tape c.args.silicon.now)) (view_of c.make_part.new.engine (g.Z.Silicon.seen c.make_part.new.silicon) (g.Z.Silicon.tape c.make_part.new.silicon)) (g.F.Shelf.seen c.args.shelf.now) (g.F.Shelf.seen c.make_part.new.shelf) (g.O.Sink.seen c.args.out.now) (g.O.Sink.seen c.make_part.new.out) (Err f) c.turns.ensures c.runs.ensures c.in-Err.ensures.makes)

pub returns-in-Err-write_tail : goal.returns-in-Err-write_tail
returns-in-Err-write_tail g c =
    let n = c.in-Ok.made in
    let f = c.in-Err-write_tail.failed in
    rest_cut c.args.files c.args.start (drop c.args.start.turns (kinds_of c.args.schedule.now)) (view_of c.args.machine.now (g.Z.Silicon.seen c.args.silicon.now) (g.Z.Silicon.tape c.args.silicon.now)) (view_of c.make_part.new.engine (g.Z.Silicon.seen c.make_part.new.silicon) (g.Z.Silicon.tape c.make_part.new.silicon)) (g.F.Shelf.seen c.args.shelf.now) (g.F.Shelf.seen c.make_part.new.shelf) (g.F.Shelf.seen c.write_tail.new.shelf) (g.O.Sink.seen c.args.out.now) (g.O.Sink.seen c.make_part.new.out) (g.O.Sink.seen c.write_tail.new.out) n f
    (rest_said c.args.files c.args.start c.args.schedule.now c.runs.result.now c.turns.result (view_of c.args.machine.now (g.Z.Silicon.seen c.args.silicon.now) (g.Z.Silicon.tape c.args.silicon.now)) (view_of c.make_part.new.engine (g.Z.Silicon.seen c.make_part.new.silicon) (g.Z.Silicon.tape c.make_part.new.silicon)) (g.F.Shelf.seen c.args.shelf.now) (g.F.Shelf.seen c.make_part.new.shelf) (g.O.Sink.seen c.args.out.now) (g.O.Sink.seen c.make_part.new.out) (Ok n) c.turns.ensures c.runs.ensures c.in-Ok.ensures.makes)
    c.in-Err-write_tail.ensures

pub returns-in-Ok-write_tail : goal.returns-in-Ok-write_tail
returns-in-Ok-write_tail g c =
    let n = c.in-Ok.made in
    rest_made c.args.files c.args.start (drop c.args.start.turns (kinds_of c.args.schedule.now)) (view_of c.args.machine.now (g.Z.Silicon.seen c.args.silicon.now) (g.Z.Silicon.tape c.args.silicon.now)) (view_of c.make_part.new.engine (g.Z.Silicon.seen c.make_part.new.silicon) (g.Z.Silicon.tape c.make_part.new.silicon)) (g.F.Shelf.seen c.args.shelf.now) (g.F.Shelf.seen c.make_part.new.shelf) (g.F.Shelf.seen c.write_tail.new.shelf) (g.O.Sink.seen c.args.out.now) (g.O.Sink.seen c.make_part.new.out) (g.O.Sink.seen c.write_tail.new.out) n
    (rest_said c.args.files c.args.start c.args.schedule.now c.runs.result.now c.turns.result (view_of c.args.machine.now (g.Z.Silicon.seen c.args.silicon.now) (g.Z.Silicon.tape c.args.silicon.now)) (view_of c.make_part.new.engine (g.Z.Silicon.seen c.make_part.new.silicon) (g.Z.Silicon.tape c.make_part.new.silicon)) (g.F.Shelf.seen c.args.shelf.now) (g.F.Shelf.seen c.make_part.new.shelf) (g.O.Sink.seen c.args.out.now) (g.O.Sink.seen c.make_part.new.out) (Ok n) c.turns.ensures c.runs.ensures c.in-Ok.ensures.makes)
    c.in-Ok-write_tail.ensures
