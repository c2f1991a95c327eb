-- Head and turns one after another.
use Rattle.std.proofs.Common.{◌∷◌, [], ◌≤◌, sym, subst, take, Ok, Err}
use Rattle.run_model.specs.declared.outputs.Place.TheVariants.{Log}
use Rattle.run_model.specs.LogLines.{head}
use Rattle.run_model.specs.Pieces.{piece}
use Rattle.run_model.specs.Schedule.{kinds_of, turns_of}
use Rattle.machine_runs.specs.Views.{view_of}
use Rattle.machine_runs.proofs.Wholes.{files_stay, head_said, ready_first, room_first}
use Rattle.saved_runs.proofs.Firsts.{first_failed, first_made, first_said, none_below, none_committed, none_turned}
use Rattle.saved_runs.proofs.first.make_first.Goals as goal

pub make_part-requires-clause-ready : goal.make_part-requires-clause-ready
make_part-requires-clause-ready g c = ready_first c.args.machine.now (g.Z.Silicon.seen c.args.silicon.now) c.requires.start

pub make_part-requires-clause-room : goal.make_part-requires-clause-room
make_part-requires-clause-room g c = room_first c.args.machine.now (g.Z.Silicon.seen c.args.silicon.now) (turns_of c.runs.result.now) c.requires.start (subst (λ rs. turns_of rs ≤ 1000000) (sym c.runs.ensures) c.requires.few)

pub make_part-requires-clause-files : goal.make_part-requires-clause-files
make_part-requires-clause-files g c = files_stay c.args.files (piece Log (head c.config.result.now) ∷ []) (g.F.Shelf.seen c.args.shelf.now) (g.F.Shelf.seen c.write_head.new.shelf) (g.O.Sink.seen c.args.out.now) (g.O.Sink.seen c.write_head.new.out) _ c.in-Ok.ensures c.requires.files

pub make_part-requires-clause-below : goal.make_part-requires-clause-below
make_part-requires-clause-below g c = none_below c.none_made.result c.none_made.ensures

pub make_part-requires-clause-made : goal.make_part-requires-clause-made
make_part-requires-clause-made g c = none_turned c.none_made.result (turns_of c.runs.result.now) c.none_made.ensures

pub make_part-requires-clause-commits : goal.make_part-requires-clause-commits
make_part-requires-clause-commits g c = none_committed c.none_made.result c.none_made.ensures

pub returns-in-Err-clause-makes : goal.returns-in-Err-clause-makes
returns-in-Err-clause-makes g c =
    let f = c.in-Err.failed in
    first_failed c.args.files (take c.args.most (kinds_of c.args.schedule.now)) (view_of c.args.machine.now (g.Z.Silicon.seen c.args.silicon.now) (g.Z.Silicon.tape c.args.silicon.now)) (g.F.Shelf.seen c.args.shelf.now) (g.F.Shelf.seen c.write_head.new.shelf) (g.O.Sink.seen c.args.out.now) (g.O.Sink.seen c.write_head.new.out) f
    (head_said c.args.files c.args.machine.now.machine.config c.config.result.now (g.F.Shelf.seen c.args.shelf.now) (g.F.Shelf.seen c.write_head.new.shelf) (g.O.Sink.seen c.args.out.now) (g.O.Sink.seen c.write_head.new.out) (Err f) c.config.ensures c.in-Err.ensures)

pub returns-clause-makes : goal.returns-clause-makes
returns-clause-makes g c =
    first_made c.args.files (take c.args.most (kinds_of c.args.schedule.now)) (view_of c.args.machine.now (g.Z.Silicon.seen c.args.silicon.now) (g.Z.Silicon.tape c.args.silicon.now)) (view_of c.make_part.new.engine (g.Z.Silicon.seen c.make_part.new.silicon) (g.Z.Silicon.tape c.make_part.new.silicon)) (g.F.Shelf.seen c.args.shelf.now) (g.F.Shelf.seen c.write_head.new.shelf) (g.F.Shelf.seen c.make_part.new.shelf) (g.O.Sink.seen c.args.out.now) (g.O.Sink.seen c.write_head.new.out) (g.O.Sink.seen c.make_part.new.out) c.make_part.result
    (head_said c.args.files c.args.machine.now.machine.config c.config.result.now (g.F.Shelf.seen c.args.shelf.now) (g.F.Shelf.seen c.write_head.new.shelf) (g.O.Sink.seen c.args.out.now) (g.O.Sink.seen c.write_head.new.out) (Ok tt) c.config.ensures c.in-Ok.ensures)
    (first_said c.args.files c.none_made.result c.args.schedule.now c.runs.result.now c.args.most (view_of c.args.machine.now (g.Z.Silicon.seen c.args.silicon.now) (g.Z.Silicon.tape c.args.silicon.now)) (view_of c.make_part.new.engine (g.Z.Silicon.seen c.make_part.new.silicon) (g.Z.Silicon.tape c.make_part.new.silicon)) (g.F.Shelf.seen c.write_head.new.shelf) (g.F.Shelf.seen c.make_part.new.shelf) (g.O.Sink.seen c.write_head.new.out) (g.O.Sink.seen c.make_part.new.out) c.make_part.result c.none_made.ensures c.runs.ensures c.make_part.ensures.makes)

pub returns-in-Err-clause-ready : goal.returns-in-Err-clause-ready
returns-in-Err-clause-ready g c =
    ready_first c.args.machine.now (g.Z.Silicon.seen c.args.silicon.now) c.requires.start
