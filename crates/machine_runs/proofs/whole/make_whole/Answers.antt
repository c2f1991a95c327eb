-- Head, turns and tail one after another.
use Rattle.std.proofs.Common.{◌∷◌, [], sym, subst, Ok, Err}
use Rattle.run_model.specs.declared.outputs.Place.TheVariants.{Log}
use Rattle.run_model.specs.LogLines.{head}
use Rattle.run_model.specs.Pieces.{piece}
use Rattle.run_model.specs.Schedule.{kinds_of, turns_of}
use Rattle.std.specs.Prelude.{◌≤◌}
use Rattle.machine_runs.specs.Views.{view_of}
use Rattle.machine_runs.proofs.Wholes.{all_made, files_stay, head_failed, head_said, ready_first, room_first, tail_failed, turns_failed, turns_said}
use Rattle.machine_runs.proofs.whole.make_whole.Goals as goal

pub make_runs-requires-clause-ready : goal.make_runs-requires-clause-ready
make_runs-requires-clause-ready g c =
    ready_first c.args.machine.now (g.Z.Silicon.seen c.args.silicon.now) c.requires.start

pub make_runs-requires-clause-room : goal.make_runs-requires-clause-room
make_runs-requires-clause-room g c =
    room_first c.args.machine.now (g.Z.Silicon.seen c.args.silicon.now) (turns_of c.runs.result.now)
    c.requires.start
    (subst (λ rs. turns_of rs ≤ 1000000) (sym c.runs.ensures) c.requires.few)

pub make_runs-requires-clause-files : goal.make_runs-requires-clause-files
make_runs-requires-clause-files g c =
    files_stay c.args.files (piece Log (head c.config.result.now) ∷ [])
    (g.F.Shelf.seen c.args.shelf.now) (g.F.Shelf.seen c.write_head.new.shelf)
    (g.O.Sink.seen c.args.out.now) (g.O.Sink.seen c.write_head.new.out) _ c.in-Ok.ensures
    c.requires.files

pub write_tail-requires : goal.write_tail-requires
write_tail-requires g c =
    files_stay c.args.files _
    (g.F.Shelf.seen c.write_head.new.shelf) (g.F.Shelf.seen c.make_runs.new.shelf)
    (g.O.Sink.seen c.write_head.new.out) (g.O.Sink.seen c.make_runs.new.out) _
    c.in-Ok-make_runs.ensures.makes.written
    (files_stay c.args.files (piece Log (head c.config.result.now) ∷ [])
    (g.F.Shelf.seen c.args.shelf.now) (g.F.Shelf.seen c.write_head.new.shelf)
    (g.O.Sink.seen c.args.out.now) (g.O.Sink.seen c.write_head.new.out) _ c.in-Ok.ensures
    c.requires.files)

pub returns-in-Err : goal.returns-in-Err
returns-in-Err g c =
    let e = c.args.machine.now in
    let old = view_of e (g.Z.Silicon.seen c.args.silicon.now)
    (g.Z.Silicon.tape c.args.silicon.now) in
    let sa = g.F.Shelf.seen c.args.shelf.now in
    let sb = g.F.Shelf.seen c.write_head.new.shelf in
    let oa = g.O.Sink.seen c.args.out.now in
    let ob = g.O.Sink.seen c.write_head.new.out in
    head_failed c.args.files (kinds_of c.args.schedule.now) old sa sb oa ob c.in-Err.failed
    (head_said c.args.files e.machine.config c.config.result.now sa sb oa ob (Err c.in-Err.failed)
    c.config.ensures c.in-Err.ensures)

pub returns-in-Err-make_runs : goal.returns-in-Err-make_runs
returns-in-Err-make_runs g c =
    let e = c.args.machine.now in
    let old = view_of e (g.Z.Silicon.seen c.args.silicon.now)
    (g.Z.Silicon.tape c.args.silicon.now) in
    let new = view_of c.make_runs.new.engine (g.Z.Silicon.seen c.make_runs.new.silicon)
    (g.Z.Silicon.tape c.make_runs.new.silicon) in
    let sa = g.F.Shelf.seen c.args.shelf.now in
    let sb = g.F.Shelf.seen c.write_head.new.shelf in
    let sc = g.F.Shelf.seen c.make_runs.new.shelf in
    let oa = g.O.Sink.seen c.args.out.now in
    let ob = g.O.Sink.seen c.write_head.new.out in
    let oc = g.O.Sink.seen c.make_runs.new.out in
    let f = c.in-Err-make_runs.failed in
    turns_failed c.args.files (kinds_of c.args.schedule.now) old new sa sb sc oa ob oc f
    (head_said c.args.files e.machine.config c.config.result.now sa sb oa ob (Ok tt)
    c.config.ensures c.in-Ok.ensures)
    (turns_said c.args.files c.none_made.result c.args.schedule.now c.runs.result.now old new sb sc
    ob oc (Err f) c.none_made.ensures c.runs.ensures c.in-Err-make_runs.ensures.makes)

pub returns-in-Err-write_tail : goal.returns-in-Err-write_tail
returns-in-Err-write_tail g c =
    let e = c.args.machine.now in
    let old = view_of e (g.Z.Silicon.seen c.args.silicon.now)
    (g.Z.Silicon.tape c.args.silicon.now) in
    let new = view_of c.make_runs.new.engine (g.Z.Silicon.seen c.make_runs.new.silicon)
    (g.Z.Silicon.tape c.make_runs.new.silicon) in
    let sa = g.F.Shelf.seen c.args.shelf.now in
    let sb = g.F.Shelf.seen c.write_head.new.shelf in
    let sc = g.F.Shelf.seen c.make_runs.new.shelf in
    let sd = g.F.Shelf.seen c.write_tail.new.shelf in
    let oa = g.O.Sink.seen c.args.out.now in
    let ob = g.O.Sink.seen c.write_head.new.out in
    let oc = g.O.Sink.seen c.make_runs.new.out in
    let od = g.O.Sink.seen c.write_tail.new.out in
    let n = c.in-Ok-make_runs.made in
    let f = c.in-Err-write_tail.failed in
    tail_failed c.args.files (kinds_of c.args.schedule.now) old new sa sb sc sd oa ob oc od n f
    (head_said c.args.files e.machine.config c.config.result.now sa sb oa ob (Ok tt)
    c.config.ensures c.in-Ok.ensures)
    (turns_said c.args.files c.none_made.result c.args.schedule.now c.runs.result.now old new sb sc
    ob oc (Ok n) c.none_made.ensures c.runs.ensures c.in-Ok-make_runs.ensures.makes)
    c.in-Err-write_tail.ensures

pub returns-in-Ok-write_tail : goal.returns-in-Ok-write_tail
returns-in-Ok-write_tail g c =
    let e = c.args.machine.now in
    let old = view_of e (g.Z.Silicon.seen c.args.silicon.now)
    (g.Z.Silicon.tape c.args.silicon.now) in
    let new = view_of c.make_runs.new.engine (g.Z.Silicon.seen c.make_runs.new.silicon)
    (g.Z.Silicon.tape c.make_runs.new.silicon) in
    let sa = g.F.Shelf.seen c.args.shelf.now in
    let sb = g.F.Shelf.seen c.write_head.new.shelf in
    let sc = g.F.Shelf.seen c.make_runs.new.shelf in
    let sd = g.F.Shelf.seen c.write_tail.new.shelf in
    let oa = g.O.Sink.seen c.args.out.now in
    let ob = g.O.Sink.seen c.write_head.new.out in
    let oc = g.O.Sink.seen c.make_runs.new.out in
    let od = g.O.Sink.seen c.write_tail.new.out in
    let n = c.in-Ok-make_runs.made in
    all_made c.args.files (kinds_of c.args.schedule.now) old new sa sb sc sd oa ob oc od n
    (head_said c.args.files e.machine.config c.config.result.now sa sb oa ob (Ok tt)
    c.config.ensures c.in-Ok.ensures)
    (turns_said c.args.files c.none_made.result c.args.schedule.now c.runs.result.now old new sb sc
    ob oc (Ok n) c.none_made.ensures c.runs.ensures c.in-Ok-make_runs.ensures.makes)
    c.in-Ok-write_tail.ensures
