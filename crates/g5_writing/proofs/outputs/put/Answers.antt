use Rattle.run_model.specs.declared.outputs.Place.TheVariants.{Log, Trace, Out}
use Rattle.g5_writing.proofs.Putting.{grew_log, grew_trace, grew_out, put_one, on_shelf, on_sink}
use Rattle.g5_writing.proofs.outputs.put.Goals as goal

pub returns-in-Log : goal.returns-in-Log
returns-in-Log g c =
    let a = c.add_to_file.ensures in
    let s = g.F.Shelf.seen c.args.shelf.now in
    let t = g.F.Shelf.seen c.add_to_file.new.shelf in
    let o = g.O.Sink.seen c.args.out.now in
    rw c.in-Log.is (put_one c.args.files Log c.args.bytes.now a.count s t o o c.add_to_file.result (grew_log c.args.files _ s t o c.requires a.grew) a.all (on_shelf c.add_to_file.result _ _ a.cause))

pub returns-in-Trace : goal.returns-in-Trace
returns-in-Trace g c =
    let a = c.add_to_file-in-Trace.ensures in
    let s = g.F.Shelf.seen c.args.shelf.now in
    let t = g.F.Shelf.seen c.add_to_file-in-Trace.new.shelf in
    let o = g.O.Sink.seen c.args.out.now in
    rw c.in-Trace.is (put_one c.args.files Trace c.args.bytes.now a.count s t o o c.add_to_file-in-Trace.result (grew_trace c.args.files _ s t o c.requires a.grew) a.all (on_shelf c.add_to_file-in-Trace.result _ _ a.cause))

pub returns-in-Out : goal.returns-in-Out
returns-in-Out g c =
    let a = c.add_to_sink.ensures in
    let s = g.F.Shelf.seen c.args.shelf.now in
    let o = g.O.Sink.seen c.args.out.now in
    let p = g.O.Sink.seen c.add_to_sink.new.out in
    rw c.in-Out.is (put_one c.args.files Out c.args.bytes.now a.count s s o p c.add_to_sink.result (grew_out c.args.files _ s o p a.grew) a.all (on_sink c.add_to_sink.result _ _ a.cause))
