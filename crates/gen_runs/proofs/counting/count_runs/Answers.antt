use Rattle.std.proofs.Common.{arith}
use Rattle.gen_runs.proofs.Adding.{all_runs, between_runs, first_runs, run_more, small_runs}
use Rattle.gen_runs.proofs.counting.count_runs.Goals as goal

pub runs-init : goal.runs-init
runs-init g c =
    let old = g.E.Engine.seen c.args.engine.now (g.Z.Silicon.seen c.args.silicon.now)
    (g.Z.Silicon.tape c.args.silicon.now) in
    first_runs c.args.runs.now c.nothing_counted-sum.result old c.nothing_counted-sum.ensures
    c.requires.ready

pub count_run-sum-requires-clause-fits : goal.count_run-sum-requires-clause-fits
count_run-sum-requires-clause-fits g c =
    let old = g.E.Engine.seen c.args.engine.now (g.Z.Silicon.seen c.args.silicon.now)
    (g.Z.Silicon.tape c.args.silicon.now) in
    let now = g.E.Engine.seen c.runs.engine (g.Z.Silicon.seen c.runs.silicon)
    (g.Z.Silicon.tape c.runs.silicon) in
    (between_runs c.args.runs.now c.runs.run-index _ c.runs.sum old now c.runs-test.true
    c.requires.fits c.requires.room c.requires.few c.runs.invariant).fits

pub count_run-sum-requires-clause-room : goal.count_run-sum-requires-clause-room
count_run-sum-requires-clause-room g c =
    let old = g.E.Engine.seen c.args.engine.now (g.Z.Silicon.seen c.args.silicon.now)
    (g.Z.Silicon.tape c.args.silicon.now) in
    let now = g.E.Engine.seen c.runs.engine (g.Z.Silicon.seen c.runs.silicon)
    (g.Z.Silicon.tape c.runs.silicon) in
    (between_runs c.args.runs.now c.runs.run-index _ c.runs.sum old now c.runs-test.true
    c.requires.fits c.requires.room c.requires.few c.runs.invariant).room

pub count_run-sum-requires-clause-below : goal.count_run-sum-requires-clause-below
count_run-sum-requires-clause-below g c =
    let old = g.E.Engine.seen c.args.engine.now (g.Z.Silicon.seen c.args.silicon.now)
    (g.Z.Silicon.tape c.args.silicon.now) in
    let now = g.E.Engine.seen c.runs.engine (g.Z.Silicon.seen c.runs.silicon)
    (g.Z.Silicon.tape c.runs.silicon) in
    (small_runs c.args.runs.now c.runs.run-index c.runs.sum old now c.requires.few
    c.runs.invariant).below

pub count_run-sum-requires-clause-commits : goal.count_run-sum-requires-clause-commits
count_run-sum-requires-clause-commits g c =
    let old = g.E.Engine.seen c.args.engine.now (g.Z.Silicon.seen c.args.silicon.now)
    (g.Z.Silicon.tape c.args.silicon.now) in
    let now = g.E.Engine.seen c.runs.engine (g.Z.Silicon.seen c.runs.silicon)
    (g.Z.Silicon.tape c.runs.silicon) in
    (between_runs c.args.runs.now c.runs.run-index _ c.runs.sum old now c.runs-test.true
    c.requires.fits c.requires.room c.requires.few c.runs.invariant).commits

pub count_run-sum-requires-clause-trace : goal.count_run-sum-requires-clause-trace
count_run-sum-requires-clause-trace g c =
    let old = g.E.Engine.seen c.args.engine.now (g.Z.Silicon.seen c.args.silicon.now)
    (g.Z.Silicon.tape c.args.silicon.now) in
    let now = g.E.Engine.seen c.runs.engine (g.Z.Silicon.seen c.runs.silicon)
    (g.Z.Silicon.tape c.runs.silicon) in
    (small_runs c.args.runs.now c.runs.run-index c.runs.sum old now c.requires.few
    c.runs.invariant).trace

pub runs-preserved : goal.runs-preserved
runs-preserved g c =
    let old = g.E.Engine.seen c.args.engine.now (g.Z.Silicon.seen c.args.silicon.now)
    (g.Z.Silicon.tape c.args.silicon.now) in
    let now = g.E.Engine.seen c.runs.engine (g.Z.Silicon.seen c.runs.silicon)
    (g.Z.Silicon.tape c.runs.silicon) in
    let new = g.E.Engine.seen c.count_run-sum.new.engine
    (g.Z.Silicon.seen c.count_run-sum.new.silicon) (g.Z.Silicon.tape c.count_run-sum.new.silicon) in
    run_more c.args.runs.now c.runs.run-index _ _ c.runs.sum c.count_run-sum.result old now new
    c.runs-test.true c.runs.invariant c.count_run-sum.ensures

pub returns : goal.returns
returns g c =
    let old = g.E.Engine.seen c.args.engine.now (g.Z.Silicon.seen c.args.silicon.now)
    (g.Z.Silicon.tape c.args.silicon.now) in
    let now = g.E.Engine.seen c.runs.engine (g.Z.Silicon.seen c.runs.silicon)
    (g.Z.Silicon.tape c.runs.silicon) in
    all_runs c.args.runs.now c.runs.run-index c.runs.sum old now (omega arith) c.runs.invariant
