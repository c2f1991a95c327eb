use Rattle.std.proofs.Common.{arith}
use Rattle.gen_runs.proofs.Adding.{between_turns, none_tallied, turn_more}
use Rattle.gen_runs.proofs.counting.count_run.Goals as goal

pub turns-init : goal.turns-init
turns-init g c =
    let old = g.E.Engine.seen c.args.engine.now (g.Z.Silicon.seen c.args.silicon.now)
    (g.Z.Silicon.tape c.args.silicon.now) in
    (none_tallied c.args.start old c.requires.ready, omega arith)

pub count_one-sum-requires-clause-below : goal.count_one-sum-requires-clause-below
count_one-sum-requires-clause-below g c =
    let old = g.E.Engine.seen c.args.engine.now (g.Z.Silicon.seen c.args.silicon.now)
    (g.Z.Silicon.tape c.args.silicon.now) in
    let now = g.E.Engine.seen c.turns.engine (g.Z.Silicon.seen c.turns.silicon)
    (g.Z.Silicon.tape c.turns.silicon) in
    (between_turns c.args.run.what c.args.run.count c.turns.turn c.args.start c.turns.sum old now
    c.turns-test.true c.requires.room c.requires.below c.requires.commits c.requires.trace
    c.turns.invariant.0).below

pub turns-preserved : goal.turns-preserved
turns-preserved g c =
    let old = g.E.Engine.seen c.args.engine.now (g.Z.Silicon.seen c.args.silicon.now)
    (g.Z.Silicon.tape c.args.silicon.now) in
    let now = g.E.Engine.seen c.turns.engine (g.Z.Silicon.seen c.turns.silicon)
    (g.Z.Silicon.tape c.turns.silicon) in
    let new = g.E.Engine.seen c.count_one-sum.new.engine
    (g.Z.Silicon.seen c.count_one-sum.new.silicon) (g.Z.Silicon.tape c.count_one-sum.new.silicon) in
    let less = c.turns-test.true in (
      turn_more c.args.run.what c.turns.turn c.args.start c.turns.sum c.count_one-sum.result old now
          new c.turns.invariant.0 c.count_one-sum.ensures,
      omega (arith, less),
    )
