use Rattle.std.proofs.Common.{arith}
use Rattle.run_loop.proofs.Runs.{fits_now}
use Rattle.g5_debugger.specs.declared.making.Reached.{Reached}
use Rattle.g5_debugger.proofs.NextTurns.{before_next, none_made, no_more, one_more}
use Rattle.g5_debugger.proofs.making.make_next.Goals as goal

pub turns-init : goal.turns-init
turns-init g c =
    let old = g.E.Engine.seen c.args.engine.now (g.Z.Silicon.seen c.args.silicon.now)
    (g.Z.Silicon.tape c.args.silicon.now) in
    (none_made c.args.runs.now c.args.start old c.requires.ready, omega arith)

pub returns-in_default : goal.returns-in_default
returns-in_default g c =
    let old = g.E.Engine.seen c.args.engine.now (g.Z.Silicon.seen c.args.silicon.now)
    (g.Z.Silicon.tape c.args.silicon.now) in
    let now = g.E.Engine.seen c.turns.engine (g.Z.Silicon.seen c.turns.silicon)
    (g.Z.Silicon.tape c.turns.silicon) in
    no_more c.turns.turn c.args.count c.args.runs.now c.args.start c.turns.reached old now
    c.in_default.ensures.next c.turns.invariant.1 c.turns.invariant.0

pub make_one-made-requires-clause-fits : goal.make_one-made-requires-clause-fits
make_one-made-requires-clause-fits g c =
    let old = g.E.Engine.seen c.args.engine.now (g.Z.Silicon.seen c.args.silicon.now)
    (g.Z.Silicon.tape c.args.silicon.now) in
    let now = g.E.Engine.seen c.turns.engine (g.Z.Silicon.seen c.turns.silicon)
    (g.Z.Silicon.tape c.turns.silicon) in
    fits_now c.in-Some.kind old.config now.config c.turns.invariant.0.tells.kept.config
    (c.in-Some.ensures.fits old.config.cpus c.requires.fits)

pub make_one-made-requires-clause-below : goal.make_one-made-requires-clause-below
make_one-made-requires-clause-below g c =
    let old = g.E.Engine.seen c.args.engine.now (g.Z.Silicon.seen c.args.silicon.now)
    (g.Z.Silicon.tape c.args.silicon.now) in
    let now = g.E.Engine.seen c.turns.engine (g.Z.Silicon.seen c.turns.silicon)
    (g.Z.Silicon.tape c.turns.silicon) in
    (before_next c.turns.turn c.args.count c.args.runs.now c.args.start c.turns.reached old now
    c.turns-test.true c.requires.room c.requires.below c.requires.few c.turns.invariant.0).below

pub turns-preserved : goal.turns-preserved
turns-preserved g c =
    let old = g.E.Engine.seen c.args.engine.now (g.Z.Silicon.seen c.args.silicon.now)
    (g.Z.Silicon.tape c.args.silicon.now) in
    let now = g.E.Engine.seen c.turns.engine (g.Z.Silicon.seen c.turns.silicon)
    (g.Z.Silicon.tape c.turns.silicon) in
    let new = g.E.Engine.seen c.make_one-made.new.engine
    (g.Z.Silicon.seen c.make_one-made.new.silicon) (g.Z.Silicon.tape c.make_one-made.new.silicon) in
    let end : Reached = record { place = c.in-Some.place; made = c.make_one-made.result } in
    let less = c.turns-test.true in (
      one_more c.turns.turn c.args.runs.now c.args.start c.turns.reached end c.in-Some.kind
          old now new c.in-Some.ensures.next c.turns.invariant.0 c.make_one-made.ensures,
      omega (arith, less),
    )
