use Rattle.run_loop.specs.Engines.{told_of}
use Rattle.run_loop.proofs.Telling.{tells_one}
use Rattle.g5_debugger.proofs.making.make_one.Goals as goal

pub returns : goal.returns
returns g c =
    let old = g.E.Engine.seen c.args.engine.now (g.Z.Silicon.seen c.args.silicon.now) (g.Z.Silicon.tape c.args.silicon.now) in
    let new = g.E.Engine.seen c.turn.new.self (g.Z.Silicon.seen c.turn.new.silicon) (g.Z.Silicon.tape c.turn.new.silicon) in
    let t = told_of c.turn.new.told in
    let made = c.turn.ensures in
    record {
      told = t;
      tells = tells_one c.args.kind t old new made.turns made.kept made.causes made.obeys made.follows;
      counted = c.count_turn.ensures.counts;
      small = c.count_turn.ensures.small;
      ready = made.ready;
    }
