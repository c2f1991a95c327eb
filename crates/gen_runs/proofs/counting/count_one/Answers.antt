use Rattle.run_loop.specs.Engines.{told_of}
use Rattle.run_loop.proofs.Telling.{tells_one}
use Rattle.gen_runs.proofs.Adding.{one_tallied}
use Rattle.gen_runs.proofs.counting.count_one.Goals as goal

pub returns : goal.returns
returns g c =
    let old = g.E.Engine.seen c.args.engine.now (g.Z.Silicon.seen c.args.silicon.now) (g.Z.Silicon.tape c.args.silicon.now) in
    let new = g.E.Engine.seen c.turn.new.self (g.Z.Silicon.seen c.turn.new.silicon) (g.Z.Silicon.tape c.turn.new.silicon) in
    let t = told_of c.turn.new.told in
    let made = c.turn.ensures in
    one_tallied c.args.kind t c.args.before c.add_turn.result old new
    (tells_one c.args.kind t old new made.turns made.kept made.causes made.obeys made.follows)
    made.ready c.add_turn.ensures.counts c.add_turn.ensures.trace c.add_turn.ensures.rises
