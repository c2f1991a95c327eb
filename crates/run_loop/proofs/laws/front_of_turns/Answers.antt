use Rattle.run_loop.proofs.Ends.{front_run}
use Rattle.run_loop.proofs.laws.front_of_turns.Goals as goal

pub returns : goal.returns
returns g c = λ y z v w files start ks a b o p r x j m h le sound.
    front_run files start ks (g.E.Engine.seen c.args.old.now y v) (g.E.Engine.seen c.args.new.now z w) a b o p r x j m h le sound
