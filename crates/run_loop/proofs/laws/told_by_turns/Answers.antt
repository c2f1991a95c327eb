use Rattle.run_loop.proofs.Ends.{told_by_turns}
use Rattle.run_loop.proofs.laws.told_by_turns.Goals as goal

pub returns : goal.returns
returns g c = λ y z v w files ks a b o p r m h fits.
    told_by_turns files ks (g.E.Engine.seen c.args.old.now y v) (g.E.Engine.seen c.args.new.now z w) a b o p r m h fits
