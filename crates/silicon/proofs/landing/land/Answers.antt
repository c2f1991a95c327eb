use Rattle.std.proofs.Common.{◌+◌}
use Rattle.fault_script.specs.Walks.{IsOn}
use Rattle.silicon.proofs.Smalls.{lands_as, lands_none}
use Rattle.silicon.proofs.landing.land.Goals as goal

pub returns-in-None : goal.returns-in-None
returns-in-None c = rw c.in-None.is (lands_none c.args.core.0 c.args.n c.args.words.now)

pub returns-in-Some : goal.returns-in-Some
returns-in-Some c =
    let walk = c.in-Some.walk in
    let on : IsOn walk c.args.core.0 (c.args.n + 1) = rw c.in-Some.is at c.requires.walked in
    rw c.in-Some.is (lands_as walk.ordered c.under.result.now c.args.core.0 c.args.n c.args.words.now c.land_all.new.words c.land_all.ensures.lands (c.under.ensures.part c.args.n on))
