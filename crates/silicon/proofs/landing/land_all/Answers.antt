use Rattle.std.proofs.Common.{◌≡◌, ◌≤◌, ◌<◌, length, suc, ◌+◌, arith}
use Rattle.silicon.proofs.Masks.{ranges_step}
use Rattle.silicon.proofs.Lands.{lands_step, lands_end}
use Rattle.silicon.proofs.landing.land_all.Goals as goal

pub loop-s-preserved : goal.loop-s-preserved
loop-s-preserved c =
    let inside : c.loop-s.s-index < length c.args.strikes.now = omega arith in
    let next : c.loop-s.s-index + 1 ≡ suc c.loop-s.s-index = omega arith in
    rw next (record {
      lands = lands_step c.args.strikes.now c.loop-s.s-index _ c.args.core.0 c.args.n c.args.words.now c.loop-s.words c.land_one.new.words inside c.land_one.ensures.lands c.loop-s.invariant.lands;
      whole = c.land_one.ensures.whole;
      ranges = ranges_step c.args.strikes.now c.loop-s.s-index c.loop-s.invariant.ranges;
    })

pub returns-clause-lands : goal.returns-clause-lands
returns-clause-lands c =
    let all : length c.args.strikes.now ≤ c.loop-s.s-index = omega arith in
    lands_end c.args.strikes.now c.loop-s.s-index c.args.core.0 c.args.n c.args.words.now c.loop-s.words all c.loop-s.invariant.lands
