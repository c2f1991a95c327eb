use Rattle.std.proofs.Common.{◌≡◌, ◌≤◌, ◌<◌, length, suc, ◌+◌, sym, ◌∙◌, arith}
use Rattle.silicon.proofs.Briefs.{briefs_step, briefs_end}
use Rattle.silicon.proofs.Masks.{ranges_step}
use Rattle.silicon.proofs.passing.flip_by_briefs.Goals as goal

pub loop-s-preserved : goal.loop-s-preserved
loop-s-preserved c =
    let inside : c.loop-s.s-index < length c.args.strikes.now = omega arith in
    let next : c.loop-s.s-index + 1 ≡ suc c.loop-s.s-index = omega arith in
    rw next (record {
      masks = rw c.flip_brief.ensures (briefs_step c.args.strikes.now c.loop-s.s-index _ c.args.core.0 c.args.unit c.args.n c.loop-s.packet inside ∙ c.loop-s.invariant.masks);
      ranges = ranges_step c.args.strikes.now c.loop-s.s-index c.loop-s.invariant.ranges;
    })

pub returns : goal.returns
returns c =
    let all : length c.args.strikes.now ≤ c.loop-s.s-index = omega arith in
    sym (briefs_end c.args.strikes.now c.loop-s.s-index c.args.core.0 c.args.unit c.args.n c.loop-s.packet all) ∙ c.loop-s.invariant.masks
