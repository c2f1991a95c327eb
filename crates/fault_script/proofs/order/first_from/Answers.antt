use Rattle.std.proofs.Common.{◌<◌, length, ◌+◌, ◌-◌, ◌/◌, arith}
use Rattle.fault_script.proofs.Buckets.{first_up, first_down}
use Rattle.fault_script.proofs.order.first_from.Goals as goal

pub loop-low-preserved-then-key_of_strike-q : goal.loop-low-preserved-then-key_of_strike-q
loop-low-preserved-then-key_of_strike-q c =
    let m : c.loop-low.low + (c.loop-low.high - c.loop-low.low) / 2 < length c.args.sorted.now = omega arith in
    record {
      first = first_up c.args.q c.args.sorted.now c.loop-low.low c.loop-low.high _ c.key_of_strike.result _ c.requires c.loop-low.invariant.first m c.key_of_strike.ensures (omega arith);
      order = omega arith;
      inside = c.loop-low.invariant.inside;
    }

pub loop-low-preserved : goal.loop-low-preserved
loop-low-preserved c =
    let m : c.loop-low.low + (c.loop-low.high - c.loop-low.low) / 2 < length c.args.sorted.now = omega arith in
    record {
      first = first_down c.args.q c.args.sorted.now c.loop-low.low c.loop-low.high _ c.key_of_strike.result _ c.requires c.loop-low.invariant.first m c.key_of_strike.ensures (omega arith);
      order = omega arith;
      inside = omega arith;
    }
