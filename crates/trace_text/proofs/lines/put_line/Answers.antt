use Rattle.std.proofs.Common.{arith, ap, length, length-append}
use Rattle.run_model.specs.Trace.{changes_text}
use Rattle.trace_text.proofs.Stretches.{length_changes}
use Rattle.trace_text.proofs.lines.put_line.Goals as goal

pub put_changes-requires : goal.put_changes-requires
put_changes-requires c = let l = length_changes c.args.changed.now in omega arith

pub put-requires : goal.put-requires
put-requires c =
    let l = length_changes c.args.changed.now in
    let e = ap length c.put_changes.ensures in
    let a = length-append c.put_head.new.out.items (changes_text c.args.changed.now) in
    omega arith
