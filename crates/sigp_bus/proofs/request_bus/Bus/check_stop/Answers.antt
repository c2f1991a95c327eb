-- One CPU more at each step.
use Rattle.std.proofs.Common.{arith, ◌<◌, ◌∙◌, length, ap}
use Rattle.std.proofs.lemmas.List.{length-set}
use Rattle.sigp_bus.proofs.Lists.{alerted_step}
use Rattle.sigp_bus.proofs.request_bus.Bus.check_stop.Goals as goal

pub loop-k-preserved : goal.loop-k-preserved
loop-k-preserved c =
    let inside : c.loop-k.k < length c.loop-k.self = omega (arith, c.loop-k.invariant.kept, c.cpus-k-end.ensures.number) in
    let step = alerted_step c.args.cpu.0 c.loop-k.k c.loop-k.self inside in
    record {
      kept = ap length c.put.ensures ∙ simp length-set c.loop-k.invariant.kept;
      done = c.loop-k.invariant.done ∙ rw (c.put.ensures, c.alerted_at-left.ensures, c.signals.ensures) step;
    }
