use Rattle.std.proofs.Common.{◌∙◌, arith}
use Rattle.g5_machine.proofs.Starts.{one_woken}
use Rattle.g5_machine.proofs.starting.wake_cores.Goals as goal

pub loop-cpu-preserved : goal.loop-cpu-preserved
loop-cpu-preserved g c = record {
  woken = one_woken c.args.entry c.loop-cpu.cpu (g.Z.Silicon.seen c.args.z.now)
      (g.Z.Silicon.seen c.loop-cpu.z) (g.Z.Silicon.seen c.wake_core-held.new.z)
      c.loop-cpu.cpus.items c.add_held.new.cpus.items c.wake_core-held.result
      c.loop-cpu.invariant.woken c.wake_core-held.ensures.wakes c.add_held.ensures.items;
  tape = c.wake_core-held.ensures.tape ∙ c.loop-cpu.invariant.tape;
  room = let a = c.loop-cpu.invariant.room in
      let b = c.add_held.ensures.room in
      omega (arith, a, b);
}
