use Rattle.saved_machine.specs.Again.{SaysHeld}
use Rattle.machine_save.proofs.Pooling.{brought_next}
use Rattle.machine_save.proofs.bringing.all_held.Goals as goal

pub cpus-preserved : goal.cpus-preserved
cpus-preserved c = brought_next SaysHeld c.args.cpus.now c.cpus.i c.cpus.all.items c.push.new.self.items c.held_of-held.result _ c.cpus.invariant c.held_of-held.ensures c.in_ok-push.ensures.items
