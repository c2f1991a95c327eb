use Rattle.saved_machine.specs.Again.{SaysSignals}
use Rattle.machine_save.proofs.Pooling.{brought_next}
use Rattle.machine_save.proofs.bringing.all_signals.Goals as goal

pub cpus-preserved : goal.cpus-preserved
cpus-preserved c = brought_next SaysSignals c.args.cpus.now c.cpus.i c.cpus.all.items c.push.new.self.items c.signals_of-signals.result _ c.cpus.invariant c.signals_of-signals.ensures c.in_ok-push.ensures.items
