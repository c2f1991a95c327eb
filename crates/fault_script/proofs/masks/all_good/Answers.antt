use Rattle.fault_script.proofs.Parity.{all_is}
use Rattle.fault_script.proofs.masks.all_good.Goals as goal

pub returns : goal.returns
returns c = all_is c.args.strikes.now c.in_ok-changes.changes.items c.deref.result.now _ c.in_ok-changes.ensures.same c.deref.ensures.value c.in_ok-good.ensures
