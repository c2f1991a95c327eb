use Rattle.std.proofs.Common.{ap, sym, subst}
use Rattle.run_model.specs.declared.faults.CoreNo.{CoreNo}
use Rattle.machine_save.specs.Bringing.{OneMore}
use Rattle.machine_save.proofs.Pooling.{fenced_more, spare_more}
use Rattle.machine_save.proofs.bringing.add_core.Goals as goal

pub returns-in-2 : goal.returns-in-2
returns-in-2 c =
    subst (λ place. OneMore c.args.core place c.args.pool.now c.add.new.self) (sym c.in-2.is)
    (spare_more c.args.core c.new.result c.args.pool.now c.add.new.self
    (ap (λ (k : CoreNo). k.0) c.new.ensures) c.add.ensures)

pub returns-in-3 : goal.returns-in-3
returns-in-3 c =
    subst (λ place. OneMore c.args.core place c.args.pool.now c.fence.new.self) (sym c.in-3.is)
    (fenced_more c.args.core c.resumed.result c.args.pool.now c.fence.new.self
    (ap (λ (k : CoreNo). k.0) c.resumed.ensures) c.fence.ensures)
