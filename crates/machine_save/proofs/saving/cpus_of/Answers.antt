use Rattle.std.proofs.Common.{arith, refl}
use Rattle.saved_machine.specs.Saved.{cpu_at, cpus_of}
use Rattle.machine_save.proofs.Filling.{filling_start, filling_next, filling_up_to}
use Rattle.machine_save.proofs.saving.cpus_of.Goals as goal

pub cpus-init : goal.cpus-init
cpus-init c = filling_start (cpu_at c.args.m.now.cpus.items c.args.m.now.side.bus) 8 _ refl

pub cpus-preserved : goal.cpus-preserved
cpus-preserved c =
    let most = c.args.m.now.fits.most in
    let from = c.from-i-end.ensures in
    let own = c.cpus-2.ensures.own in
    filling_next (cpu_at c.args.m.now.cpus.items c.args.m.now.side.bus) 8 c.cpus.i c.cpus.cpus c.cpu_at.result
    (omega (arith, c.cpus-test.true, most, from, own)) c.cpus.invariant c.cpu_at.ensures

pub returns : goal.returns
unfolding cpus_of
returns c =
    let from = c.from-i-end.ensures in
    let own = c.cpus-2.ensures.own in
    filling_up_to (cpu_at c.args.m.now.cpus.items c.args.m.now.side.bus) 8 c.args.m.now.config.cpus c.cpus.i c.cpus.cpus
    (omega (arith, from, own)) c.cpus.invariant
