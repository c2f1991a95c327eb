use Rattle.std.proofs.Common.{ap, ◌∙◌, arith}
use Rattle.run_model.specs.declared.logs.Config.{Config}
use Rattle.machine_save.proofs.Serving.{none_before, one_more, all_seen}
use Rattle.machine_save.proofs.placing.is_with_cpu.Goals as goal

pub cpus-init : goal.cpus-init
cpus-init c = none_before c.args.core c.args.m.now.cpus.items

pub cpus-preserved : goal.cpus-preserved
cpus-preserved c =
    c.is_on_or-found.ensures
    ∙ one_more c.args.core c.cpus.i c.args.m.now.cpus.items c.held.result.now c.cpus.found c.held.ensures c.cpus.invariant

pub returns : goal.returns
returns c =
    let fits = c.args.m.now.fits.cpus in
    let config = ap (λ (q : Config). q.cpus) c.config.ensures in
    let end = c.cpus-test.false in
    all_seen c.args.core c.cpus.i c.args.m.now.cpus.items c.cpus.found (omega (arith, fits, config, end)) c.cpus.invariant
