use Rattle.std.proofs.Common.{ap, sym, arith}
use Rattle.std.proofs.lemmas.Option.{slice_get-get_or}
use Rattle.machine_save.specs.Bringing.{place_said}
use Rattle.machine_save.proofs.Pooling.{pool_none, pool_absent, pool_next}
use Rattle.machine_save.proofs.bringing.fill_pool.Goals as goal

pub cores-init : goal.cores-init
cores-init c = pool_none c.args.cores.now c.args.pool.now c.requires

pub add_core-requires-clause-absent : goal.add_core-requires-clause-absent
add_core-requires-clause-absent c = pool_absent c.cores.k c.args.cores.now c.cores.pool c.cores.invariant

pub cores-preserved : goal.cores-preserved
cores-preserved c = pool_next c.cores.k _ c.args.cores.now c.cores.pool c.add_core.new.pool (sym (ap place_said (slice_get-get_or c.args.cores.now c.cores.k _ (omega arith)))) c.cores.invariant c.add_core.ensures
