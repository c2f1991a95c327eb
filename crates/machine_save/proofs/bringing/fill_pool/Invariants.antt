use Rattle.machine_save.specs.Bringing.{PoolTo}
use Rattle.machine_save.proofs.bringing.fill_pool.Given as goal

abbrev pub invariant-cores : goal.invariant-cores
invariant-cores l = PoolTo l.k l.cores l.pool
