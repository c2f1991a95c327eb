use Rattle.std.proofs.Common.{arith}
use Rattle.run_loop.proofs.Rising.{counting_start, counting_next, counting_end, below_more}
use Rattle.run_loop.proofs.counting.count_entries.Goals as goal

pub entries-init : goal.entries-init
entries-init c = counting_start c.args.n c.args.entries.now

pub count_what-sum-requires : goal.count_what-sum-requires
count_what-sum-requires c = below_more _ _ c.entries.sum (omega arith) (c.entries.invariant.small _ c.requires.small)

pub entries-preserved : goal.entries-preserved
entries-preserved c = counting_next c.args.n c.args.entries.now c.entries.entry-index _ c.entries.sum _ c.entries-test.true c.entries.invariant c.count_what-sum.ensures.counts c.count_what-sum.ensures.small

pub returns-clause-counts : goal.returns-clause-counts
returns-clause-counts c = counting_end c.args.n c.args.entries.now c.entries.entry-index c.entries.sum (omega arith) c.entries.invariant

pub returns-clause-small : goal.returns-clause-small
returns-clause-small c = λ most b. below_more (_) _ c.entries.sum (omega arith) (c.entries.invariant.small most b)
