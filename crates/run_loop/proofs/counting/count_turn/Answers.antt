use Rattle.std.proofs.Common.{◌+◌, arith}
use Rattle.run_loop.proofs.Rising.{below_more}
use Rattle.run_loop.proofs.counting.count_turn.Goals as goal

pub returns-clause-small : goal.returns-clause-small
returns-clause-small c = λ most b. below_more (most + 1 + 44) (most + 45) c.count_entries.result (omega arith)
    (c.count_entries.ensures.small (most + 1) (c.count_event.ensures.small most b))
