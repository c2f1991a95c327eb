use Rattle.std.proofs.Common.{arith}
use Rattle.deck_gen.proofs.Runs.{none_put, one_more, all_put}
use Rattle.deck_gen.proofs.schedules.put_later_runs.Goals as goal

pub loop-left-init : goal.loop-left-init
loop-left-init c =
    none_put c.args.turns c.saturating_sub-left.result c.args.draws.now c.args.out.now.items
    c.saturating_sub-left.ensures

pub loop-left-preserved : goal.loop-left-preserved
loop-left-preserved c =
    one_more c.args.turns c.loop-left.left c.loop-left.draws c.args.draws.now
    c.draw_run-cpu.new.draws c.draw_run-cpu.result.0 c.draw_run-cpu.result.1
    c.loop-left.out.items c.args.out.now.items c.put_next_run.new.out.items
    c.loop-left.invariant c.loop-left-test.true c.draw_run-cpu.ensures.cpu
    c.draw_run-cpu.ensures.count c.in_ok-put_next_run.ensures c.draw_run-cpu.ensures.rest

pub returns-clause-text : goal.returns-clause-text
returns-clause-text c =
    (all_put c.args.turns c.loop-left.left c.loop-left.draws c.args.draws.now
    c.loop-left.out.items c.args.out.now.items c.loop-left.invariant (omega arith)).0

pub returns-clause-rest : goal.returns-clause-rest
returns-clause-rest c =
    (all_put c.args.turns c.loop-left.left c.loop-left.draws c.args.draws.now
    c.loop-left.out.items c.args.out.now.items c.loop-left.invariant (omega arith)).1
