use Rattle.deck_gen.proofs.Runs.{RunsPut}
use Rattle.deck_gen.proofs.schedules.put_later_runs.Given as goal

abbrev pub invariant-loop-left : goal.invariant-loop-left
invariant-loop-left l =
    RunsPut l.turns l.left l.draws l.fn.draws l.out.items l.fn.out.items

abbrev pub decreases-loop-left : goal.decreases-loop-left
decreases-loop-left l = l.left
