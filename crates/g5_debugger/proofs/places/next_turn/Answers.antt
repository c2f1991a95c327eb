use Rattle.std.proofs.Common.{arith, sym, ◌∙◌}
use Rattle.g5_debugger.proofs.RunsLeft.{run_next, run_passed, runs_end}
use Rattle.g5_debugger.proofs.places.next_turn.Goals as goal

pub returns-then-done-at-clause-next : goal.returns-then-done-at-clause-next
returns-then-done-at-clause-next c =
    sym c.runs.invariant
    ∙ run_next c.args.runs.now c.runs.run c.runs.done _ c.runs-test.true c.if-done-at.true

pub runs-preserved : goal.runs-preserved
runs-preserved c =
    sym (run_passed c.args.runs.now c.runs.run c.runs.done _ c.runs-test.true (omega (arith, c.if-done-at.false)))
    ∙ c.runs.invariant

pub returns-clause-next : goal.returns-clause-next
returns-clause-next c =
    sym c.runs.invariant ∙ runs_end c.args.runs.now c.runs.run c.runs.done (omega (arith, c.runs-test.false))
