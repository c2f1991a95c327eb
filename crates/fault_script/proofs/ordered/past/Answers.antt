use Rattle.std.proofs.Common.{arith, refl}
use Rattle.fault_script.proofs.Walks.{nothing_past, past_here, past_last}
use Rattle.fault_script.proofs.ordered.past.Goals as goal

pub loop-high-init : goal.loop-high-init
loop-high-init c = nothing_past c.args.q c.args.sorted.now c.args.from c.requires.rises c.requires.first

pub returns-then-key_of_strike-q-clause-past : goal.returns-then-key_of_strike-q-clause-past
returns-then-key_of_strike-q-clause-past c = past_here c.args.q c.args.sorted.now c.args.from c.loop-high.high c.key_of_strike.result _ c.requires.rises c.requires.first c.loop-high.auto.high c.loop-high-test.true c.loop-high.invariant c.key_of_strike.ensures c.if-key_of_strike-q.true

pub returns-clause-past : goal.returns-clause-past
returns-clause-past c = past_last c.args.q c.args.sorted.now _ (λ k d l i. c.loop-high.invariant k d (omega arith) i) refl
