use Rattle.std.proofs.Common.{ℕ, ◌+◌, subst, sym}
use Rattle.fault_script.specs.Walk.{IsAt}
use Rattle.fault_script.specs.declared.core_walks.CoreWalk.{CoreWalk}
use Rattle.fault_script.proofs.Live.{at_order, at_inside}
use Rattle.fault_script.proofs.walking.Walk.under.Goals as goal

pub between-requires-clause-order : goal.between-requires-clause-order
between-requires-clause-order c =
    let ls = c.args.self.now.ordered in
    let w = c.index-at.result.now in
    let n = c.requires.0 + 1 in
    let at : IsAt ls c.args.core.0 n w = subst (λ (x : CoreWalk). IsAt ls c.args.core.0 n x) (sym c.index-at.ensures) (c.requires.1.at w) in
    at_order ls c.args.core.0 n w at

pub between-requires-clause-inside : goal.between-requires-clause-inside
between-requires-clause-inside c =
    let ls = c.args.self.now.ordered in
    let w = c.index-at.result.now in
    let n = c.requires.0 + 1 in
    let at : IsAt ls c.args.core.0 n w = subst (λ (x : CoreWalk). IsAt ls c.args.core.0 n x) (sym c.index-at.ensures) (c.requires.1.at w) in
    at_inside ls c.args.core.0 n w at
