use Rattle.std.proofs.Common.{ℕ, ◌+◌, subst, sym}
use Rattle.fault_script.specs.Walk.{IsAt}
use Rattle.fault_script.specs.Walks.{IsOn}
use Rattle.fault_script.specs.declared.core_walks.CoreWalk.{CoreWalk}
use Rattle.fault_script.proofs.Live.{live_last}
use Rattle.fault_script.proofs.walking.Walk.lasting_under.Goals as goal

pub returns-clause-part : goal.returns-clause-part
returns-clause-part c =
    let ls = c.args.self.now.ordered in
    let w = c.index.result.now in
    λ (n : ℕ) (on : IsOn c.args.self.now c.args.core.0 (n + 1)).
    let at : IsAt ls c.args.core.0 (n + 1) w =
    subst (λ (x : CoreWalk). IsAt ls c.args.core.0 (n + 1) x) (sym c.index.ensures) (on.at w) in
    rw c.deref.ensures.value (live_last ls c.args.core.0 n w at)
