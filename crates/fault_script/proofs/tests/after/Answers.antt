use Rattle.std.proofs.Common.{◌≡◌, ℕ, ◌+◌, ◌-◌, subst, arith}
use Rattle.fault_script.specs.Walks.{IsOn}
use Rattle.fault_script.proofs.tests.after.Goals as goal

pub returns : goal.returns
returns c =
    let z : c.loop-n.n ≡ c.args.attempts - 1 + 1 = omega arith in
    (c.args.attempts - 1, subst (λ (n : ℕ). IsOn c.loop-n.walk c.args.core.0 n) z c.loop-n.invariant)
