use Rattle.fault_script.specs.Walks.{IsOn}
use Rattle.silicon.proofs.walks.begin.Goals as goal

pub returns-in-Some-clause-others : goal.returns-in-Some-clause-others
returns-in-Some-clause-others c = λ k n ne h.
    let on : IsOn c.in-Some.walk k n = rw c.in-Some.is at h in
    c.begin.ensures.others k n ne on
