use Rattle.std.proofs.Common.{◌≤◌, length, subst, List, rules}
use Rattle.run_model.specs.declared.faults.Strike.{Strike}
use Rattle.fault_script.specs.Index.{IsFirst, IsIndex}
use Rattle.fault_script.proofs.Walks.{count_of_first}
use Rattle.fault_script.proofs.ordered.Ordered.first.Goals as goal

pub returns : goal.returns
returns c =
    let xs = c.self.inside.sorted.items in
    let h : IsIndex c.args.self.now xs = subst (λ (ls : List Strike). IsIndex ls xs) c.self.view_is c.self.invariant.index in
    let f : IsFirst c.args.q xs c.first_from.result c.first_from.result = search rules in
    let l : c.first_from.result ≤ length xs = search rules in
    count_of_first c.args.self.now xs c.args.q c.first_from.result h f l
