use Rattle.std.proofs.Common.{◌≡◌, ◌-◌, take, drop, subst, List, rules}
use Rattle.run_model.specs.declared.faults.Strike.{Strike}
use Rattle.fault_script.specs.Index.{IsIndex}
use Rattle.fault_script.proofs.Walks.{inside_order, part_at}
use Rattle.fault_script.proofs.ordered.Ordered.between.Goals as goal

pub between-requires-clause-inside : goal.between-requires-clause-inside
between-requires-clause-inside c =
    let xs = c.self.inside.sorted.items in
    let h : IsIndex c.args.self.now xs = subst (λ (ls : List Strike). IsIndex ls xs) c.self.view_is c.self.invariant.index in
    rw c.deref.ensures.value (inside_order c.args.self.now xs c.args.high h c.requires.inside)

pub returns-clause-part : goal.returns-clause-part
returns-clause-part c =
    let xs = c.self.inside.sorted.items in
    let h : IsIndex c.args.self.now xs = subst (λ (ls : List Strike). IsIndex ls xs) c.self.view_is c.self.invariant.index in
    let is : c.between.result.now ≡ take (c.args.high - c.args.low) (drop c.args.low xs) = search rules in
    part_at c.args.self.now xs c.between.result.now c.args.low c.args.high h c.requires.order is
