use Rattle.std.proofs.Common.{◌≡◌, ◌-◌, ◌≤◌, length, take, drop, flat_map, subst, ap, ◌∙◌, List, rules}
use Rattle.run_model.specs.declared.faults.Strike.{Strike}
use Rattle.fault_script.specs.Index.{if_lasting, IsIndex}
use Rattle.fault_script.proofs.Walks.{inside_order, length_between, next_at}
use Rattle.fault_script.proofs.ordered.Ordered.lasting_between.Goals as goal

pub between-requires-clause-inside : goal.between-requires-clause-inside
between-requires-clause-inside c =
    let ms = c.self.inside.lasting_sorted.items in
    let j : IsIndex (flat_map if_lasting c.args.self.now) ms = subst (λ (ls : List Strike). IsIndex (flat_map if_lasting ls) ms) c.self.view_is c.self.invariant.lasting_index in
    rw c.deref.ensures.value (inside_order (flat_map if_lasting c.args.self.now) ms c.args.high j c.requires.inside)

pub returns-clause-length : goal.returns-clause-length
returns-clause-length c =
    let ms = c.self.inside.lasting_sorted.items in
    let j : IsIndex (flat_map if_lasting c.args.self.now) ms = subst (λ (ls : List Strike). IsIndex (flat_map if_lasting ls) ms) c.self.view_is c.self.invariant.lasting_index in
    let is : c.between.result.now ≡ take (c.args.high - c.args.low) (drop c.args.low ms) = search rules in
    let inside = inside_order (flat_map if_lasting c.args.self.now) ms c.args.high j c.requires.inside in
    ap length is ∙ length_between ms c.args.low c.args.high c.requires.order inside

pub returns-clause-part : goal.returns-clause-part
returns-clause-part c =
    let ms = c.self.inside.lasting_sorted.items in
    let j : IsIndex (flat_map if_lasting c.args.self.now) ms = subst (λ (ls : List Strike). IsIndex (flat_map if_lasting ls) ms) c.self.view_is c.self.invariant.lasting_index in
    let is : c.between.result.now ≡ take (c.args.high - c.args.low) (drop c.args.low ms) = search rules in
    let inside = inside_order (flat_map if_lasting c.args.self.now) ms c.args.high j c.requires.inside in
    next_at c.args.self.now ms c.between.result.now c.args.low c.args.high j c.self.invariant.lasting_sorted_ranges c.requires.order inside is
