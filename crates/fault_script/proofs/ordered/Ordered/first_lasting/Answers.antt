use Rattle.std.proofs.Common.{◌≤◌, length, flat_map, subst, List, rules}
use Rattle.run_model.specs.declared.faults.Strike.{Strike}
use Rattle.fault_script.specs.Index.{if_lasting, IsFirst, IsIndex}
use Rattle.fault_script.proofs.Walks.{count_of_first}
use Rattle.fault_script.proofs.ordered.Ordered.first_lasting.Goals as goal

pub returns : goal.returns
returns c =
    let ms = c.self.inside.lasting_sorted.items in
    let j : IsIndex (flat_map if_lasting c.args.self.now) ms = subst (λ (ls : List Strike). IsIndex (flat_map if_lasting ls) ms) c.self.view_is c.self.invariant.lasting_index in
    let f : IsFirst c.args.q ms c.first_from.result c.first_from.result = search rules in
    let l : c.first_from.result ≤ length ms = search rules in
    count_of_first (flat_map if_lasting c.args.self.now) ms c.args.q c.first_from.result j f l
