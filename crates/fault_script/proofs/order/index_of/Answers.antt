use Rattle.std.proofs.Common.{rules, subst, List}
use Rattle.std.specs.Ordering.{nat_cmp}
use Rattle.std.specs.List.Sorted.{IsPermutation, IsStableByKey}
use Rattle.std.proofs.lemmas.List.Sorted.{IsNonDecreasingBy-from_sort_by_key}
use Rattle.run_model.specs.declared.faults.Strike.{Strike}
use Rattle.fault_script.specs.Index.{key_of}
use Rattle.fault_script.proofs.Forms.{ranges_permuted}
use Rattle.fault_script.proofs.Stable.{stable_from}
use Rattle.fault_script.proofs.order.index_of.Goals as goal

pub returns-clause-index : goal.returns-clause-index
returns-clause-index c = record {
  same = subst (λ (ls : List Strike). IsPermutation ls c.sort_by_key.new.self.items) c.in_ok-sorted.ensures c.sort_by_key.ensures.permutation;
  rises = IsNonDecreasingBy-from_sort_by_key key_of _ c.in_ok-sort_by_key.ensures.sorted (λ a r q k. search rules);
  stable = subst (λ (ls : List Strike). IsStableByKey key_of nat_cmp ls c.sort_by_key.new.self.items) c.in_ok-sorted.ensures (stable_from _ _ c.sort_by_key.ensures.stable (λ a r q k. search rules));
}

pub returns-clause-ranges : goal.returns-clause-ranges
returns-clause-ranges c = ranges_permuted _ _ c.sort_by_key.ensures.permutation (rw c.in_ok-sorted.ensures c.requires)
