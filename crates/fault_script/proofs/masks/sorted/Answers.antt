use Rattle.std.proofs.Common.{rules}
use Rattle.std.proofs.lemmas.List.Sorted.{IsNonDecreasingBy-from_sort_by_key}
use Rattle.fault_script.specs.Changes.{at_of}
use Rattle.fault_script.proofs.masks.sorted.Goals as goal

pub returns-clause-sorted : goal.returns-clause-sorted
returns-clause-sorted c = IsNonDecreasingBy-from_sort_by_key at_of _ c.in_ok-sort_by_key.ensures.sorted (λ a r q k. search rules)
