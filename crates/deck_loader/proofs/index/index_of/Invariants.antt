use Rattle.std.proofs.Common.{◌≡◌, ℕ, ◌<◌, [], length, take, drop}
use Rattle.std.specs.BTreeMap.{get}
use Rattle.std.specs.Option.{IfSome}
use Rattle.std.specs.Ordering.{nat_cmp}
use Rattle.deck_loader.specs.Keys.{first_at, first_again, or_then}
use Rattle.deck_loader.proofs.index.index_of.Given as goal

abbrev pub invariant-loop-i : goal.invariant-loop-i
invariant-loop-i l = record {
  at : (q : ℕ) → get nat_cmp l.places q ≡ first_at q 0 (take l.i l.keys);
  again : or_then l.doubled (first_again l.i (take l.i l.keys) (drop l.i l.keys)) ≡ first_again 0 [] l.keys;
  inside : IfSome l.doubled (λ k. k < length l.keys);
}
