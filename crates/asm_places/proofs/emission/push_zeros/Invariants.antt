use Rattle.std.proofs.Common.{◌≡◌, ◌≤◌, ◌++◌, replicate}
use Rattle.asm_places.proofs.emission.push_zeros.Given as goal

abbrev pub invariant-loop : goal.invariant-loop
invariant-loop l = record {
  put : l.out.items ≡ l.fn.out.items ++ replicate l.counter 0;
  within : l.counter ≤ l.count;
}
