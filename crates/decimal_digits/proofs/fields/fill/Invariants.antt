use Rattle.std.proofs.Common.{◌≡◌, ◌-◌, ◌/◌, ◌≤◌, ◌^◌, ◌++◌, take, drop}
use Rattle.esa_model.specs.Packed.{pairs}
use Rattle.decimal_digits.proofs.fields.fill.Given as goal

abbrev pub invariant-loop-i : goal.invariant-loop-i
invariant-loop-i l = record {
  inside : l.i ≤ l.n;
  written : pairs l.i l.left ++ drop l.i (take l.n l.into) ≡ pairs l.n l.m;
  kept : drop l.n l.into ≡ drop l.n l.fn.into;
  left : l.left ≡ l.m / 100 ^ (l.n - l.i);
}

abbrev pub decreases-loop-i : goal.decreases-loop-i
decreases-loop-i l = l.i
