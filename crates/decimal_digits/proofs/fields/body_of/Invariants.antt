use Rattle.std.proofs.Common.{◌≡◌, ◌<◌, ◌^◌, take, true}
use Rattle.esa_model.specs.Packed.{body, all_pairs}
use Rattle.decimal_digits.proofs.fields.body_of.Given as goal

abbrev pub invariant-loop-b : goal.invariant-loop-b
invariant-loop-b l = record {
  pairs : all_pairs (take l.b-index l.bytes) ≡ true;
  value : l.value ≡ body (take l.b-index l.bytes);
  small : l.value < 100 ^ l.b-index;
}
