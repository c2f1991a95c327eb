use Rattle.std.proofs.Common.{arith, ◌∙◌, sym, ap, ◌≡◌, ◌<◌, ◌≤◌, ◌+◌, ◌-◌, ◌*◌, ◌/◌, ◌%◌, ◌^◌, ◌++◌, ℕ, length, take, drop}
use Rattle.std.proofs.lemmas.List.{drop-set-lt}
use Rattle.esa_model.specs.Packed.{pairs}
use Rattle.decimal_digits.proofs.Places.{pairs_step, high_step}
use Rattle.decimal_digits.proofs.fields.fill.Goals as goal

pub loop-i-preserved : goal.loop-i-preserved
loop-i-preserved c =
    let s = c.loop-i.into in
    let n = c.args.n in
    let m = c.args.m in
    let left = c.loop-i.left in
    let j : ℕ = c.loop-i.i - 1 in
    let k : ℕ = n - c.loop-i.i in
    let b : ℕ = left % 100 / 10 * 16 + left % 100 % 10 in
    let inside = c.loop-i.invariant.inside in
    let long : n ≤ length s = omega arith in
    let here : j + 1 ≡ c.loop-i.i = omega arith in
    let more : k + 1 ≡ n - j = omega arith in
    let before : j < n = omega arith in
    record {
      inside = omega arith;
      written = pairs_step s n j left b before long (omega arith)
          ∙ ap (λ z. pairs z left ++ drop z (take n s)) here
          ∙ c.loop-i.invariant.written;
      kept = drop-set-lt n s j b before ∙ c.loop-i.invariant.kept;
      left = ap (λ z. z / 100) c.loop-i.invariant.left
          ∙ sym (high_step m k)
          ∙ ap (λ z. m / 100 ^ z) more;
    }
