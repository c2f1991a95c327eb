-- The digits that are dropped and the power of ten make 10^31.
use Rattle.std.proofs.Common.{arith, ◌≡◌, ◌∙◌, ap, refl, ◌^◌, ◌*◌, ◌%◌, ◌-◌, nat_le}
use Rattle.decimal_digits.proofs.Scales.{product_is, mod_scaled, scaled_lt, lost_scaled}
use Rattle.decimal_digits.proofs.shifts.shift_left.Goals as goal

pub overflow_mul-magnitude : goal.overflow_mul-magnitude
overflow_mul-magnitude c =
    let j = c.ten_to-scale.result in
    let k = c.ten_to.result in
    let scale = c.ten_to-scale.ensures in
    let factor = c.ten_to.ensures in
    let by = c.from-2.result in
    let e : j * k ≡ 10 ^ 31 =
    product_is j k (31 - c.from.result) by scale.value factor.value (omega arith) in
    let s = scaled_lt c.args.a.now.magnitude j k scale.positive factor.positive in
    record { fits = omega arith }

pub invariant_of-result : goal.invariant_of-result
invariant_of-result c =
    let j = c.ten_to-scale.result in
    let k = c.ten_to.result in
    let scale = c.ten_to-scale.ensures in
    let factor = c.ten_to.ensures in
    let by = c.from-2.result in
    let e : j * k ≡ 10 ^ 31 =
    product_is j k (31 - c.from.result) by scale.value factor.value (omega arith) in
    let s = scaled_lt c.args.a.now.magnitude j k scale.positive factor.positive in
    record { small = omega arith }

pub returns : goal.returns
returns c =
    let m = c.args.a.now.magnitude in
    let j = c.ten_to-scale.result in
    let k = c.ten_to.result in
    let scale = c.ten_to-scale.ensures in
    let factor = c.ten_to.ensures in
    let by = c.from-2.result in
    let e : j * k ≡ 10 ^ 31 =
    product_is j k (31 - c.from.result) by scale.value factor.value (omega arith) in
    let power : k ≡ 10 ^ c.args.by = factor.value ∙ ap (λ i. 10 ^ i) c.from-2.ensures in
    record {
      sign = refl;
      magnitude = mod_scaled m j k scale.positive factor.positive
          ∙ ap (λ x. m * k % x) e
          ∙ ap (λ x. m * x % 10 ^ 31) power;
      lost = lost_scaled m j k factor.positive
          ∙ ap (λ x. nat_le x (m * k)) e
          ∙ ap (λ x. nat_le (10 ^ 31) (m * x)) power;
    }
