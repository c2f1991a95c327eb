-- Shifts in 32 and in 128 bits.
use Rattle.std.proofs.Common.{◌≡◌, ℕ, zero, suc, ◌+◌, ◌-◌, ◌*◌, ◌/◌, ◌%◌, ◌^◌, ◌<◌, ◌≤◌, sym, ◌∙◌, ap, arith, bit_and}
use Rattle.std.proofs.Math.Pow.{pow_mono}
use Rattle.std.proofs.Math.Nat.{mod-eq_of_lt}
use Rattle.std.proofs.lemmas.Nat.{and_mask, one_shl, pow-add}
use Rattle.run_model.specs.Code.{places, value_of, placed}
use Rattle.runit_ecc.proofs.Segments.{places_pow, value_next, placed_next, value_room, placed_room}

pub above_number : (j : ℕ) → j < 2 ^ j
above_number zero = omega arith
above_number (suc j) = let r = above_number j in let e : 2 ^ suc j ≡ 2 * 2 ^ j = let q : suc j ≡ j + 1 = omega arith in let a = pow-add 2 j 1 in ap (λ k. 2 ^ k) q ∙ omega arith in omega arith

pub check_number : (j : ℕ) → j < 7 → ((1 * 2 ^ j) % 2 ^ 32 ≡ 2 ^ j) × (2 ^ j ≤ 64) × (j < 2 ^ j)
check_number j h = let le : j ≤ 6 = omega arith in let m : 2 ^ j ≤ 2 ^ 6 = pow_mono le in (one_shl j 32 (omega arith), m, above_number j)

pub low_mask : (w n : ℕ) → n < 128 → bit_and w (1 * 2 ^ n % 2 ^ 128 - 1) ≡ w % 2 ^ n
low_mask w n h = ap (λ x. bit_and w (x - 1)) (one_shl n 128 h) ∙ and_mask w n

pub whole_shift : (w n : ℕ) → w * 2 ^ n < 2 ^ 128 → (w * 2 ^ n) % 2 ^ 128 ≡ w * 2 ^ n
whole_shift w n h = mod-eq_of_lt h

-- ---- the segments of a value, as they are computed
pub gathered_is : (w j at bits : ℕ) → at ≡ 2 ^ j → bits ≡ w / 2 ^ (at + 1) % 2 ^ (at - 1) → value_of (2 ^ (j + 1)) w ≡ bits * 2 ^ (at - 1 - j) + value_of (2 ^ j) w
gathered_is w j at bits is e =
    let p = places_pow j in
    let q : places (2 ^ j) ≡ at - 1 - j = omega arith in
    value_next j w ∙ ap (λ x. w / 2 ^ (2 ^ j + 1) % 2 ^ (2 ^ j - 1) * 2 ^ x + value_of (2 ^ j) w) q ∙ ap (λ x. w / 2 ^ (x + 1) % 2 ^ (x - 1) * 2 ^ (at - 1 - j) + value_of (2 ^ j) w) (sym is) ∙ ap (λ x. x * 2 ^ (at - 1 - j) + value_of (2 ^ j) w) (sym e)

pub gathered_fits : (w j at bits : ℕ) → j < 7 → at ≡ 2 ^ j → bits ≡ w / 2 ^ (at + 1) % 2 ^ (at - 1) → bits * 2 ^ (at - 1 - j) < 2 ^ 128
gathered_fits w j at bits h is e = let g = gathered_is w j at bits is e in let r = value_room j w h in omega arith

pub scattered_is : (v j at bits : ℕ) → at ≡ 2 ^ j → bits ≡ v / 2 ^ (at - 1 - j) % 2 ^ (at - 1) → placed (2 ^ (j + 1)) v ≡ bits * 2 ^ (at + 1) + placed (2 ^ j) v
scattered_is v j at bits is e =
    let p = places_pow j in
    let q : places (2 ^ j) ≡ at - 1 - j = omega arith in
    placed_next j v ∙ ap (λ x. v / 2 ^ x % 2 ^ (2 ^ j - 1) * 2 ^ (2 ^ j + 1) + placed (2 ^ j) v) q ∙ ap (λ x. v / 2 ^ (at - 1 - j) % 2 ^ (x - 1) * 2 ^ (x + 1) + placed (2 ^ j) v) (sym is) ∙ ap (λ x. x * 2 ^ (at + 1) + placed (2 ^ j) v) (sym e)

pub scattered_fits : (v j at bits : ℕ) → j < 7 → at ≡ 2 ^ j → bits ≡ v / 2 ^ (at - 1 - j) % 2 ^ (at - 1) → bits * 2 ^ (at + 1) < 2 ^ 128
scattered_fits v j at bits h is e = let g = scattered_is v j at bits is e in let r = placed_room j v h in omega arith
