-- The bounds of a value and of its places.
use Rattle.std.proofs.Common.{zero, suc, Bool, ◌≡◌, ℕ, ◌+◌, ◌*◌, ◌/◌, ◌^◌, ◌<◌, ◌≤◌, ◌≢◌, true, false, ap, refl, arith, pow_pos, inl, inr}
use Rattle.std.specs.Int.{bit_at}
use Rattle.std.proofs.lemmas.Nat.{mul-add-lt, pow-add, shr_split, mod_below, div_below}
use Rattle.std.proofs.lemmas.Nat.Bits.{bit_at-lt}
use Rattle.std.proofs.lemmas.Bool.{cases_lt}
use Rattle.run_model.specs.Code.{places, value_of, is_check, placed}

pub place_lt : (v b k : ℕ) → v < 2 ^ k → b < 2 → b * 2 ^ k + v < 2 ^ (k + 1)
place_lt v b k h g = let l = mul-add-lt b (2 ^ k) v 2 g h in let e = pow-add 2 k 1 in omega arith

pub small_from_shr : (w n : ℕ) → w / 2 ^ n ≡ 0 → w < 2 ^ n
small_from_shr w n e = let s = shr_split w n in let m = mod_below w (2 ^ n) (pow_pos n) in let z : w / 2 ^ n * 2 ^ n ≡ 0 * 2 ^ n = ap (λ q. q * 2 ^ n) e in omega arith

pub large_from_shr : (w n : ℕ) → w / 2 ^ n ≢ 0 → 2 ^ n ≤ w
large_from_shr w n ne = elim (cases_lt w (2 ^ n)) [
  | inl small ↦ let d = div_below w (2 ^ n) 1 (pow_pos n) (omega arith) in absurd (ne (omega arith))
  | inr large ↦ large
]

value_lt_step : (n w : ℕ) (b : Bool) → is_check n ≡ b → value_of n w < 2 ^ places n → value_of (suc n) w < 2 ^ places (suc n)
value_lt_step n w true e r = rw e r
value_lt_step n w false e r = let l = place_lt (value_of n w) (bit_at w n) (places n) r (bit_at-lt w n) in rw e l

pub value_lt : (n w : ℕ) → value_of n w < 2 ^ places n
value_lt zero w = omega arith
value_lt (suc n) w = value_lt_step n w (is_check n) refl (value_lt n w)

placed_lt_step : (n v : ℕ) (b : Bool) → is_check n ≡ b → placed n v < 2 ^ n → placed (suc n) v < 2 ^ suc n
placed_lt_step n v true e r = let l = place_lt (placed n v) 0 n r (omega arith) in let q : n + 1 ≡ suc n = omega arith in let p : 2 ^ (n + 1) ≡ 2 ^ suc n = ap (λ k. 2 ^ k) q in rw e (omega arith)
placed_lt_step n v false e r = let l = place_lt (placed n v) (bit_at v (places n)) n r (bit_at-lt v (places n)) in let q : n + 1 ≡ suc n = omega arith in let p : 2 ^ (n + 1) ≡ 2 ^ suc n = ap (λ k. 2 ^ k) q in rw e (omega arith)

pub placed_lt : (n v : ℕ) → placed n v < 2 ^ n
placed_lt zero v = omega arith
placed_lt (suc n) v = placed_lt_step n v (is_check n) refl (placed_lt n v)
