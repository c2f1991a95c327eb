use Rattle.std.proofs.Common.{◌≡◌, ℕ, zero, suc, ◌+◌, ◌-◌, ◌%◌, ◌^◌, ◌<◌, ◌≤◌, ◌≢◌, cond, eqb, sym, ◌∙◌, ap, refl, subst, arith, bit_xor, pow_pos, inl, inr, ◌⊎◌}
use Rattle.std.specs.Int.{bit_at}
use Rattle.std.specs.Int.Bits.{xor_self, xor_comm, xor_assoc, xor_zero_r, xor_lt}
use Rattle.std.proofs.lemmas.Nat.Bits.{bit_at_xor, bit_at-lt, bit_at-zero, same_from_bits_below}
use Rattle.std.proofs.lemmas.Bool.{cases_eq}
use Rattle.run_model.specs.Code.{ones_where, anywhere, IsCodeword, distance}
use Rattle.runit_ecc.specs.Syndrome.{syndrome}
use Rattle.runit_ecc.proofs.Syndrome.{syndrome_of_codeword, same_from_xor}

-- ---- the syndrome and the parity are linear
both : (x y p : ℕ) → x < 2 → y < 2 → cond (eqb ((x + y) % 2) 1) p 0 ≡ bit_xor (cond (eqb x 1) p 0) (cond (eqb y 1) p 0)
both zero zero p h g = refl
both zero (suc zero) p h g = refl
both (suc zero) zero p h g = sym (xor_zero_r p)
both (suc zero) (suc zero) p h g = sym (xor_self p)
both (suc (suc x)) y p h g = absurd (omega arith)
both x (suc (suc y)) p h g = absurd (omega arith)

interchange : (a b s t : ℕ) → bit_xor (bit_xor a b) (bit_xor s t) ≡ bit_xor (bit_xor a s) (bit_xor b t)
interchange a b s t = xor_assoc a b (bit_xor s t) ∙ ap (bit_xor a) (sym (xor_assoc b s t) ∙ ap (λ z. bit_xor z t) (xor_comm b s) ∙ xor_assoc s b t) ∙ sym (xor_assoc a s (bit_xor b t))

pub syndrome-xor : (n a b : ℕ) → syndrome n (bit_xor a b) ≡ bit_xor (syndrome n a) (syndrome n b)
syndrome-xor zero a b = refl
syndrome-xor (suc n) a b = rw (bit_at_xor a b n, both (bit_at a n) (bit_at b n) n (bit_at-lt a n) (bit_at-lt b n), syndrome-xor n a b) (interchange (cond (eqb (bit_at a n) 1) n 0) (cond (eqb (bit_at b n) 1) n 0) (syndrome n a) (syndrome n b))

pub ones-xor : (n a b : ℕ) → (ones_where anywhere n (bit_xor a b) + ones_where anywhere n a + ones_where anywhere n b) % 2 ≡ 0
ones-xor zero a b = refl
ones-xor (suc n) a b = let r = ones-xor n a b in rw (bit_at_xor a b n) (omega arith)

-- ---- words with few ones
none_set : (n x i : ℕ) → ones_where anywhere n x ≡ 0 → i < n → bit_at x i ≡ 0
none_set zero x i e h = absurd (omega arith)
none_set (suc n) x i e h = elim (cases_eq n i) [
  | inl q ↦ subst (λ k. bit_at x k ≡ 0) q (omega arith)
  | inr ne ↦ none_set n x i (omega arith) (omega arith)
]

pub zero_from_none : (n x : ℕ) → x < 2 ^ n → ones_where anywhere n x ≡ 0 → x ≡ 0
zero_from_none n x h e = same_from_bits_below n x 0 h (pow_pos n) (λ i g. none_set n x i e g ∙ sym (bit_at-zero i))

syndrome_none : (n x : ℕ) → ones_where anywhere n x ≡ 0 → syndrome n x ≡ 0
syndrome_none zero x e = refl
syndrome_none (suc n) x e = let b : bit_at x n ≡ 0 = omega arith in rw b (syndrome_none n x (omega arith))

record Single (n x : ℕ) : Type 0 where
  at : ℕ
  inside : at < n
  is : syndrome n x ≡ at

pub record Double (n x : ℕ) : Type 0 where
  pub low : ℕ
  pub high : ℕ
  pub ordered : low < high
  pub inside : high < n
  pub is : syndrome n x ≡ bit_xor high low

skip : (n x : ℕ) → bit_at x n ≡ 0 → syndrome (suc n) x ≡ syndrome n x
skip n x b = rw b refl

take : (n x : ℕ) → bit_at x n ≡ 1 → syndrome (suc n) x ≡ bit_xor n (syndrome n x)
take n x b = rw b refl

pub bit_cases : (x n : ℕ) → (bit_at x n ≡ 0) ⊎ (bit_at x n ≡ 1)
bit_cases x n = let h = bit_at-lt x n in elim (cases_eq (bit_at x n) 0) [ inl e ↦ inl e | inr ne ↦ inr (omega arith) ]

single : (n x : ℕ) → ones_where anywhere n x ≡ 1 → Single n x
single zero x e = absurd (omega arith)
single (suc n) x e = elim (bit_cases x n) [
  | inl b ↦ let r = single n x (omega arith) in record { at = r.at; inside = omega (arith, r.inside); is = skip n x b ∙ r.is }
  | inr b ↦ record { at = n; inside = omega arith; is = take n x b ∙ ap (bit_xor n) (syndrome_none n x (omega arith)) ∙ xor_zero_r n }
]

pub double : (n x : ℕ) → ones_where anywhere n x ≡ 2 → Double n x
double zero x e = absurd (omega arith)
double (suc n) x e = elim (bit_cases x n) [
  | inl b ↦ let r = double n x (omega arith) in record { low = r.low; high = r.high; ordered = r.ordered; inside = omega (arith, r.inside); is = skip n x b ∙ r.is }
  | inr b ↦ let r = single n x (omega arith) in record { low = r.at; high = n; ordered = r.inside; inside = omega arith; is = take n x b ∙ ap (bit_xor n) r.is }
]

pub apart : (n c a b : ℕ) → n ≤ 2 ^ (c - 1) → IsCodeword n c a → IsCodeword n c b → (a ≡ b → ⊥) → 4 ≤ distance n a b
apart n c a b fits ia ib ne =
    let x = bit_xor a b in
    let s : syndrome n x ≡ 0 = syndrome-xor n a b ∙ ap (bit_xor (syndrome n a)) (syndrome_of_codeword n c b fits ib) ∙ xor_zero_r (syndrome n a) ∙ syndrome_of_codeword n c a fits ia in
    let even = ones-xor n a b in
    let not0 : ones_where anywhere n x ≢ 0 = λ e. ne (same_from_xor a b (zero_from_none n x (xor_lt n a b ia.size ib.size) e)) in
    let not2 : ones_where anywhere n x ≢ 2 = λ e. let d = double n x e in let q = same_from_xor d.high d.low (sym d.is ∙ s) in let l = d.ordered in omega arith in
    omega arith
