-- Sums and differences of constants, modulo a power of 256 that divides 2^32.
use Rattle.std.proofs.Common.{◌≡◌, ℕ, zero, suc, ◌+◌, ◌-◌, ◌*◌, ◌%◌, ◌^◌, ◌<◌, ◌≤◌, Bool, true, false, refl, sym, ◌∙◌, ap, arith, inl, inr, ◌⊎◌}
use Rattle.std.proofs.lemmas.Bool.{cases_lt}
use Rattle.std.proofs.Math.Nat.{mod-add-mod, add-mul-mod_self_right, mod-eq_of_lt, mod-lt, one-le-pow}
use Rattle.deck_model.specs.Image.{added}

-- what is added to the constant
abbrev pub amount : Bool → ℕ → ℕ
amount true v = 4294967296 - v % 4294967296
amount false v = v

pub added_is : (minus : Bool) (w v c : ℕ) → added minus w v c ≡ (c + amount minus v) % 256 ^ w
added_is true w v c =
    let below : v % 4294967296 < 4294967296 = omega arith in
    let e : c + 4294967296 - v % 4294967296 ≡ c + (4294967296 - v % 4294967296) = omega arith in
    ap (λ n. n % 256 ^ w) e
added_is false w v c = refl

pub twice : (m n : Bool) (w v u c : ℕ) → added m w v (added n w u c) ≡ (c + amount n u + amount m v) % 256 ^ w
twice m n w v u c =
    added_is m w v (added n w u c)
    ∙ (ap (λ k. (k + amount m v) % 256 ^ w) (added_is n w u c)
    ∙ mod-add-mod (c + amount n u) (256 ^ w) (amount m v))

-- the order of two is free
pub swapped : (m n : Bool) (w v u c : ℕ) → added m w v (added n w u c) ≡ added n w u (added m w v c)
swapped m n w v u c =
    let e : c + amount n u + amount m v ≡ c + amount m v + amount n u = omega arith in
    twice m n w v u c ∙ (ap (λ k. k % 256 ^ w) e ∙ sym (twice n m w u v c))

word : (w : ℕ) → w ≤ 4 → (q : ℕ) × (4294967296 ≡ q * 256 ^ w)
word zero h = (4294967296, refl)
word (suc zero) h = (16777216, refl)
word (suc (suc zero)) h = (65536, refl)
word (suc (suc (suc zero))) h = (256, refl)
word (suc (suc (suc (suc zero)))) h = (1, refl)
word (suc (suc (suc (suc (suc w))))) h = absurd (omega arith)

-- a word more changes nothing
pub word_more : (w n : ℕ) → w ≤ 4 → (n + 4294967296) % 256 ^ w ≡ n % 256 ^ w
word_more w n h =
    let q = word w h in
    ap (λ k. (n + k) % 256 ^ w) q.1 ∙ add-mul-mod_self_right n q.0 (256 ^ w)

-- either the sum of the two remainders is that of the sum, or a word more
sum_cases : (v o : ℕ) → (amount true v + amount true (o + 4294967296) ≡ amount true (v + o) + 4294967296) ⊎ (amount true v + amount true (o + 4294967296) ≡ amount true (v + o))
sum_cases v o = elim (cases_lt (v % 4294967296 + o % 4294967296) 4294967296) [ inl l ↦ inl (omega arith) | inr g ↦ inr (omega arith) ]

grouped : (c v o : ℕ) → amount true v + amount true (o + 4294967296) ≡ amount true (v + o) + 4294967296 → c + amount true v + amount true (o + 4294967296) ≡ c + amount true (v + o) + 4294967296
grouped c v o e = omega (arith, e)

plain : (c v o : ℕ) → amount true v + amount true (o + 4294967296) ≡ amount true (v + o) → c + amount true v + amount true (o + 4294967296) ≡ c + amount true (v + o)
plain c v o e = omega (arith, e)

-- two parts of a value, by a multiple of a word
parts : (minus : Bool) (w v o c : ℕ) → w ≤ 4 → (c + amount minus (v + o)) % 256 ^ w ≡ (c + amount minus v + amount minus (o + 4294967296)) % 256 ^ w
parts false w v o c h =
    let e : c + v + (o + 4294967296) ≡ c + (v + o) + 4294967296 = omega arith in
    sym (ap (λ k. k % 256 ^ w) e ∙ word_more w (c + (v + o)) h)
parts true w v o c h =
    elim (sum_cases v o) [
      | inl e ↦ sym (ap (λ k. k % 256 ^ w) (grouped c v o e) ∙ word_more w (c + (4294967296 - (v + o) % 4294967296)) h)
      | inr e ↦ sym (ap (λ k. k % 256 ^ w) (plain c v o e))
    ]

pub split : (minus : Bool) (w v o c : ℕ) → w ≤ 4 → added minus w (v + o) c ≡ added minus w (o + 4294967296) (added minus w v c)
split minus w v o c h = added_is minus w (v + o) c ∙ (parts minus w v o c h ∙ sym (twice minus minus w (o + 4294967296) v c))

pub added_below : (minus : Bool) (w v c : ℕ) → added minus w v c < 256 ^ w
added_below minus w v c =
    let p : 1 ≤ 256 ^ w = one-le-pow w 256 (omega arith) in
    let e = added_is minus w v c in
    let l : (c + amount minus v) % 256 ^ w < 256 ^ w = mod-lt (c + amount minus v) (omega arith) in
    omega (arith, e, l)

pub added_itself : (minus : Bool) (w v c : ℕ) → added minus w v c % 256 ^ w ≡ added minus w v c
added_itself minus w v c = mod-eq_of_lt (added_below minus w v c)
