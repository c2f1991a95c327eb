-- From what is computed to the definitions: the codeword of a value, and each answer of a reading.
use Rattle.std.proofs.Common.{◌≡◌, ℕ, ◌-◌, ◌/◌, ◌%◌, ◌^◌, ◌<◌, ◌≤◌, ◌≢◌, sym, ◌∙◌, ap, refl, subst, arith}
use Rattle.run_model.specs.declared.readings.Read.{Read}
use Rattle.run_model.specs.declared.readings.Read.TheVariants.{Clean, Corrected, Uncorrectable}
use Rattle.run_model.specs.Code.{ones, IsCodeword, flip, value_of, places, placed, with_checks, with_parity, encoded, Reads}
use Rattle.runit_ecc.specs.Syndrome.{syndrome, parity, parities, set_checks}
use Rattle.runit_ecc.specs.Bounds.{IsValueBelow}
use Rattle.runit_ecc.proofs.Syndrome.{codeword_from, corrects, odd_is_none, far_odd, far_even, far_itself, far_large, flip-lt}
use Rattle.runit_ecc.proofs.Counting.{parity_is, parities_are}
use Rattle.runit_ecc.proofs.Values.{placed_lt, value_lt, small_from_shr, large_from_shr}
use Rattle.runit_ecc.proofs.Segments.{placed_wider, value_wider}
use Rattle.runit_ecc.proofs.Encoding.{set_checks-lt, checks_same, inside_from}

-- ---- encoding
-- what the checks and parities of a placed value make, with the word as the code makes it
pub record IsMade (n c v w r : ℕ) : Type 0 where
  pub wide : n ≤ 128
  pub checks : n ≤ 2 ^ (c - 1)
  pub needed : 2 ^ (c - 2) < n
  pub fits : v < 2 ^ places n
  pub put : w ≡ placed (2 ^ (c - 1)) v
  pub set : r ≡ set_checks (c - 1) (parities (c - 1) w) w

made_is : (n c v w r : ℕ) → IsMade n c v w r → r ≡ with_checks n (placed n v) (c - 1) (placed n v)
made_is n c v w r m =
    let p : w ≡ placed n v = m.put ∙ placed_wider n (2 ^ (c - 1)) v m.checks m.fits in
    let s : parities (c - 1) (placed n v) ≡ syndrome n (placed n v) = parities_are n (c - 1) (placed n v) m.wide (placed_lt n v) m.checks in
    m.set ∙ ap (λ x. set_checks (c - 1) (parities (c - 1) x) x) p ∙ ap (λ x. set_checks (c - 1) x (placed n v)) s ∙ sym (checks_same n (placed n v) (placed n v) (c - 1))

made_lt : (n c v w r : ℕ) → IsMade n c v w r → r < 2 ^ n
made_lt n c v w r m =
    let e = made_is n c v w r m ∙ checks_same n (placed n v) (placed n v) (c - 1) in
    subst (λ x. x < 2 ^ n) (sym e) (set_checks-lt n (c - 1) (syndrome n (placed n v)) (placed n v) (placed_lt n v) (inside_from n c m.needed))

parity_even : (n x : ℕ) → ones n x % 2 ≡ 0 → with_parity n x ≡ x
parity_even n x e = rw e refl

parity_odd : (n x : ℕ) → ones n x % 2 ≡ 1 → with_parity n x ≡ flip x 0
parity_odd n x e = rw e refl

pub coded_even : (n c v w r : ℕ) → IsMade n c v w r → parity r ≡ 0 → r ≡ encoded n c v
unfolding encoded
coded_even n c v w r m even =
    let p = parity_is n r m.wide (made_lt n c v w r m) in
    sym (parity_even n r (sym p ∙ even)) ∙ ap (with_parity n) (made_is n c v w r m)

pub coded_odd : (n c v w r : ℕ) → IsMade n c v w r → parity r ≡ 1 → flip r 0 ≡ encoded n c v
unfolding encoded
coded_odd n c v w r m odd =
    let p = parity_is n r m.wide (made_lt n c v w r m) in
    sym (parity_odd n r (sym p ∙ odd)) ∙ ap (with_parity n) (made_is n c v w r m)

-- ---- reading
pub reads_large : (n c w : ℕ) → w / 2 ^ n ≢ 0 → Reads n c w Uncorrectable
reads_large n c w ne =
    let large = large_from_shr w n ne in
    (λ is. let size = is.size in omega arith, λ p h. far_large n c w p large h)

-- what is known of a word that fits
pub record IsJudged (n c w s : ℕ) : Type 0 where
  pub wide : n ≤ 128
  pub checks : n ≤ 2 ^ (c - 1)
  pub small : w / 2 ^ n ≡ 0
  pub names : s ≡ parities (c - 1) w

judged_lt : (n c w s : ℕ) → IsJudged n c w s → w < 2 ^ n
judged_lt n c w s j = small_from_shr w n j.small

judged_is : (n c w s : ℕ) → IsJudged n c w s → s ≡ syndrome n w
judged_is n c w s j = j.names ∙ parities_are n (c - 1) w j.wide (judged_lt n c w s j) j.checks

judged_parity : (n c w s p : ℕ) → IsJudged n c w s → parity w ≡ p → ones n w % 2 ≡ p
judged_parity n c w s p j e = sym (parity_is n w j.wide (judged_lt n c w s j)) ∙ e

pub reads_clean : (n c w s v : ℕ) → IsJudged n c w s → parity w ≡ 0 → s ≡ 0 → v ≡ value_of (2 ^ (c - 1)) w → Reads n c w (Clean v)
reads_clean n c w s v j even none is = (
  codeword_from n c w (judged_lt n c w s j) (judged_parity n c w s 0 j even) (sym (judged_is n c w s j) ∙ none),
  is ∙ value_wider n (2 ^ (c - 1)) w j.checks (judged_lt n c w s j),
)

pub reads_even : (n c w s : ℕ) → IsJudged n c w s → parity w ≡ 0 → s ≢ 0 → Reads n c w Uncorrectable
reads_even n c w s j even some =
    let e = judged_parity n c w s 0 j even in
    (far_itself n c w j.checks (λ z. some (judged_is n c w s j ∙ z)), λ p h. far_even n c w p e h)

pub reads_corrected : (n c w s v x : ℕ) → IsJudged n c w s → parity w ≡ 1 → s < n → x ≡ flip w s → v ≡ value_of (2 ^ (c - 1)) x → Reads n c w (Corrected v s)
reads_corrected n c w s v x j odd inside at is =
    let o = judged_parity n c w s 1 j odd in
    let q = judged_is n c w s j in
    let lt = flip-lt n w s (judged_lt n c w s j) inside in (
      odd_is_none n c w o,
      inside,
      subst (λ i. IsCodeword n c (flip w i)) (sym q) (corrects n c w (judged_lt n c w s j) o (subst (λ i. i < n) q inside)),
      is ∙ ap (value_of (2 ^ (c - 1))) at ∙ value_wider n (2 ^ (c - 1)) (flip w s) j.checks lt,
    )

pub reads_odd : (n c w s : ℕ) → IsJudged n c w s → parity w ≡ 1 → n ≤ s → Reads n c w Uncorrectable
reads_odd n c w s j odd past =
    let o = judged_parity n c w s 1 j odd in
    let q = judged_is n c w s j in
    (odd_is_none n c w o, λ p h. far_odd n c w p j.checks (subst (λ i. n ≤ i) q past) h)

pub reads_below : (n c w : ℕ) (r : Read) (d : ℕ) → places n ≡ d → Reads n c w r → IsValueBelow (2 ^ d) r
reads_below n c w (Clean v) d e h = subst (λ k. v < 2 ^ k) e (let l = value_lt n w in let q = h.1 in omega arith)
reads_below n c w (Corrected v p) d e h = subst (λ k. v < 2 ^ k) e (let l = value_lt n (flip w p) in let q = h.3 in omega arith)
reads_below n c w Uncorrectable d e h = tt
