-- The test of a codeword, and that a reading by the relation is the function's.
use Rattle.std.proofs.Common.{◌≡◌, ℕ, zero, suc, ◌-◌, ◌%◌, ◌^◌, ◌<◌, ◌≤◌, Bool, true, false, ◌&&◌, eqb, sym, ◌∙◌, ap, refl, subst, arith, inl, inr, Some, None}
use Rattle.std.specs.Prelude.{nat_lt}
use Rattle.std.proofs.lemmas.Bool.Decides.{nat_tests}
use Rattle.std.proofs.lemmas.Bool.{cases_eq}
use Rattle.run_model.specs.declared.readings.Read.{Read}
use Rattle.run_model.specs.declared.readings.Read.TheVariants.{Clean, Corrected, Uncorrectable}
use Rattle.run_model.specs.Code.{ones, ones_where, with_bit, IsCodeword, flip, Reads, all_checks_even, is_codeword, wrong_position, read_of}
use Rattle.runit_ecc.specs.Syndrome.{syndrome}
use Rattle.runit_ecc.proofs.Syndrome.{syndrome-flip, syndrome_of_codeword, same_from_xor}

and_parts : (a b : Bool) → (a && b) ≡ true → (a ≡ true) × (b ≡ true)
and_parts true b e = (refl, e)
and_parts false b e = cc

and_both : (a b : Bool) → a ≡ true → b ≡ true → (a && b) ≡ true
and_both a b e f = rw (e, f) refl

false_of : (b : Bool) → (b ≡ true → ⊥) → b ≡ false
false_of true h = absurd (h refl)
false_of false h = refl

even_test : (x : ℕ) → x ≡ 0 → eqb x 0 ≡ true
even_test x h = grind (arith, nat_tests)

even_from : (x : ℕ) → eqb x 0 ≡ true → x ≡ 0
even_from x h = grind (arith, nat_tests)

-- ---- the test
checks_test : (n j w : ℕ) → ((i : ℕ) → i < j → ones_where (with_bit i) n w % 2 ≡ 0) → all_checks_even n j w ≡ true
checks_test n zero w h = refl
checks_test n (suc j) w h = and_both (eqb (ones_where (with_bit j) n w % 2) 0) (all_checks_even n j w) (even_test (ones_where (with_bit j) n w % 2) (h j (omega arith))) (checks_test n j w (λ i g. h i (omega arith)))

checks_from : (n j w : ℕ) → all_checks_even n j w ≡ true → (i : ℕ) → i < j → ones_where (with_bit i) n w % 2 ≡ 0
checks_from n zero w e i h = absurd (omega arith)
checks_from n (suc j) w e i h =
    let p = and_parts (eqb (ones_where (with_bit j) n w % 2) 0) (all_checks_even n j w) e in
    elim (cases_eq j i) [
      | inl q ↦ subst (λ k. ones_where (with_bit k) n w % 2 ≡ 0) q (even_from (ones_where (with_bit j) n w % 2) p.0)
      | inr ne ↦ checks_from n j w p.1 i (omega arith)
    ]

lt_test : (a b : ℕ) → a < b → nat_lt a b ≡ true
lt_test a b h = grind (arith, nat_tests)

lt_from : (a b : ℕ) → nat_lt a b ≡ true → a < b
lt_from a b h = grind (arith, nat_tests)

pub codeword_test : (n c w : ℕ) → IsCodeword n c w → is_codeword n c w ≡ true
unfolding is_codeword
codeword_test n c w is = and_both (nat_lt w (2 ^ n)) ((eqb (ones n w % 2) 0) && all_checks_even n (c - 1) w) (lt_test w (2 ^ n) is.size)
    (and_both (eqb (ones n w % 2) 0) (all_checks_even n (c - 1) w) (even_test (ones n w % 2) is.all_even) (checks_test n (c - 1) w is.each_even))

pub codeword_tested : (n c w : ℕ) → is_codeword n c w ≡ true → IsCodeword n c w
unfolding is_codeword
codeword_tested n c w e =
    let p = and_parts (nat_lt w (2 ^ n)) ((eqb (ones n w % 2) 0) && all_checks_even n (c - 1) w) e in
    let q = and_parts (eqb (ones n w % 2) 0) (all_checks_even n (c - 1) w) p.1 in
    record { size = lt_from w (2 ^ n) p.0; all_even = even_from (ones n w % 2) q.0; each_even = checks_from n (c - 1) w q.1 }

no_codeword_test : (n c w : ℕ) → ¬ IsCodeword n c w → is_codeword n c w ≡ false
no_codeword_test n c w not_one = false_of (is_codeword n c w) (λ e. not_one (codeword_tested n c w e))

-- ---- the position of a wrong bit
pub one_position : (n c w p q : ℕ) → n ≤ 2 ^ (c - 1) → p < n → q < n → IsCodeword n c (flip w p) → IsCodeword n c (flip w q) → p ≡ q
one_position n c w p q fits lp lq ip iq =
    let a = same_from_xor p (syndrome n w) (sym (syndrome-flip n w p lp) ∙ syndrome_of_codeword n c (flip w p) fits ip) in
    let b = same_from_xor q (syndrome n w) (sym (syndrome-flip n w q lq) ∙ syndrome_of_codeword n c (flip w q) fits iq) in
    a ∙ sym b

wrong_none : (n c w k : ℕ) → ((p : ℕ) → p < k → ¬ IsCodeword n c (flip w p)) → wrong_position n c w k ≡ None
wrong_none n c w zero h = refl
wrong_none n c w (suc k) h =
    let e = no_codeword_test n c (flip w k) (h k (omega arith)) in
    rw e (wrong_none n c w k (λ p g. h p (omega arith)))

wrong_one : (n c w k p : ℕ) → n ≤ 2 ^ (c - 1) → k ≤ n → p < k → IsCodeword n c (flip w p) → wrong_position n c w k ≡ Some p
wrong_one n c w zero p fits le h is = absurd (omega arith)
wrong_one n c w (suc k) p fits le h is = elim (cases_eq k p) [
  | inl e ↦
      let t : is_codeword n c (flip w k) ≡ true = codeword_test n c (flip w k) (subst (λ i. IsCodeword n c (flip w i)) (sym e) is) in
      rw t (ap (λ i. Some i) e)
  | inr ne ↦
      let f : is_codeword n c (flip w k) ≡ false = no_codeword_test n c (flip w k) (λ ik. ne (one_position n c w k p fits (omega arith) (omega arith) ik is)) in
      rw f (wrong_one n c w k p fits (omega arith) (omega arith) is)
]

-- ---- the relation determines the answer
pub reads_is : (n c w : ℕ) (r : Read) → n ≤ 2 ^ (c - 1) → Reads n c w r → read_of n c w ≡ r
unfolding read_of
reads_is n c w (Clean v) fits h = let t = codeword_test n c w h.0 in let e = h.1 in rw t (ap (λ x. Clean x) (sym e))
reads_is n c w (Corrected v p) fits h =
    let f = no_codeword_test n c w h.0 in
    let o = wrong_one n c w n p fits (omega arith) h.1 h.2 in
    let e = h.3 in
    rw (f, o) (ap (λ x. Corrected x p) (sym e))
reads_is n c w Uncorrectable fits h =
    let f = no_codeword_test n c w h.0 in
    let o = wrong_none n c w n h.1 in
    rw (f, o) refl
