-- Retries without a gap, by how many there are.
use Rattle.std.proofs.Common.{◌≡◌, ◌≢◌, ℕ, zero, suc, ◌+◌, ◌-◌, ◌≤◌, Bool, true, false, List, [], ◌∷◌, refl, sym, ap, ◌∙◌, subst, arith, if◌then◌else◌, eq-eqb, eqb-true, inl, inr}
use Rattle.std.specs.Prelude.{◌==◌, ◌&&◌, ◌||◌}
use Rattle.std.proofs.lemmas.Bool.{cases_eq, ne_eqb}
use Rattle.run_model.specs.declared.logs.What.{What}
use Rattle.run_model.specs.declared.logs.What.TheVariants as what
use Rattle.run_model.specs.Sorts.{is_fail, is_retry_of}
use Rattle.run_model.specs.Lawful.{head_is, may_retry, retried, retried_in_vain}
use Rattle.log_audit.specs.Remembered.{chain_by, retry_number}
use Rattle.log_audit.proofs.Knowing.{chain, number, tail}
use Rattle.log_audit.proofs.Truths.{same_by}

suc_not_zero : (n : ℕ) → (suc n == 0) ≡ false
suc_not_zero n = ne_eqb (suc n) 0 (λ e. omega (arith, e))

zero_not_suc : (n : ℕ) → (0 == suc n) ≡ false
zero_not_suc n = ne_eqb 0 (suc n) (λ e. omega (arith, e))

short : (n : ℕ) → false ≡ ((suc n == 0) || (0 == suc n))
short n = sym (ap (λ b. b || (0 == suc n)) (suc_not_zero n) ∙ zero_not_suc n)

-- the number where a test holds, else 0
picks : (b : Bool) (r n : ℕ) → r ≡ suc n → ((if b then r else 0) == suc n) ≡ b
picks true r n e = eq-eqb r (suc n) e
picks false r n e = zero_not_suc n

picks_not : (b : Bool) (r n : ℕ) → r ≢ suc n → ((if b then r else 0) == suc n) ≡ false
picks_not true r n ne = ne_eqb r (suc n) ne
picks_not false r n ne = zero_not_suc n

first_same : (n : ℕ) → (n == 0) ≡ (suc n == 1)
first_same n =
    same_by (n == 0) (suc n == 1)
    (λ e. eq-eqb (suc n) 1 (let z : n ≡ 0 = eqb-true n 0 e in omega (arith, z)))
    (λ e. eq-eqb n 0 (let z : suc n ≡ 1 = eqb-true (suc n) 1 e in omega (arith, z)))

next_same : (n l : ℕ) → (l == n) ≡ (l + 1 == suc n)
next_same n l =
    same_by (l == n) (l + 1 == suc n)
    (λ e. eq-eqb (l + 1) (suc n) (let z : l ≡ n = eqb-true l n e in omega (arith, z)))
    (λ e. eq-eqb l n (let z : l + 1 ≡ suc n = eqb-true (l + 1) (suc n) e in omega (arith, z)))

same_test : (n l : ℕ) → ((n == 0) || (l == n)) ≡ ((suc n == 1) || (l + 1 == suc n))
same_test n l =
    ap (λ b. b || (l == n)) (first_same n) ∙ ap (λ b. (suc n == 1) || b) (next_same n l)

retried_step :
    (n l : ℕ) (w : What) (f rest : Bool) → rest ≡ ((n == 0) || (l == n))
    → (is_retry_of (suc n) w && (f && rest)) ≡ (chain_by w f l == suc n)
retried_step n l (what.Retry r) f rest e = elim (cases_eq r (suc n)) [
  | inl is ↦
      let one : (r == 1) ≡ (suc n == 1) = ap (λ z. z == 1) is in
      let two : (l + 1 == r) ≡ (l + 1 == suc n) = ap (λ z. l + 1 == z) is in
      let test : rest ≡ ((r == 1) || (l + 1 == r)) =
      e ∙ same_test n l
      ∙ sym (ap (λ b. b || (l + 1 == r)) one ∙ ap (λ b. (suc n == 1) || b) two) in
      ap (λ b. b && (f && rest)) (eq-eqb r (suc n) is) ∙ ap (λ b. f && b) test
      ∙ sym (picks (f && ((r == 1) || (l + 1 == r))) r n is)
  | inr ne ↦
      ap (λ b. b && (f && rest)) (ne_eqb r (suc n) ne)
      ∙ sym (picks_not (f && ((r == 1) || (l + 1 == r))) r n ne)
]
retried_step n l (what.Fail why a) f rest e = sym (zero_not_suc n)
retried_step n l _ f rest e = sym (zero_not_suc n)

retried_is : (n : ℕ) (ws : List What) → retried n ws ≡ ((n == 0) || (chain ws == n))
retried_is zero ws = refl
retried_is (suc n) [] = short n
retried_is (suc n) (w ∷ []) = short n
retried_is (suc n) (w ∷ v ∷ ws) =
    retried_step n (chain ws) w (is_fail v) (retried n ws) (retried_is n ws)
    ∙ ap (λ b. b || (chain_by w (is_fail v) (chain ws) == suc n)) (sym (suc_not_zero n))

pub in_vain_is :
    (n : ℕ) (ws : List What)
    → retried_in_vain n ws ≡ (head_is is_fail ws && ((n == 0) || (chain (tail ws) == n)))
in_vain_is n [] = refl
in_vain_is n (w ∷ ws) = ap (λ b. is_fail w && b) (retried_is n ws)

retry_of_is : (n : ℕ) (w : What) → is_retry_of (suc n) w ≡ (retry_number w == suc n)
retry_of_is n (what.Retry r) = refl
retry_of_is n (what.Fail why a) = sym (zero_not_suc n)
retry_of_is n _ = sym (zero_not_suc n)

head_retry_is : (n : ℕ) (ws : List What) → head_is (is_retry_of (suc n)) ws ≡ (number ws == suc n)
head_retry_is n [] = sym (zero_not_suc n)
head_retry_is n (w ∷ ws) = retry_of_is n w

before_is :
    (r : ℕ) (ws : List What) → 1 ≤ r
    → ((r == 1) || head_is (is_retry_of (r - 1)) ws) ≡ ((r == 1) || (number ws == r - 1))
before_is zero ws le = absurd (omega (arith, le))
before_is (suc zero) ws le = refl
before_is (suc (suc n)) ws le =
    let same : suc (suc n) - 1 ≡ suc n = omega arith in
    ap (λ b. (suc (suc n) == 1) || b)
    (subst (λ k. head_is (is_retry_of k) ws ≡ (number ws == k)) (sym same) (head_retry_is n ws))

pub may_retry_is :
    (r : ℕ) (ws : List What) → 1 ≤ r
    → may_retry r ws ≡ (head_is is_fail ws && ((r == 1) || (number (tail ws) == r - 1)))
may_retry_is r [] le = refl
may_retry_is r (w ∷ ws) le = ap (λ b. is_fail w && b) (before_is r ws le)
