-- One stored word of either code: how it reads, by the positions that are wrong.
use Rattle.std.proofs.Common.{◌≡◌, ◌≢◌, ℕ, ◌-◌, ◌^◌, ◌<◌, ◌≤◌, Bool, true, false, cond, ltb, refl, sym, ap, ◌∙◌, subst, arith, bit_xor, inl, inr}
use Rattle.std.proofs.lemmas.Bool.{cases_eq}
use Rattle.run_model.specs.declared.readings.Mark.TheVariants.{Plain, Fixed, Bad}
use Rattle.run_model.specs.Checkpoint.{width, checks, values_below}
use Rattle.run_model.specs.Code.{ones, highest, places, value_of, IsCodeword}
use Rattle.run_model.specs.Reading.{mark, mark_of, mark_by, value, value_by, code}
use Rattle.runit_ecc.proofs.Encoding.{encoded_codeword, encoded_value}
use Rattle.runit_ecc.proofs.Flipped.{read_none, read_one, read_two}
use Rattle.runit_ecc.proofs.Unique.{by_value}
use Rattle.runit_ecc.proofs.Values.{value_lt}

-- what the laws of a code ask of n positions, c of them checks, and values below 2^d
record IsWidth (n c d : ℕ) : Type 0 where
  checks_fit : n ≤ 2 ^ (c - 1)
  checks_needed : 2 ^ (c - 2) < n
  places_are : places n ≡ d

width_by : (t : Bool) → IsWidth (cond t 39 72) (cond t 7 8) (cond t 32 64)
width_by true = record { checks_fit = omega arith; checks_needed = omega arith; places_are = refl }
width_by false = record { checks_fit = omega arith; checks_needed = omega arith; places_are = refl }

-- the one place where the two codes are told apart
a_width : (w : ℕ) → IsWidth (width w) (checks w) (values_below w)
unfolding width checks values_below
a_width w = width_by (ltb w 36)

-- ---- what is stored

code_is : (w v : ℕ) → IsCodeword (width w) (checks w) (code w v)
unfolding code
code_is w v =
    encoded_codeword (width w) (checks w) v (a_width w).checks_fit (a_width w).checks_needed

-- the value that a stored one says
abbrev pub held : ℕ → ℕ → ℕ
held w v = value_of (width w) (code w v)

pub held_is : (w v : ℕ) → v < 2 ^ values_below w → held w v ≡ v
unfolding code
held_is w v h =
    encoded_value (width w) (checks w) v (subst (λ d. v < 2 ^ d) (sym (a_width w).places_are) h)

-- stored again it is the same word
pub held_again : (w v : ℕ) → code w (held w v) ≡ code w v
held_again w v =
    by_value (width w) (checks w) (code w (held w v)) (code w v) (a_width w).checks_fit
    (code_is w (held w v)) (code_is w v) (held_twice w v)
  where
    held_twice : (w v : ℕ) → held w (held w v) ≡ held w v
    held_twice w v =
        held_is w (held w v)
        (subst (λ d. held w v < 2 ^ d) (a_width w).places_are (value_lt (width w) (code w v)))

-- ---- how it reads

mark_none : (w e : ℕ) → ones (width w) e ≡ 0 → mark w e ≡ Plain
unfolding mark
mark_none w e h = rw h refl

pub mark_one : (w e : ℕ) → ones (width w) e ≡ 1 → mark w e ≡ Fixed (highest (width w) e)
unfolding mark
mark_one w e h = rw h refl

pub mark_two : (w e : ℕ) → ones (width w) e ≡ 2 → mark w e ≡ Bad
unfolding mark
mark_two w e h = rw h refl

-- its mark, and its value where it is not lost
pub record ReadsAs (w v e stored : ℕ) : Type 0 where
  pub mark_is : mark_of w stored ≡ mark w e
  pub value_is : mark w e ≢ Bad → value w stored ≡ held w v

module _ (w v e : ℕ) (small : e < 2 ^ width w) where
  reads_none : ones (width w) e ≡ 0 → ReadsAs w v e (bit_xor (code w v) e)
  unfolding mark_of value
  reads_none n =
      let r =
      read_none (width w) (checks w) (code w v) e (a_width w).checks_fit (code_is w v) small n in
      record { mark_is = ap mark_by r ∙ sym (mark_none w e n); value_is = λ ne. ap value_by r }

  reads_one : ones (width w) e ≡ 1 → ReadsAs w v e (bit_xor (code w v) e)
  unfolding mark_of value
  reads_one n =
      let r =
      read_one (width w) (checks w) (code w v) e (a_width w).checks_fit (code_is w v) small n in
      record { mark_is = ap mark_by r ∙ sym (mark_one w e n); value_is = λ ne. ap value_by r }

  reads_two : ones (width w) e ≡ 2 → ReadsAs w v e (bit_xor (code w v) e)
  unfolding mark_of value
  reads_two n =
      let r =
      read_two (width w) (checks w) (code w v) e (a_width w).checks_fit (code_is w v) small n in
      record {
        mark_is = ap mark_by r ∙ sym (mark_two w e n);
        value_is = λ ne. absurd (ne (mark_two w e n));
      }

  reads_as : ones (width w) e ≤ 2 → ReadsAs w v e (bit_xor (code w v) e)
  reads_as few = elim (cases_eq (ones (width w) e) 0) [
    | inl a ↦ reads_none a
    | inr a ↦ elim (cases_eq (ones (width w) e) 1) [
      | inl b ↦ reads_one b
      | inr b ↦ reads_two (omega (arith, a, b, few))
    ]
  ]

pub word_reads : (w v e stored : ℕ) → stored ≡ bit_xor (code w v) e → e < 2 ^ width w
    → ones (width w) e ≤ 2 → ReadsAs w v e stored
word_reads w v e stored is small few =
    subst (λ x. ReadsAs w v e x) (sym is) (reads_as w v e small few)
