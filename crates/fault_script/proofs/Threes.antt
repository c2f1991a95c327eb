use Rattle.std.proofs.Common.{◌≡◌, ℕ, ◌+◌, ◌<◌, ◌≤◌, Bool, true, false, cond, eqb, List, length, take, get_or, ap, ◌∙◌, arith, inl, inr}
use Rattle.std.specs.Prelude.{Option, Some, None, unwrap_or}
use Rattle.std.specs.List.{count_by}
use Rattle.std.proofs.lemmas.List.Sums.{sum_by_more, sum_by-take-le}
use Rattle.std.proofs.lemmas.Bool.{cases_eq}
use Rattle.std.proofs.lemmas.Bool.Decides.{nat_tests}
use Rattle.run_model.specs.declared.faults.Unit.TheVariants.{A}
use Rattle.run_model.specs.declared.faults.Strike.{Strike}
use Rattle.run_model.specs.declared.faults.Strike.TheVariants.{Packet}
use Rattle.run_model.specs.Premise.{strikes_word}
use Rattle.fault_script.specs.Places.{place}

-- what stands at a place past the end
abbrev pub no_strike : Strike
no_strike = Packet (record { 0 = 0 }) 0 A 0 None

pub counts_more : (ss : List Strike) (i c w k : ℕ) (t : Bool) → i < length ss → strikes_word c w k (get_or ss i no_strike) ≡ t → count_by (strikes_word c w k) (take (i + 1) ss) ≡ count_by (strikes_word c w k) (take i ss) + cond t 1 0
counts_more ss i c w k t lt e =
    let more = sum_by_more (λ (s : Strike). cond {A = ℕ} (strikes_word c w k s) 1 0) ss i no_strike lt in
    more ∙ ap (λ z. count_by (strikes_word c w k) (take i ss) + cond {A = ℕ} z 1 0) e

-- f gives the counts so far by their places, n is the count at p
pub more_at : (f : ℕ → Option ℕ) (new : Option ℕ) (p q n x : ℕ) → new ≡ cond (eqb p q) (Some (n + 1)) (f q) → n ≡ unwrap_or (f p) 0 → unwrap_or (f q) 0 ≡ x → unwrap_or new 0 ≡ x + cond (eqb p q) 1 0
more_at f new p q n x is here old = elim (cases_eq p q) [
  | inl e ↦
      let t : eqb p q ≡ true = grind (arith, nat_tests) in
      let a : new ≡ Some (n + 1) = is ∙ ap (λ (z : Bool). cond z (Some (n + 1)) (f q)) t in
      let b : n ≡ x = here ∙ ap (λ z. unwrap_or (f z) 0) e ∙ old in
      let c : cond {A = ℕ} (eqb p q) 1 0 ≡ 1 = ap (λ (z : Bool). cond {A = ℕ} z 1 0) t in
      let d : n + 1 ≡ x + cond {A = ℕ} (eqb p q) 1 0 = omega arith in
      ap (λ o. unwrap_or o 0) a ∙ d
  | inr ne ↦
      let t : eqb p q ≡ false = grind (arith, nat_tests) in
      let a : new ≡ f q = is ∙ ap (λ (z : Bool). cond z (Some (n + 1)) (f q)) t in
      let c : cond {A = ℕ} (eqb p q) 1 0 ≡ 0 = ap (λ (z : Bool). cond {A = ℕ} z 1 0) t in
      let d : x ≡ x + cond {A = ℕ} (eqb p q) 1 0 = omega arith in
      ap (λ o. unwrap_or o 0) a ∙ old ∙ d
]

pub few_at : (f : ℕ → Option ℕ) (p q n x : ℕ) → n ≡ unwrap_or (f p) 0 → unwrap_or (f q) 0 ≡ x → n < 2 → x ≤ 2 → x + cond (eqb p q) 1 0 ≤ 2
few_at f p q n x here old small few = elim (cases_eq p q) [
  | inl e ↦
      let t : eqb p q ≡ true = grind (arith, nat_tests) in
      let b : n ≡ x = here ∙ ap (λ z. unwrap_or (f z) 0) e ∙ old in
      let c : cond {A = ℕ} (eqb p q) 1 0 ≡ 1 = ap (λ (z : Bool). cond {A = ℕ} z 1 0) t in
      omega arith
  | inr ne ↦
      let t : eqb p q ≡ false = grind (arith, nat_tests) in
      let c : cond {A = ℕ} (eqb p q) 1 0 ≡ 0 = ap (λ (z : Bool). cond {A = ℕ} z 1 0) t in
      omega arith
]

-- a third strike
pub too_many : (f : ℕ → Option ℕ) (ss : List Strike) (i c w k p n : ℕ) → i < length ss → p ≡ place c w k → strikes_word c w k (get_or ss i no_strike) ≡ eqb p (place c w k) → unwrap_or (f (place c w k)) 0 ≡ count_by (strikes_word c w k) (take i ss) → n ≡ unwrap_or (f p) 0 → 2 ≤ n → count_by (strikes_word c w k) ss ≤ 2 → ⊥
too_many f ss i c w k p n lt is same old here two few =
    let q = place c w k in
    let t : eqb p q ≡ true = grind (arith, nat_tests) in
    let b : n ≡ count_by (strikes_word c w k) (take i ss) = here ∙ ap (λ z. unwrap_or (f z) 0) is ∙ old in
    let more = counts_more ss i c w k true lt (same ∙ t) in
    let le = sum_by-take-le (λ (s : Strike). cond {A = ℕ} (strikes_word c w k s) 1 0) ss (i + 1) in
    omega arith
