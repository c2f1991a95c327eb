-- A field and a value that are known by the low 31 digits of a number.
use Rattle.std.proofs.Common.{◌≡◌, ℕ, zero, suc, ◌+◌, ◌-◌, ◌*◌, ◌/◌, ◌%◌, ◌^◌, ◌<◌, ◌≤◌, Bool, true, false, cond, ◌||◌, eqb, leb, List, [], ◌∷◌, ◌++◌, ap, sym, ◌∙◌, refl, arith, inl, inr}
use Rattle.std.specs.Prelude.{ℤ, unsigned_abs}
use Rattle.std.specs.Int.{is_negative}
use Rattle.std.proofs.lemmas.Bool.{cases_lt}
use Rattle.std.proofs.lemmas.Bool.Decides.{nat_tests}
use Rattle.std.proofs.Math.Nat.{mod-eq_of_lt, pow-suc, pow-le-pow_right}
use Rattle.esa_model.specs.Packed.{pairs, written, limit, sign_code}
use Rattle.esa_model.specs.DecimalRows.{Decimal, ends, sum_value, stored, Leaves}
use Rattle.esa_model.specs.declared.codes.TheConstants.{DECIMAL_OVERFLOW}
use Rattle.esa_model.specs.declared.machine.Value.{Value}
use Rattle.decimal_digits.specs.declared.values.Wide.{Wide}
use Rattle.decimal_digits.specs.Meaning.{IsWide}
use Rattle.decimal_digits.proofs.Places.{hundred_pos}
use Rattle.decimal_digits.proofs.Back.{low_digits}
use Rattle.decimal_digits.proofs.Scales.{tens_pos}
use Rattle.decimal_instr.specs.Ends.{sum_end}

abbrev push : List ℕ → ℕ → List ℕ
push bs x = bs ++ x ∷ []

-- the low digits of low digits are those of the number
pairs_low : (n k m : ℕ) → n ≤ k → pairs n (m % 100 ^ k) ≡ pairs n m
pairs_low zero k m le = refl
pairs_low (suc n) zero m le = absurd (omega arith)
pairs_low (suc n) (suc k) m le =
    let c = 100 ^ k in
    let low : m % 100 ^ suc k ≡ m / 100 % c * 100 + m % 100 =
    ap (λ x. m % x) (pow-suc 100 k)
    ∙ sym (low_digits m 100 c (hundred_pos 1) (hundred_pos k)) in
    let high : m % 100 ^ suc k / 100 ≡ m / 100 % c = omega arith in
    let byte : m % 100 ^ suc k % 100 / 10 * 16 + m % 100 ^ suc k % 10
    ≡ m % 100 / 10 * 16 + m % 10 = omega arith in
    ap (λ x. push (pairs n (m % 100 ^ suc k / 100)) x) byte
    ∙ ap (λ x. push (pairs n x) (m % 100 / 10 * 16 + m % 10)) high
    ∙ ap (λ l. push l (m % 100 / 10 * 16 + m % 10)) (pairs_low n k (m / 100) (omega arith))

written_low : (n m : ℕ) (negative : Bool) → n ≤ 16
    → written n negative (m % 10 ^ 31) ≡ written n negative m
unfolding written
written_low n m negative le =
    let c = 100 ^ 15 in
    let t : 10 ^ 31 ≡ c * 10 = refl in
    let low : m % 10 ^ 31 ≡ m / 10 % c * 10 + m % 10 =
    ap (λ x. m % x) t ∙ sym (low_digits m 10 c (tens_pos 1) (hundred_pos 15)) in
    let high : m % 10 ^ 31 / 10 ≡ m / 10 % c = omega arith in
    let digit : m % 10 ^ 31 % 10 ≡ m % 10 = omega arith in
    ap (λ x. push (pairs (n - 1) (m % 10 ^ 31 / 10)) (x * 16 + sign_code negative)) digit
    ∙ ap (λ x. push (pairs (n - 1) x) (m % 10 * 16 + sign_code negative)) high
    ∙ ap (λ l. push l (m % 10 * 16 + sign_code negative))
    (pairs_low (n - 1) 15 (m / 10) (omega arith))

abbrev if_over : Bool → Bool → ℕ → Value
if_over x n m =
    cond x (ends 3 DECIMAL_OVERFLOW) (cond (eqb m 0) (ends 0 0) (cond n (ends 1 0) (ends 2 0)))

-- the code is the same where digits are lost
same_end : (m l t : ℕ) (n : Bool) → 0 < t → l ≤ t
    → sum_end (leb t m || leb l (m % t)) n (m % t) ≡ if_over (leb l m) n m
same_end m l t n tp le = elim (cases_lt m t) [
  | inl small ↦
      let e : m % t ≡ m = mod-eq_of_lt small in
      let f : leb t m ≡ false = grind (arith, nat_tests) in
      ap (λ x. sum_end (leb t m || leb l x) n x) e ∙ ap (λ (x : Bool). sum_end (x || leb l m) n m) f
  | inr large ↦
      let f : leb t m ≡ true = grind (arith, nat_tests) in
      let g : leb l m ≡ true = grind (arith, nat_tests) in
      ap (λ (x : Bool). sum_end (x || leb l (m % t)) n (m % t)) f
      ∙ sym (ap (λ (x : Bool). if_over x n m) g)
]

abbrev made : List ℕ → Value → Decimal
made f v = record { field = f; value = v }

pub stored_is : (new : List ℕ) (w : Wide) (v : Value) (n : ℕ) (lost : Bool) → 1 ≤ n → n ≤ 16
    → new ≡ written n w.digits.negative w.digits.magnitude → lost ≡ leb (limit n) w.digits.magnitude
    → v ≡ sum_end (w.lost || lost) w.digits.negative w.digits.magnitude
    → (z : ℤ) → IsWide w (is_negative z) (unsigned_abs z) → Leaves (stored n z) new v
unfolding stored
stored_is new w v n lost some few field over end z wide =
    let d = w.digits in
    let s = is_negative z in
    let m = unsigned_abs z in
    let l = limit n in
    let p : 0 < 10 = omega arith in
    let j : 2 * n - 1 ≤ 31 = omega arith in
    let le : l ≤ 10 ^ 31 = pow-le-pow_right p j in
    let f : new ≡ written n s m = field
    ∙ ap (λ (x : Bool). written n x d.magnitude) wide.sign
    ∙ ap (λ x. written n s x) wide.magnitude
    ∙ written_low n m s few in
    let e : v ≡ sum_value n s m = end
    ∙ ap (λ (x : Bool). sum_end (w.lost || x) d.negative d.magnitude) over
    ∙ ap (λ (x : Bool). sum_end (x || leb l d.magnitude) d.negative d.magnitude) wide.lost
    ∙ ap (λ x. sum_end (leb (10 ^ 31) m || leb l x) w.digits.negative x) wide.magnitude
    ∙ ap (λ (x : Bool). sum_end (leb (10 ^ 31) m || leb l (m % 10 ^ 31)) x (m % 10 ^ 31)) wide.sign
    ∙ same_end m l (10 ^ 31) s (tens_pos 31) le in
    ap (λ (x : List ℕ). made x (sum_value n s m)) (sym f) ∙ ap (λ (x : Value). made new x) (sym e)
