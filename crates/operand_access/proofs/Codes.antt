-- Codes over the bytes of operands, where the storage is told by its size; and where a code of zero puts the bytes.
use Rattle.std.proofs.Common.{◌≡◌, ℕ, zero, suc, ◌+◌, ◌<◌, Bool, true, List, [], ◌∷◌, length, get_or, refl, ap, ◌∙◌, inl, inr, arith}
use Rattle.std.specs.Prelude.{nat_le}
use Rattle.std.proofs.lemmas.Bool.{cases_lt}
use Rattle.esa_model.specs.declared.machine.Registers.{Registers}
use Rattle.esa_model.specs.Word.{first_code}
use Rattle.esa_model.specs.Access.{Operand, place, permit, codes, in_turn}
use Rattle.operand_access.specs.Seen.{memory, permit_in, codes_in, IsInside}

pub codes_known : (r : Registers) (s keys : List ℕ) (o : Operand) → codes_in r (length s) keys o.store o.at o.offsets ≡ codes r (memory s keys) o
unfolding codes permit permit_in
codes_known r s keys o = refl

pub codes_sized : (r : Registers) (s keys : List ℕ) (size : ℕ) (o : Operand) → size ≡ length s → codes_in r size keys o.store o.at o.offsets ≡ codes r (memory s keys) o
codes_sized r s keys size o e = ap (λ (n : ℕ). codes_in r n keys o.store o.at o.offsets) e ∙ codes_known r s keys o

permit_inside : (r : Registers) (size : ℕ) (keys : List ℕ) (store : Bool) (n : ℕ) → permit_in r size keys store n ≡ 0 → place r n < size
unfolding permit_in
permit_inside r size keys store n h =
    elim (cases_lt (place r n) size) [
      | inl f ↦ f
      | inr f ↦ let t : nat_le size (place r n) ≡ true = grind (arith, f) in let g = rw t at h in absurd cc
    ]

first_zero : (c : ℕ) (cs : List ℕ) → first_code (c ∷ cs) ≡ 0 → c ≡ 0
first_zero c cs h = grind (arith, h)

then_zero : (c : ℕ) (cs : List ℕ) → first_code (c ∷ cs) ≡ 0 → first_code cs ≡ 0
then_zero c cs h = let e : c ≡ 0 = first_zero c cs h in rw e at h

-- no code of zero but where all bytes are inside
pub code_inside : (r : Registers) (size : ℕ) (keys : List ℕ) (store : Bool) (at : ℕ) (ks : List ℕ)
    → first_code (codes_in r size keys store at ks) ≡ 0 → (j d : ℕ) → j < length ks → place r (at + get_or ks j d) < size
code_inside r size keys store at [] h j d l = absurd (omega (arith, l))
code_inside r size keys store at (k ∷ ks) h zero d l =
    permit_inside r size keys store (at + k) (first_zero (permit_in r size keys store (at + k)) (codes_in r size keys store at ks) h)
code_inside r size keys store at (k ∷ ks) h (suc j) d l =
    code_inside r size keys store at ks (then_zero (permit_in r size keys store (at + k)) (codes_in r size keys store at ks) h) j d (omega (arith, l))

-- codes in turn are zero only where both are
pub turn_zero : (xs ys : List ℕ) → length xs ≡ length ys → first_code (in_turn xs ys) ≡ 0 → (first_code xs ≡ 0) × (first_code ys ≡ 0)
turn_zero [] [] e h = (refl, refl)
turn_zero [] (y ∷ ys) e h = absurd (omega (arith, e))
turn_zero (x ∷ xs) [] e h = absurd (omega (arith, e))
turn_zero (x ∷ xs) (y ∷ ys) e h =
    let a = first_zero x (y ∷ in_turn xs ys) h in
    let g = then_zero x (y ∷ in_turn xs ys) h in
    let b = first_zero y (in_turn xs ys) g in
    let rest = turn_zero xs ys (omega (arith, e)) (then_zero y (in_turn xs ys) g) in
    (rw a rest.0, rw b rest.1)

-- ---- the same of operands

pub code_sized : (r : Registers) (s keys : List ℕ) (size : ℕ) (o : Operand) → size ≡ length s
    → first_code (codes_in r size keys o.store o.at o.offsets) ≡ first_code (codes r (memory s keys) o)
code_sized r s keys size o e = ap first_code (codes_sized r s keys size o e)

pub operand_inside : (r : Registers) (keys : List ℕ) (size n : ℕ) (o : Operand) → size ≡ n
    → first_code (codes_in r size keys o.store o.at o.offsets) ≡ 0 → IsInside r n o
operand_inside r keys size n o e h j d l = let i = code_inside r size keys o.store o.at o.offsets h j d l in omega (arith, i, e)

pub turn_sized : (r : Registers) (s keys : List ℕ) (size : ℕ) (a b : Operand) → size ≡ length s
    → first_code (in_turn (codes_in r size keys a.store a.at a.offsets) (codes_in r size keys b.store b.at b.offsets))
    ≡ first_code (in_turn (codes r (memory s keys) a) (codes r (memory s keys) b))
turn_sized r s keys size a b e = rw (codes_sized r s keys size a e, codes_sized r s keys size b e) refl

same_length : (r : Registers) (size : ℕ) (keys : List ℕ) (store : Bool) (at : ℕ) (ks : List ℕ) → length (codes_in r size keys store at ks) ≡ length ks
same_length r size keys store at [] = refl
same_length r size keys store at (k ∷ ks) = let e = same_length r size keys store at ks in omega (arith, e)

pub turn_inside : (r : Registers) (keys : List ℕ) (size n : ℕ) (a b : Operand) → size ≡ n → length a.offsets ≡ length b.offsets
    → first_code (in_turn (codes_in r size keys a.store a.at a.offsets) (codes_in r size keys b.store b.at b.offsets)) ≡ 0
    → IsInside r n a × IsInside r n b
turn_inside r keys size n a b e even h =
    let xs : List ℕ = codes_in r size keys a.store a.at a.offsets in
    let ys : List ℕ = codes_in r size keys b.store b.at b.offsets in
    let p = same_length r size keys a.store a.at a.offsets in
    let q = same_length r size keys b.store b.at b.offsets in
    let both = turn_zero xs ys (omega (arith, p, q, even)) h in
    (operand_inside r keys size n a e both.0, operand_inside r keys size n b e both.1)
