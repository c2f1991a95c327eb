-- Rows by their numbers and names.
use Rattle.std.proofs.Common.{◌≡◌, ℕ, zero, suc, ◌+◌, ◌-◌, ◌<◌, ◌≤◌, inl, inr, Bool, true, false, cond, not, List, [], ◌∷◌, ◌++◌, length, get_or, Some, None, refl, ◌∙◌, ap, arith}
use Rattle.std.specs.Prelude.{replicate, position, slice_get, codes}
use Rattle.std.specs.List.{position_or_len}
use Rattle.std.proofs.lemmas.Bool.Decides.{nat_tests}
use Rattle.std.proofs.lemmas.Bool.{cases_lt}
use Rattle.std.specs.Prelude.{◌==◌}
use Rattle.byteorder.specs.Endian.{big_number}
use Rattle.esa_model.specs.declared.instructions.Row.{Row}
use Rattle.esa_model.specs.declared.instructions.Form.TheVariants.{Rr}
use Rattle.esa_model.specs.Table.{rows, row_at, row_numbered}
use Rattle.asm_model.specs.Statement.{row_named}
use Rattle.asm_lines.specs.Names.{six_byte, has_name, IsNew}

-- ---- six bytes

pub six_bytes_are :
    (w : List ℕ) → length w ≤ 6
    → six_byte w 0 ∷ six_byte w 1 ∷ six_byte w 2 ∷ six_byte w 3 ∷ six_byte w 4 ∷ six_byte w 5 ∷ []
    ≡ w ++ replicate (6 - length w) 32
six_bytes_are [] l = refl
six_bytes_are (a ∷ []) l = refl
six_bytes_are (a ∷ b ∷ []) l = refl
six_bytes_are (a ∷ b ∷ c ∷ []) l = refl
six_bytes_are (a ∷ b ∷ c ∷ d ∷ []) l = refl
six_bytes_are (a ∷ b ∷ c ∷ d ∷ e ∷ []) l = refl
six_bytes_are (a ∷ b ∷ c ∷ d ∷ e ∷ f ∷ []) l = refl
six_bytes_are (a ∷ b ∷ c ∷ d ∷ e ∷ f ∷ g ∷ more) l = absurd (omega arith)

-- ---- the row of a number

abbrev pub no_name : Row
no_name = record { opcode = 0; form = Rr; name = codes "      "; privileged = false }

got :
    (rs : List Row) (n : ℕ) (r : Row) → slice_get rs n ≡ Some r → r ≡ get_or rs n no_name
got [] n r h = absurd (cc)
got (x ∷ rs) zero r h = cc
got (x ∷ rs) (suc n) r h = got rs n r h

got_none :
    (rs : List Row) (n : ℕ) → slice_get rs n ≡ None → no_name ≡ get_or rs n no_name
got_none [] n h = refl
got_none (x ∷ rs) zero h = absurd (cc)
got_none (x ∷ rs) (suc n) h = got_none rs n h

pub row_is : (n : ℕ) (r : Row) → row_at n ≡ Some r → r ≡ row_numbered n
unfolding row_at row_numbered
row_is n r h = got rows n r h

pub no_row : (n : ℕ) → row_at n ≡ None → no_name ≡ row_numbered n
unfolding row_at row_numbered
no_row n h = got_none rows n h

-- ---- the first row with a name

step_past :
    (b : Bool) (n m : ℕ) → b ≡ false → n ≡ m → cond (not b) (1 + n) 0 ≡ suc m
step_past true n m h e = absurd (cc)
step_past false n m h e = omega arith

found_at :
    (p : Row → Bool) (rs : List Row) (n : ℕ) → n < length rs
    → ((k : ℕ) → k < n → p (get_or rs k no_name) ≡ false)
    → p (get_or rs n no_name) ≡ true → position_or_len p rs ≡ n
found_at p [] n l none holds = absurd (omega arith)
found_at p (x ∷ rs) zero l none holds = rw holds refl
found_at p (x ∷ rs) (suc n) l none holds =
    step_past (p x) (position_or_len p rs) n (none 0 (omega arith))
    (found_at p rs n (omega arith) (λ k h. none (suc k) (omega arith)) holds)

found_none :
    (p : Row → Bool) (rs : List Row)
    → ((k : ℕ) → k < length rs → p (get_or rs k no_name) ≡ false)
    → position_or_len p rs ≡ length rs
found_none p [] none = refl
found_none p (x ∷ rs) none =
    step_past (p x) (position_or_len p rs) (length rs) (none 0 (omega arith))
    (found_none p rs (λ k h. none (suc k) (omega arith)))

position_at :
    (p : Row → Bool) (rs : List Row) (n : ℕ) → n < length rs
    → ((k : ℕ) → k < n → p (get_or rs k no_name) ≡ false)
    → p (get_or rs n no_name) ≡ true → position p rs ≡ Some n
position_at p rs n l none holds =
    let e : position_or_len p rs ≡ n = found_at p rs n l none holds in
    grind (arith, nat_tests)

position_none :
    (p : Row → Bool) (rs : List Row)
    → ((k : ℕ) → k < length rs → p (get_or rs k no_name) ≡ false) → position p rs ≡ None
position_none p rs none =
    let e : position_or_len p rs ≡ length rs = found_none p rs none in
    grind (arith, nat_tests)

pub none_at_start : (name : ℕ) → IsNew name 0
none_at_start name = record { none = λ k h. absurd (omega arith) }

pub none_next :
    (name number : ℕ) → IsNew name number → has_name name number ≡ false
    → IsNew name (number + 1)
none_next name number new fails = record {
  none = λ k h. elim (cases_lt k number) [
    | inl below ↦ new.none k below
    | inr above ↦ let same : k ≡ number = omega arith in ap (has_name name) same ∙ fails
  ];
}

pub first_named :
    (name number : ℕ) → number < 134 → IsNew name number → has_name name number ≡ true
    → row_named name ≡ Some number
unfolding row_named row_numbered
first_named name number l new holds =
    position_at (λ r. big_number 6 r.name == name) rows number l new.none holds

pub none_named : (name number : ℕ) → 134 ≤ number → IsNew name number → row_named name ≡ None
unfolding row_named row_numbered
none_named name number l new =
    position_none (λ r. big_number 6 r.name == name) rows (λ k h. new.none k (omega arith))
