-- What the values of this crate say of fields and whole numbers.
-- Source: Principles of Operation, chapter Decimal Instructions; that a value keeps 31 digits is a
-- choice of this project.
use Rattle.std.specs.Prelude.{ℕ, ℤ, ◌%◌, ◌≡◌, ◌≤◌, Bool, true, false, List, Option, Some, None}
use Rattle.esa_model.specs.Packed.{is_packed, magnitude_of, is_negative_field, whole, written, limit, kept, is_lost}
use Rattle.decimal_digits.specs.declared.values.Digits.{Digits}
use Rattle.decimal_digits.specs.declared.values.Wide.{Wide}

-- the whole number of a value
abbrev pub number_of : Digits → ℤ
number_of d = whole d.negative d.magnitude

-- the sign and number of a field, none at a bad digit or sign
abbrev pub ReadAs : List ℕ → Option Digits → Type 0
ReadAs f None = is_packed f ≡ false
ReadAs f (Some d) =
    (is_packed f ≡ true) × (d.negative ≡ is_negative_field f) × (d.magnitude ≡ magnitude_of f)

-- the low 31 digits of m with this sign, and whether others are lost
pub record IsWide (w : Wide) (negative : Bool) (m : ℕ) : Type 0 where
  pub sign : w.digits.negative ≡ negative
  pub magnitude : w.digits.magnitude ≡ kept m
  pub lost : w.lost ≡ is_lost m

-- a field that is good and holds this sign and number
pub record Holds (field : List ℕ) (negative : Bool) (m : ℕ) : Type 0 where
  pub packed : is_packed field ≡ true
  pub sign : is_negative_field field ≡ negative
  pub magnitude : magnitude_of field ≡ m

-- what is written is read: its sign, and the low digits
abbrev pub WrittenIsRead : Type 0
WrittenIsRead =
    (n m : ℕ) (negative : Bool) → 1 ≤ n → Holds (written n negative m) negative (m % limit n)
