-- Hexadecimal digits, and texts between marks.
use Rattle.std.proofs.Common.{◌≡◌, ℕ, ◌+◌, ◌-◌, ◌*◌, ◌<◌, ◌≤◌, Bool, true, false, ◌&&◌, ◌==◌, nat_lt, List, [], ◌∷◌, length, drop, get_or, refl, arith}
use Rattle.std.proofs.lemmas.Bool.Decides.{nat_tests}
use Rattle.std.specs.List.{list_all}
use Rattle.std.specs.Char.{digit_value}
use Rattle.asm_model.specs.Words.{is_hex_byte, is_enclosed}
use Rattle.asm_model.specs.Statement.{pairs, hex_digit_value}

pub digit_is : (b : ℕ) → is_hex_byte b ≡ true → digit_value b ≡ hex_digit_value b
digit_is b h = grind (arith, nat_tests)

both_left : (b c : Bool) → (b && c) ≡ true → b ≡ true
both_left true c h = refl
both_left false c h = absurd (cc)

both_right : (b c : Bool) → (b && c) ≡ true → c ≡ true
both_right true c h = h
both_right false c h = absurd (cc)

-- ---- two digits off the front

pub record HasTwo (rest : List ℕ) : Type 0 where
  pub first : is_hex_byte (get_or rest 0 0) ≡ true
  pub second : is_hex_byte (get_or rest 1 0) ≡ true
  pub digits : list_all is_hex_byte (drop 2 rest) ≡ true
  pub byte :
      pairs rest
      ≡ (hex_digit_value (get_or rest 0 0) * 16 + hex_digit_value (get_or rest 1 0))
      ∷ pairs (drop 2 rest)

pub two_digits :
    (rest : List ℕ) → 2 ≤ length rest → list_all is_hex_byte rest ≡ true → HasTwo rest
two_digits [] l h = absurd (omega arith)
two_digits (a ∷ []) l h = absurd (omega arith)
two_digits (a ∷ b ∷ rest) l h =
    let more = both_right (is_hex_byte a) (is_hex_byte b && list_all is_hex_byte rest) h in
    record {
      first = both_left (is_hex_byte a) (is_hex_byte b && list_all is_hex_byte rest) h;
      second = both_left (is_hex_byte b) (list_all is_hex_byte rest) more;
      digits = both_right (is_hex_byte b) (list_all is_hex_byte rest) more;
      byte = refl;
    }

pub no_digits : (rest : List ℕ) → length rest < 2 → pairs rest ≡ []
no_digits [] l = refl
no_digits (a ∷ []) l = refl
no_digits (a ∷ b ∷ rest) l = absurd (omega arith)

-- ---- texts between marks

pub enclosed_long :
    (letter left right : ℕ) (w : List ℕ) → is_enclosed letter left right w ≡ true → 3 < length w
enclosed_long letter left right w h =
    let marks : Bool =
    (get_or w 0 0 == letter)
    && ((get_or w 1 0 == left) && (get_or w (length w - 1) 0 == right)) in
    let y = both_left (nat_lt 3 (length w)) marks h in
    grind (arith, nat_tests)
