-- An opcode that has a value of words, or a byte of its own, is below 256.
use Rattle.std.proofs.Common.{◌≡◌, ℕ, ◌+◌, ◌<◌, Bool, true, false, List, [], ◌∷◌, refl, arith, rules}
use Rattle.std.specs.Prelude.{◌==◌, nat_lt, if◌then◌else◌, IsTrue}
use Rattle.std.proofs.lemmas.Bool.Decides.{nat_tests}
use Rattle.esa_model.specs.declared.machine.Value.{Value}
use Rattle.esa_model.specs.WordRows.{lists, rr_rows, half_rows, shift_rows, is_rr, is_half, is_shift}
use Rattle.esa_model.specs.Moves.{is_move}

abbrev are_bytes : List (ℕ × (ℕ → ℕ → ℕ → Value)) → Bool
are_bytes [] = true
are_bytes (row ∷ rows) = if nat_lt row.0 256 then are_bytes rows else false

is_byte : (a b : Bool) (n op : ℕ) (rows : List (ℕ × (ℕ → ℕ → ℕ → Value)))
    → nat_lt n 256 ≡ a → (n == op) ≡ b
    → (IsTrue (are_bytes rows) → IsTrue (lists op rows) → op < 256)
    → IsTrue (if a then are_bytes rows else false) → IsTrue (if b then true else lists op rows)
    → op < 256
is_byte true true n op rows e d more h k = grind (arith, nat_tests)
is_byte true false n op rows e d more h k = more h k
is_byte false b n op rows e d more h k = cc

listed_byte : (op : ℕ) (rows : List (ℕ × (ℕ → ℕ → ℕ → Value))) → IsTrue (are_bytes rows)
    → IsTrue (lists op rows) → op < 256
listed_byte op [] h k = cc
listed_byte op (row ∷ rows) h k =
    is_byte (nat_lt row.0 256) (row.0 == op) row.0 op rows refl refl (listed_byte op rows) h k

rr_bytes : IsTrue (are_bytes rr_rows)
rr_bytes = search rules

half_bytes : IsTrue (are_bytes half_rows)
half_bytes = search rules

shift_bytes : IsTrue (are_bytes shift_rows)
shift_bytes = search rules

pub rr_byte : (op : ℕ) → IsTrue (is_rr op) → op < 256
unfolding is_rr
rr_byte op h = listed_byte op rr_rows rr_bytes h

pub half_byte : (op : ℕ) → IsTrue (is_half op) → op < 256
unfolding is_half
half_byte op h = listed_byte op half_rows half_bytes h

pub shift_byte : (op : ℕ) → IsTrue (is_shift op) → op < 256
unfolding is_shift
shift_byte op h = listed_byte op shift_rows shift_bytes h

-- the opcode of a row on bytes, as that of a row on an immediate byte gives it
pub move_byte : (op : ℕ) → IsTrue (is_move (op + 0x40)) → op + 0x40 < 256
move_byte op h = grind (arith, nat_tests)
