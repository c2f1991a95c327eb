-- What a test of all rows says of each of them.
use Rattle.std.proofs.Common.{◌≡◌, ℕ, ◌+◌, ◌<◌, Bool, true, false, List, [], ◌∷◌, length, refl, arith, rules, get_or, sym, ap, subst, ◌∙◌}
use Rattle.std.specs.Prelude.{zero, suc, ◌==◌, ◌&&◌, IsTrue, Option, Some, None}
use Rattle.std.proofs.lemmas.Bool.Decides.{nat_tests}
use Rattle.esa_model.specs.declared.instructions.Row.{Row}
use Rattle.esa_model.specs.declared.instructions.Decoded.{Decoded}
use Rattle.esa_model.specs.Table.{rows as table, row_numbered, number_of, decoded, fields_at, opcode_of}
use Rattle.esa_table.specs.Encoding.{fits}
use Rattle.esa_table.specs.Search.{blank, decoded_in, fields_in, number_in}

abbrev pub is_number : ℕ → Option ℕ → Bool
is_number n None = false
is_number n (Some m) = m == n

-- a row at number n fits, and is the first with its opcode
abbrev pub is_known : ℕ → Row → Bool
is_known n r = fits r.form r.opcode && is_number n (number_of r.opcode)

-- each row from number n on does
abbrev pub all_known : ℕ → List Row → Bool
all_known n [] = true
all_known n (r ∷ rs) = is_known n r && all_known (n + 1) rs

pub both : (x y : Bool) → IsTrue (x && y) → IsTrue x × IsTrue y
both true true h = (refl, refl)
both true false h = cc
both false y h = cc

pub known_at : (rs : List Row) (n k m : ℕ) (r : Row) → IsTrue (all_known n rs) → k < length rs → m ≡ n + k → IsTrue (is_known m (get_or rs k r))
known_at [] n k m r h l e = absurd (omega arith)
known_at (x ∷ xs) n zero m r h l e =
    let same : m ≡ n = omega arith in
    let P : ℕ → Type 0 = λ q. IsTrue (is_known q x) in
    subst P (sym same) (both (is_known n x) (all_known (n + 1) xs) h).0
known_at (x ∷ xs) n (suc k) m r h l e =
    known_at xs (n + 1) k m r (both (is_known n x) (all_known (n + 1) xs) h).1 (omega arith) (omega arith)

pub all_rows_known : IsTrue (all_known 0 table)
unfolding number_of
all_rows_known = search rules

pub fields_are : (bytes : List ℕ) (o : Option ℕ) → fields_in table bytes o ≡ fields_at bytes o
unfolding row_numbered
fields_are bytes None = refl
fields_are bytes (Some n) = refl

pub decoded_is : (bytes : List ℕ) → decoded_in table bytes ≡ decoded bytes
unfolding decoded number_of number_in
decoded_is bytes = fields_are bytes (number_of (opcode_of bytes))

pub is_the_number : (n : ℕ) (o : Option ℕ) → IsTrue (is_number n o) → o ≡ Some n
is_the_number n None h = cc
is_the_number n (Some m) h = let e : m ≡ n = grind (arith, nat_tests) in ap Some e

-- a row of the table
pub record IsKnown (n : ℕ) : Type 0 where
  pub fit : IsTrue (fits (row_numbered n).form (row_numbered n).opcode)
  pub number : number_of (row_numbered n).opcode ≡ Some n

pub is_known_row : (n : ℕ) → n < 134 → IsKnown n
unfolding row_numbered
is_known_row n l =
    let r : Row = get_or table n blank in
    let h : IsTrue (is_known n r) = known_at table 0 n n blank all_rows_known l (omega arith) in
    let parts = both (fits r.form r.opcode) (is_number n (number_of r.opcode)) h in
    record { fit = parts.0; number = is_the_number n (number_of r.opcode) parts.1 }

pub fits_at : (n : ℕ) → n < 134 → IsTrue (fits (row_numbered n).form (row_numbered n).opcode)
fits_at n l = (is_known_row n l).fit

pub decoded_by : (rs : List Row) (bytes : List ℕ) → rs ≡ table → decoded_in rs bytes ≡ decoded bytes
decoded_by rs bytes e = let F : List Row → Option Decoded = λ xs. decoded_in xs bytes in ap F e ∙ decoded_is bytes
