-- The kind of each row, and that the values which its line names are defined.
use Rattle.std.proofs.Common.{◌≡◌, ℕ, ◌<◌, Bool, true, false, List, length, refl, sym, ◌∙◌, get_or}
use Rattle.std.specs.Prelude.{Option, Some, None, IfSome, map, slice_index, slice_index_or}
use Rattle.std.specs.List.{list_all}
use Rattle.std.proofs.lemmas.List.{get_or-map}
use Rattle.std.proofs.lemmas.List.Folds.{list_all_at}
use Rattle.std.proofs.lemmas.Option.{slice_get-get_or}
use Rattle.esa_model.specs.declared.kinds.Kind.TheVariants.{Branches}
use Rattle.esa_model.specs.declared.kinds.BranchKind.TheVariants.{Execute}
use Rattle.esa_model.specs.declared.instructions.Decoded.{Decoded}
use Rattle.esa_model.specs.Table.{TableRow, table, kinds, kind_at, kind_numbered, row_numbered, decoded}
use Rattle.esa_model.specs.Rows.All.{is_of_kind, has_line, rows_have_lines}
use Rattle.esa_table.specs.Search.{blank}
use Rattle.esa_table.specs.Encoding.{HasLine, IsInstruction}
use Rattle.esa_table.proofs.Found.{is_instruction}

true_at : (p : TableRow → Bool) (xs : List TableRow) (n : ℕ) (d : TableRow)
    → n < length xs → list_all p xs ≡ true → (b : Bool) → p (get_or xs n d) ≡ b → p (get_or xs n d) ≡ true
true_at p xs n d l h true e = e
true_at p xs n d l h false e =
    let none : true ≡ false = sym h ∙ list_all_at p xs n d l e in absurd cc

of_kind : (xs : List TableRow) (n : ℕ) (d : TableRow) → n < length xs → list_all has_line xs ≡ true
    → is_of_kind (slice_index_or (map (λ (r : TableRow). r.kind) xs) n d.kind)
    (slice_index_or (map (λ (r : TableRow). r.row) xs) n d.row).opcode ≡ true
of_kind xs n d l h =
    rw (
      get_or-map (λ (r : TableRow). r.kind) xs n d d.kind l,
      get_or-map (λ (r : TableRow). r.row) xs n d d.row l,
    )
    (true_at has_line xs n d l h (has_line (get_or xs n d)) refl)

-- no row
no_row : TableRow
no_row = record { row = blank; kind = Branches Execute }

numbered_of_kind : (n : ℕ) → n < 134 → is_of_kind (kind_numbered n) (row_numbered n).opcode ≡ true
unfolding kind_numbered row_numbered no_row
numbered_of_kind n l = of_kind table n no_row l rows_have_lines

numbered_kind : (n : ℕ) → n < 134 → kind_at n ≡ Some (kind_numbered n)
unfolding kind_at kind_numbered
numbered_kind n l = slice_get-get_or kinds n (Branches Execute) l

-- ---- of an instruction

kind_by : (o : Option Decoded) → IfSome o IsInstruction
    → IfSome o (λ d. kind_at d.row ≡ Some (kind_numbered d.row))
kind_by None h = tt
kind_by (Some d) h = numbered_kind d.row h.row

pub has_kind : (bytes : List ℕ) → ((k : ℕ) → slice_index bytes k < 256)
    → IfSome (decoded bytes) (λ d. kind_at d.row ≡ Some (kind_numbered d.row))
has_kind bytes small = kind_by (decoded bytes) (is_instruction bytes small)

known_by : (o : Option Decoded) → IfSome o IsInstruction → IfSome o HasLine
known_by None h = tt
known_by (Some d) h = numbered_of_kind d.row h.row

pub is_known : (bytes : List ℕ) → ((k : ℕ) → slice_index bytes k < 256) → IfSome (decoded bytes) HasLine
is_known bytes small = known_by (decoded bytes) (is_instruction bytes small)
