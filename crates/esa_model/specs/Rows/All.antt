-- The lines of all kinds of rows, by the module of their class.
-- Source: choice of this project; each row has its source in its own module.
use Rattle.std.specs.Prelude.{ℕ, ◌≡◌, Bool, true, refl}
use Rattle.std.specs.List.{list_all}
use Rattle.esa_model.specs.declared.kinds.Kind.{Kind}
use Rattle.esa_model.specs.declared.kinds.Kind.TheVariants.{Words, Branches, Stores, Bytes, Decimals, Controls}
use Rattle.esa_model.specs.Line.{FullLine, full}
use Rattle.esa_model.specs.Table.{TableRow, table}
use Rattle.esa_model.specs.WordRows.{is_rr, is_half, is_shift}
use Rattle.esa_model.specs.BranchRows.{is_branch}
use Rattle.esa_model.specs.Rows.Words.{words_line, has_words}
use Rattle.esa_model.specs.Rows.Branches.{branches_line, has_branch}
use Rattle.esa_model.specs.Rows.Stores.{stores_line, has_store}
use Rattle.esa_model.specs.Rows.Bytes.{bytes_line, has_bytes}
use Rattle.esa_model.specs.Rows.Decimals.{decimals_line, has_decimal}
use Rattle.esa_model.specs.Rows.Controls.{controls_line, has_control}

-- the line of a row of this kind and opcode
unfoldable pub line : Kind → ℕ → FullLine
line (Words k) op = full (words_line k op)
line (Branches k) op = full (branches_line k op)
line (Stores k) op = full (stores_line k op)
line (Bytes k) op = full (bytes_line k op)
line (Decimals k) op = full (decimals_line k op)
line (Controls k) op = controls_line k op

-- whether the values that this line names are defined for the opcode
unfoldable pub is_of_kind : Kind → ℕ → Bool
is_of_kind (Words k) op = has_words k op
is_of_kind (Branches k) op = has_branch k op
is_of_kind (Stores k) op = has_store k op
is_of_kind (Bytes k) op = has_bytes k op
is_of_kind (Decimals k) op = has_decimal k op
is_of_kind (Controls k) op = has_control k op

abbrev pub has_line : TableRow → Bool
has_line r = is_of_kind r.kind r.row.opcode

-- each row of the table has a line
pub rows_have_lines : list_all has_line table ≡ true
unfolding is_of_kind has_words has_branch has_store has_bytes has_decimal has_control is_rr is_half is_shift is_branch
rows_have_lines = refl
