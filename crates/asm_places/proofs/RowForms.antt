-- The form of a row that is found, and of one that is not.
use Rattle.std.proofs.Common.{◌≡◌, ℕ, Option, Some, None, sym, ◌∙◌, ap, codes, false}
use Rattle.std.proofs.lemmas.Option.{get_or_from_slice_get, unwrap_or-slice_get}
use Rattle.std.specs.Option.{unwrap_or}
use Rattle.esa_model.specs.Table.{rows, row_at, row_numbered}
use Rattle.esa_model.specs.declared.instructions.Form.TheVariants.{Rr}
use Rattle.esa_model.specs.declared.instructions.Row.{Row}

abbrev no_row : Row
no_row = record { opcode = 0; form = Rr; name = codes "      "; privileged = false }

pub found_form : (n : ℕ) (r : Row) → row_at n ≡ Some r → r.form ≡ (row_numbered n).form
unfolding row_at row_numbered
found_form n r h = ap (λ (x : Row). x.form) (sym (get_or_from_slice_get rows n r no_row h))

pub missing_form : (n : ℕ) → row_at n ≡ None → Rr ≡ (row_numbered n).form
unfolding row_at row_numbered
missing_form n h = ap (λ (o : Option Row). (unwrap_or o no_row).form) (sym h) ∙ ap (λ (x : Row). x.form) (unwrap_or-slice_get rows n no_row)
