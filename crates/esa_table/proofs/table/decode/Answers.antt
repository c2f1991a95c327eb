-- Facts of what the definition decodes, of the result that is equal to it.
use Rattle.std.proofs.Common.{◌≡◌, Option, Some, sym, subst, ◌∙◌}
use Rattle.std.specs.Prelude.{IfSome}
use Rattle.esa_model.specs.declared.instructions.Decoded.{Decoded}
use Rattle.esa_model.specs.Table.{row_of, row_at, row_numbered, kind_at, kind_numbered, opcode_of}
use Rattle.esa_table.specs.Encoding.{HasLine, IsInRange, IsInstruction}
use Rattle.esa_table.proofs.Known.{decoded_by}
use Rattle.esa_table.proofs.Found.{is_row, is_number, is_instruction, is_in_range}
use Rattle.esa_table.proofs.RowKinds.{has_kind, is_known}
use Rattle.esa_table.proofs.table.decode.Goals as goal

pub returns-clause-row : goal.returns-clause-row
returns-clause-row c =
    let P : Option Decoded → Type 0 = λ o. IfSome o (λ d. row_of (opcode_of c.args.bytes.now) ≡ Some (row_numbered d.row)) in
    subst P (sym (c.decode.ensures ∙ decoded_by c.all_rows.result.rows.now c.args.bytes.now c.all_rows.ensures)) (is_row c.args.bytes.now)

pub returns-clause-number : goal.returns-clause-number
returns-clause-number c =
    let P : Option Decoded → Type 0 = λ o. IfSome o (λ d. row_at d.row ≡ Some (row_numbered d.row)) in
    subst P (sym (c.decode.ensures ∙ decoded_by c.all_rows.result.rows.now c.args.bytes.now c.all_rows.ensures)) (is_number c.args.bytes.now)

pub returns-clause-instruction : goal.returns-clause-instruction
returns-clause-instruction c =
    let P : Option Decoded → Type 0 = λ o. IfSome o IsInstruction in
    subst P (sym (c.decode.ensures ∙ decoded_by c.all_rows.result.rows.now c.args.bytes.now c.all_rows.ensures)) (is_instruction c.args.bytes.now c.fits-bytes)

pub returns-clause-range : goal.returns-clause-range
returns-clause-range c =
    let P : Option Decoded → Type 0 = λ o. IfSome o IsInRange in
    subst P (sym (c.decode.ensures ∙ decoded_by c.all_rows.result.rows.now c.args.bytes.now c.all_rows.ensures))
    (is_in_range c.args.bytes.now c.fits-bytes)

pub returns-clause-kind : goal.returns-clause-kind
returns-clause-kind c =
    let P : Option Decoded → Type 0 = λ o. IfSome o (λ d. kind_at d.row ≡ Some (kind_numbered d.row)) in
    subst P (sym (c.decode.ensures ∙ decoded_by c.all_rows.result.rows.now c.args.bytes.now c.all_rows.ensures))
    (has_kind c.args.bytes.now c.fits-bytes)

pub returns-clause-known : goal.returns-clause-known
returns-clause-known c =
    let P : Option Decoded → Type 0 = λ o. IfSome o HasLine in
    subst P (sym (c.decode.ensures ∙ decoded_by c.all_rows.result.rows.now c.args.bytes.now c.all_rows.ensures))
    (is_known c.args.bytes.now c.fits-bytes)
