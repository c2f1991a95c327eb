-- The table's rule over any rows.
-- Source: Principles of Operation, chapter on program execution (instruction formats).
use Rattle.std.specs.Prelude.{ℕ, codes, false, ◌==◌, List, Option, Some, None, position, slice_index_or}
use Rattle.esa_model.specs.declared.instructions.Form.TheVariants.{Rr}
use Rattle.esa_model.specs.declared.instructions.Row.{Row}
use Rattle.esa_model.specs.declared.instructions.Decoded.{Decoded}
use Rattle.esa_model.specs.Table.{opcode_of, fields_of}

-- what stands past the end
abbrev pub blank : Row
blank = record { opcode = 0; form = Rr; name = codes "      "; privileged = false }

-- the row of a number
abbrev pub row_in : List Row → ℕ → Row
row_in rows number = slice_index_or rows number blank

abbrev pub fields_in : List Row → List ℕ → Option ℕ → Option Decoded
fields_in rows bytes None = None
fields_in rows bytes (Some number) = Some (fields_of (row_in rows number).form number bytes)

-- the number of the first row that has an opcode
unfoldable pub number_in : List Row → ℕ → Option ℕ
number_in rows opcode = position (λ r. r.opcode == opcode) rows

-- the fields by the first row that has the opcode
abbrev pub decoded_in : List Row → List ℕ → Option Decoded
decoded_in rows bytes = fields_in rows bytes (number_in rows (opcode_of bytes))
