-- The value of a sum by the digits that are kept.
-- Source: Principles of Operation, chapter Decimal Instructions; that a value keeps 31 digits is a
-- choice of this project.
use Rattle.std.specs.Prelude.{ℕ, Bool, ◌==◌, if◌then◌else◌}
use Rattle.esa_model.specs.DecimalRows.{ends}
use Rattle.esa_model.specs.declared.codes.TheConstants.{DECIMAL_OVERFLOW}
use Rattle.esa_model.specs.declared.machine.Value.{Value}

abbrev pub sum_end : Bool → Bool → ℕ → Value
sum_end lost negative m =
    if lost then ends 3 DECIMAL_OVERFLOW
    else (if m == 0 then ends 0 0 else (if negative then ends 1 0 else ends 2 0))
