-- The two units as they are seen.
use Rattle.std.specs.Prelude.{true, false, Some, None, ◌==◌, if◌then◌else◌}
use Rattle.twin_units.specs.declared.results.PlainUnit.{PlainUnit}
use Rattle.twin_units.specs.declared.results.FixedUnit.{FixedUnit}
use Rattle.twin_units.specs.Results.{UnitView}

abbrev pub plain : PlainUnit → UnitView
plain u = record { calls = u.calls; last = u.last; exact = true }

abbrev pub fixed : FixedUnit → UnitView
fixed u = record { calls = u.calls; last = if u.calls == 0 then None else Some u.packet; exact = false }
