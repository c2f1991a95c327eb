-- The value that a word says is below what it was read to be below.
use Rattle.std.proofs.Common.{ℕ, ◌<◌}
use Rattle.run_model.specs.Reading.{value_by}
use Rattle.run_model.specs.declared.readings.Read.{Read}
use Rattle.run_model.specs.declared.readings.Read.TheVariants.{Clean, Corrected, Uncorrectable}
use Rattle.runit_ecc.specs.Bounds.{IsValueBelow}

pub below : (m : ℕ) (r : Read) → 0 < m → IsValueBelow m r → value_by r < m
below m (Clean v) p h = h
below m (Corrected v b) p h = h
below m Uncorrectable p h = p
