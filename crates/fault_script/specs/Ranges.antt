-- Core and attempt of a line in their ranges, and a bit of a checkpoint word.
-- Source: choice of this project.
use Rattle.std.specs.Prelude.{◌<◌, ◌≤◌}
use Rattle.run_model.specs.Checkpoint.{width}
use Rattle.run_model.specs.declared.faults.Spot.{Spot}

abbrev pub SpotInRange : Spot → Type 0
SpotInRange s = (s.core.0 < 16) × (s.attempt ≤ 999999)

abbrev pub WordInRange : Spot → Type 0
WordInRange s = (s.word < 40) × (s.bit < width s.word)
