use Rattle.std.proofs.Common.{◌≡◌, length, take, map}
use Rattle.run_model.specs.Checkpoint.{low_half}
use Rattle.runit_ecc.proofs.checkpoint.low_halves.Given as goal

abbrev pub invariant-loop-i : goal.invariant-loop-i
invariant-loop-i l = record { size : length l.halves ≡ 16; done : take l.i l.halves ≡ map low_half (take l.i l.words) }
