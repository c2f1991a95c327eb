use Rattle.std.proofs.Common.{◌≡◌, length, drop}
use Rattle.run_model.specs.Script.{AllInRange}
use Rattle.silicon.specs.Landing.{LandsSoFar}
use Rattle.silicon.proofs.landing.land_all.Given as goal

abbrev pub invariant-loop-s : goal.invariant-loop-s
invariant-loop-s l = record {
  lands : LandsSoFar (drop l.s-index l.strikes) l.strikes l.core.0 l.n l.initial.words l.words;
  whole : length l.words ≡ 640;
  ranges : AllInRange (drop l.s-index l.strikes);
}
