use Rattle.std.proofs.Common.{◌≡◌, drop}
use Rattle.silicon.specs.Chip.{masked}
use Rattle.run_model.specs.Script.{AllInRange}
use Rattle.fault_script.specs.Totals.{brief_mask}
use Rattle.silicon.proofs.passing.flip_by_briefs.Given as goal

abbrev pub invariant-loop-s : goal.invariant-loop-s
invariant-loop-s l = record {
  masks : masked (brief_mask (drop l.s-index l.strikes) l.core.0 l.unit l.n) 0 l.packet ≡ masked (brief_mask l.strikes l.core.0 l.unit l.n) 0 l.initial.packet;
  ranges : AllInRange (drop l.s-index l.strikes);
}
