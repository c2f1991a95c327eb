use Rattle.std.proofs.Common.{◌≡◌, drop}
use Rattle.silicon.specs.Chip.{masked}
use Rattle.run_model.specs.Script.{AllInRange}
use Rattle.run_model.specs.Strikes.{mask_byte}
use Rattle.silicon.proofs.passing.flip_packet.Given as goal

abbrev pub invariant-loop-s : goal.invariant-loop-s
invariant-loop-s l = record {
  masks : masked (mask_byte (drop l.s-index l.strikes) l.core.0 l.unit l.n) 0 l.packet ≡ masked (mask_byte l.strikes l.core.0 l.unit l.n) 0 l.initial.packet;
  ranges : AllInRange (drop l.s-index l.strikes);
}
