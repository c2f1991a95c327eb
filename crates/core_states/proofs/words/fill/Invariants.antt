use Rattle.std.proofs.Common.{◌≡◌}
use Rattle.core_states.proofs.SoFar.{Filling}
use Rattle.core_states.proofs.words.fill.Given as goal

abbrev pub invariant-loop-word : goal.invariant-loop-word
invariant-loop-word g l = record {
  chip : Filling l.word l.core.0 l.r (g.Z.Silicon.seen l.fn.z) (g.Z.Silicon.seen l.z);
  tape : g.Z.Silicon.tape l.z ≡ g.Z.Silicon.tape l.fn.z;
}
