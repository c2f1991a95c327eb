use Rattle.std.proofs.Common.{◌≡◌}
use Rattle.core_states.proofs.SoFar.{Changing}
use Rattle.core_states.proofs.words.write_changed.Given as goal

abbrev pub invariant-loop-word : goal.invariant-loop-word
invariant-loop-word g l = record {
  chip : Changing l.word l.core.0 l.before l.after (g.Z.Silicon.seen l.fn.z) (g.Z.Silicon.seen l.z);
  tape : g.Z.Silicon.tape l.z ≡ g.Z.Silicon.tape l.fn.z;
}
