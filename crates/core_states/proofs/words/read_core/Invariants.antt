use Rattle.std.proofs.Common.{◌≡◌}
use Rattle.core_states.proofs.SoFar.{ReadSoFar}
use Rattle.core_states.proofs.words.read_core.Given as goal

abbrev pub invariant-loop-word : goal.invariant-loop-word
invariant-loop-word g l = record {
  chip : ReadSoFar l.back l.core.0 l.word l.notes.items l.words (g.Z.Silicon.seen l.fn.z) (g.Z.Silicon.seen l.z);
  tape : g.Z.Silicon.tape l.z ≡ g.Z.Silicon.tape l.fn.z;
}
