use Rattle.std.proofs.Common.{◌≡◌}
use Rattle.machine_save.specs.Bringing.{Stores}
use Rattle.machine_save.proofs.bringing.put_words.Given as goal

abbrev pub invariant-words : goal.invariant-words
invariant-words g l = record {
  stores : Stores l.core.0 l.words l.k (g.Z.Silicon.seen l.fn.z) (g.Z.Silicon.seen l.z);
  tape : g.Z.Silicon.tape l.z ≡ g.Z.Silicon.tape l.fn.z;
}
