use Rattle.machine_save.proofs.Filling.{Filling}
use Rattle.machine_save.proofs.placing.stored_of.Given as goal

abbrev pub invariant-words : goal.invariant-words
invariant-words g l = Filling ((g.Z.Silicon.seen l.z).word l.core.0) 40 l.k l.stored
