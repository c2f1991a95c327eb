use Rattle.run_model.specs.Checkpoint.{word_of}
use Rattle.machine_save.proofs.Filling.{Filling}
use Rattle.machine_save.proofs.numbers.words_of.Given as goal

abbrev pub invariant-words : goal.invariant-words
invariant-words l = Filling (word_of l.r) 40 l.k l.words
