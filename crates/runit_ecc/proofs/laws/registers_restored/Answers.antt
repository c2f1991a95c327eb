use Rattle.runit_ecc.proofs.Restored.{restored_from, zero_word}
use Rattle.runit_ecc.proofs.laws.registers_restored.Goals as goal

pub returns-clause-restored : goal.returns-clause-restored
returns-clause-restored c = restored_from

pub returns-clause-zero : goal.returns-clause-zero
returns-clause-zero c = zero_word
