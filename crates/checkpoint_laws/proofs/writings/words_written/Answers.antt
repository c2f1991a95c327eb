use Rattle.checkpoint_laws.proofs.Kept.{written_stored, filled_stored}
use Rattle.checkpoint_laws.proofs.writings.words_written.Goals as goal

pub returns-clause-changes : goal.returns-clause-changes
returns-clause-changes c = written_stored

pub returns-clause-fills : goal.returns-clause-fills
returns-clause-fills c = filled_stored
