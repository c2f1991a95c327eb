use Rattle.checkpoint_laws.proofs.Kept.{struck_stored, attempted_stored}
use Rattle.checkpoint_laws.proofs.writings.words_struck.Goals as goal

pub returns-clause-strikes : goal.returns-clause-strikes
returns-clause-strikes c = struck_stored

pub returns-clause-attempts : goal.returns-clause-attempts
returns-clause-attempts c = attempted_stored
