use Rattle.checkpoint_laws.proofs.Kept.{mended_stored, scrubbed_stored, read_alone}
use Rattle.checkpoint_laws.proofs.writings.words_read_back.Goals as goal

pub returns-clause-recovering : goal.returns-clause-recovering
returns-clause-recovering c = mended_stored

pub returns-clause-running : goal.returns-clause-running
returns-clause-running c = scrubbed_stored

pub returns-clause-alone : goal.returns-clause-alone
returns-clause-alone c = read_alone
