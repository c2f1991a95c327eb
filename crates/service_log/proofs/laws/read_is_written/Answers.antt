use Rattle.service_log.proofs.Taken.{read_is_written}
use Rattle.service_log.proofs.laws.read_is_written.Goals as goal

pub returns : goal.returns
returns c = read_is_written
