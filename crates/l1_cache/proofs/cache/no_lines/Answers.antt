use Rattle.l1_cache.proofs.Cohering.{no_lines_in}
use Rattle.l1_cache.proofs.cache.no_lines.Goals as goal

pub returns : goal.returns
returns c = no_lines_in 64
