-- The part of a run.
use Rattle.std.proofs.Common.{arith}
use Rattle.saved_runs.proofs.Lists.{part_alike}
use Rattle.saved_runs.proofs.part.part_of.Goals as goal

pub returns-clause-turns : goal.returns-clause-turns
returns-clause-turns c = part_alike c.args.most c.args.skipped c.args.run.count _ c.args.run.what (omega arith)
