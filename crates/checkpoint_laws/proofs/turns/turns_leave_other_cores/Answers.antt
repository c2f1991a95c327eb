use Rattle.checkpoint_laws.proofs.Exits.{first_before, others_after, quiet}
use Rattle.checkpoint_laws.proofs.turns.turns_leave_other_cores.Goals as goal

pub returns-clause-others : goal.returns-clause-others
returns-clause-others c = others_after

pub returns-clause-quiet : goal.returns-clause-quiet
returns-clause-quiet c = quiet

pub returns-clause-first : goal.returns-clause-first
returns-clause-first c = first_before
