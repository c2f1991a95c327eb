use Rattle.core_turns.proofs.Buses.{events_len}
use Rattle.core_turns.proofs.Others.{other_stands}
use Rattle.core_turns.proofs.laws.other_cpus_stand.Goals as goal

pub returns-clause-others : goal.returns-clause-others
returns-clause-others c = other_stands

pub returns-clause-cpus : goal.returns-clause-cpus
returns-clause-cpus c = events_len
