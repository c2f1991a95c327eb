use Rattle.core_turns.proofs.Sums.{once, still_placed, cores_apart, core_no_spare}
use Rattle.core_turns.proofs.laws.cores_stand_in_one_place.Goals as goal

pub returns-clause-once : goal.returns-clause-once
returns-clause-once c = once

pub returns-clause-kept : goal.returns-clause-kept
returns-clause-kept c = still_placed

pub returns-clause-apart : goal.returns-clause-apart
returns-clause-apart c = cores_apart

pub returns-clause-free : goal.returns-clause-free
returns-clause-free c = core_no_spare
