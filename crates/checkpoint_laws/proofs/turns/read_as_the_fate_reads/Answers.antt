use Rattle.checkpoint_laws.proofs.Begun.{fate_due, fate_reads, scrub_reads}
use Rattle.checkpoint_laws.proofs.Exits.{fate_registers}
use Rattle.checkpoint_laws.proofs.turns.read_as_the_fate_reads.Goals as goal

pub returns-clause-due : goal.returns-clause-due
returns-clause-due c = fate_due

pub returns-clause-reading : goal.returns-clause-reading
returns-clause-reading c = fate_reads

pub returns-clause-lost : goal.returns-clause-lost
returns-clause-lost c = scrub_reads

pub returns-clause-registers : goal.returns-clause-registers
returns-clause-registers c = fate_registers
