use Rattle.packet_law.proofs.Whole.{applied, applied_next, applied_typed}
use Rattle.packet_law.proofs.laws.applied_is_next.Goals as goal

pub returns : goal.returns
returns c = record {
  event = applied;
  step = applied_next;
  typed = applied_typed;
}
