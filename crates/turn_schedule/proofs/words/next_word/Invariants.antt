use Rattle.std.proofs.Common.{◌≡◌, ◌≤◌, length}
use Rattle.run_model.specs.Schedule.{words}
use Rattle.turn_schedule.proofs.words.next_word.Given as goal

abbrev pub invariant-loop-rest : goal.invariant-loop-rest
invariant-loop-rest l = record {
  same : words l.rest ≡ words l.text;
  inside : length l.rest ≤ length l.text;
}

abbrev pub decreases-loop-rest : goal.decreases-loop-rest
decreases-loop-rest l = length l.rest
