use Rattle.std.proofs.Common.{◌≡◌, ◌≤◌, ◌+◌, length}
use Rattle.std.specs.Prelude.{All}
use Rattle.run_model.specs.Schedule.{words, runs_from, schedule, turns_of, Fits}
use Rattle.turn_schedule.proofs.parsing.parse.Given as goal

abbrev pub invariant-loop-word : goal.invariant-loop-word
invariant-loop-word l = record {
  so : runs_from l.cpus (l.number + 1) l.runs.items (words l.rest) ≡ schedule l.cpus l.text;
  together : l.turns ≡ turns_of l.runs.items;
  few : l.turns ≤ 1000000;
  fits : All (λ r. Fits l.cpus r.what) l.runs.items;
  numbered : l.number + length l.rest ≤ length l.text;
}

abbrev pub decreases-loop-word : goal.decreases-loop-word
decreases-loop-word l = length l.rest
