use Rattle.std.specs.Prelude.{◌≡◌, drop}
use Rattle.run_model.specs.Schedule.{kinds_of}
use Rattle.g5_debugger.specs.Left.{left}
use Rattle.g5_debugger.proofs.places.next_turn.Given as goal

abbrev pub invariant-runs : goal.invariant-runs
invariant-runs l = drop l.done (kinds_of (drop l.run l.runs)) ≡ left l.runs l.fn.place
