use Rattle.std.specs.Prelude.{take}
use Rattle.run_model.specs.Schedule.{kinds_of}
use Rattle.gen_runs.specs.Counted.{Tallies, nothing_counted}
use Rattle.gen_runs.proofs.counting.count_runs.Given as goal

abbrev pub invariant-runs : goal.invariant-runs
invariant-runs g l =
    Tallies (kinds_of (take l.run-index l.runs)) nothing_counted l.sum
    (g.E.Engine.seen l.initial.engine (g.Z.Silicon.seen l.initial.silicon) (g.Z.Silicon.tape l.initial.silicon))
    (g.E.Engine.seen l.engine (g.Z.Silicon.seen l.silicon) (g.Z.Silicon.tape l.silicon))
