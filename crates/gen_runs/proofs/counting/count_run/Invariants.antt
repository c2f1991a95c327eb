use Rattle.std.specs.Prelude.{◌≤◌, replicate}
use Rattle.gen_runs.specs.Counted.{Tallies}
use Rattle.gen_runs.proofs.counting.count_run.Given as goal

abbrev pub invariant-turns : goal.invariant-turns
invariant-turns g l =
    Tallies (replicate l.turn l.fn.run.what) l.fn.start l.sum
    (g.E.Engine.seen l.initial.engine (g.Z.Silicon.seen l.initial.silicon) (g.Z.Silicon.tape l.initial.silicon))
    (g.E.Engine.seen l.engine (g.Z.Silicon.seen l.silicon) (g.Z.Silicon.tape l.silicon)) × (l.turn ≤ l.fn.run.count)
