use Rattle.run_loop.proofs.Runs.{Running}
use Rattle.run_loop.proofs.running.make_runs.Given as goal

abbrev pub invariant-runs : goal.invariant-runs
invariant-runs g l = Running l.files l.runs l.run-index l.fn.start l.sum (g.E.Engine.seen l.initial.engine (g.Z.Silicon.seen l.initial.silicon) (g.Z.Silicon.tape l.initial.silicon)) (g.E.Engine.seen l.engine (g.Z.Silicon.seen l.silicon) (g.Z.Silicon.tape l.silicon)) (g.F.Shelf.seen l.initial.shelf) (g.F.Shelf.seen l.shelf) (g.O.Sink.seen l.initial.out) (g.O.Sink.seen l.out)
