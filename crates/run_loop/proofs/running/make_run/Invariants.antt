use Rattle.run_loop.proofs.Runs.{Turning}
use Rattle.run_loop.proofs.running.make_run.Given as goal

abbrev pub invariant-turns : goal.invariant-turns
invariant-turns g l = Turning l.files l.fn.run.what l.fn.run.count l.turn l.fn.start l.sum (g.E.Engine.seen l.initial.engine (g.Z.Silicon.seen l.initial.silicon) (g.Z.Silicon.tape l.initial.silicon)) (g.E.Engine.seen l.engine (g.Z.Silicon.seen l.silicon) (g.Z.Silicon.tape l.silicon)) (g.F.Shelf.seen l.initial.shelf) (g.F.Shelf.seen l.shelf) (g.O.Sink.seen l.initial.out) (g.O.Sink.seen l.out)
