use Rattle.saved_runs.proofs.Parts.{Parting}
use Rattle.saved_runs.proofs.part.make_part.Given as goal

abbrev pub invariant-runs : goal.invariant-runs
invariant-runs g l = Parting l.files l.runs l.most l.run-index l.fn.start l.sum l.skipped l.left (g.E.Engine.seen l.initial.engine (g.Z.Silicon.seen l.initial.silicon) (g.Z.Silicon.tape l.initial.silicon)) (g.E.Engine.seen l.engine (g.Z.Silicon.seen l.silicon) (g.Z.Silicon.tape l.silicon)) (g.F.Shelf.seen l.initial.shelf) (g.F.Shelf.seen l.shelf) (g.O.Sink.seen l.initial.out) (g.O.Sink.seen l.out)
