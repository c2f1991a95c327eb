use Rattle.std.specs.Prelude.{◌≤◌}
use Rattle.g5_debugger.specs.Making.{MakesNext}
use Rattle.g5_debugger.proofs.making.make_next.Given as goal

abbrev pub invariant-turns : goal.invariant-turns
invariant-turns g l =
    MakesNext l.turn l.fn.runs l.fn.start l.reached
    (g.E.Engine.seen l.initial.engine (g.Z.Silicon.seen l.initial.silicon) (g.Z.Silicon.tape l.initial.silicon))
    (g.E.Engine.seen l.engine (g.Z.Silicon.seen l.silicon) (g.Z.Silicon.tape l.silicon)) × (l.turn ≤ l.fn.count)
