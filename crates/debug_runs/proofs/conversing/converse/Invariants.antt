use Rattle.std.specs.Prelude.{length}
use Rattle.g5_debugger.specs.Sessions.{HasBegun}
use Rattle.machine_runs.specs.Views.{view_of}
use Rattle.debug_runs.proofs.Steps.{SoFar}
use Rattle.debug_runs.proofs.conversing.converse.Given as goal

abbrev pub invariant-lines : goal.invariant-lines
invariant-lines g l = record {
  so_far : SoFar l.commands l.rest l.initial.session l.session
      (view_of l.initial.session.engine (g.Z.Silicon.seen l.initial.silicon)
      (g.Z.Silicon.tape l.initial.silicon))
      (view_of l.session.engine (g.Z.Silicon.seen l.silicon) (g.Z.Silicon.tape l.silicon))
      (g.O.Sink.seen l.initial.out) (g.O.Sink.seen l.out);
  begun : HasBegun l.session.reached.made.turns (g.Z.Silicon.seen l.silicon);
}

abbrev pub decreases-lines : goal.decreases-lines
decreases-lines g l = length l.rest
