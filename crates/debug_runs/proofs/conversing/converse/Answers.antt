use Rattle.std.proofs.Common.{List, ℕ}
use Rattle.g5_outside.specs.declared.outside.Failed.{Failed}
use Rattle.machine_runs.specs.Views.{view_of}
use Rattle.run_loop.specs.Engines.{EngineView}
use Rattle.debug_runs.proofs.Steps.{cut_there, does_line, none_so_far, one_more, quit_there}
use Rattle.debug_runs.proofs.conversing.converse.Goals as goal

pub lines-init : goal.lines-init
lines-init g c = record {
  so_far = none_so_far c.args.commands.now c.args.session.now
      (view_of c.args.session.now.engine (g.Z.Silicon.seen c.args.silicon.now)
      (g.Z.Silicon.tape c.args.silicon.now))
      (g.O.Sink.seen c.args.out.now);
  begun = c.requires.begun;
}

pub returns-in_default-answer_text-clause-converses :
    goal.returns-in_default-answer_text-clause-converses
returns-in_default-answer_text-clause-converses g c =
    let before : EngineView =
    view_of c.args.session.now.engine (g.Z.Silicon.seen c.args.silicon.now)
    (g.Z.Silicon.tape c.args.silicon.now) in
    let here : EngineView =
    view_of c.lines.session.engine (g.Z.Silicon.seen c.lines.silicon)
    (g.Z.Silicon.tape c.lines.silicon) in
    let there : EngineView =
    view_of c.command-answer.new.self.engine (g.Z.Silicon.seen c.command-answer.new.z)
    (g.Z.Silicon.tape c.command-answer.new.z) in
    quit_there {E = Failed} c.args.commands.now c.lines.rest.now c.in-Some.line.now c.in-Some.after.now
    c.args.session.now c.lines.session c.command-answer.new.self before here there
    (g.O.Sink.seen c.args.out.now) (g.O.Sink.seen c.lines.out) c.command-answer.result tt
    c.lines.invariant.so_far c.in-Some.ensures.some
    (does_line c.in-Some.line.now c.lines.session c.command-answer.new.self here there
    c.command-answer.result c.command-answer.ensures.commands c.command-answer.ensures.says)
    c.in_default-answer_text.ensures

pub returns-in-Err-clause-converses : goal.returns-in-Err-clause-converses
returns-in-Err-clause-converses g c =
    let before : EngineView =
    view_of c.args.session.now.engine (g.Z.Silicon.seen c.args.silicon.now)
    (g.Z.Silicon.tape c.args.silicon.now) in
    let here : EngineView =
    view_of c.lines.session.engine (g.Z.Silicon.seen c.lines.silicon)
    (g.Z.Silicon.tape c.lines.silicon) in
    let there : EngineView =
    view_of c.command-answer.new.self.engine (g.Z.Silicon.seen c.command-answer.new.z)
    (g.Z.Silicon.tape c.command-answer.new.z) in
    cut_there {T = Unit {0}} {U = Unit {0}} c.args.commands.now c.lines.rest.now c.in-Some.line.now
    c.in-Some.after.now c.in-Some-answer_text.text.now c.args.session.now c.lines.session
    c.command-answer.new.self before here there (g.O.Sink.seen c.args.out.now)
    (g.O.Sink.seen c.lines.out) (g.O.Sink.seen c.write_line.new.out) c.command-answer.result
    c.in-Err.failed c.lines.invariant.so_far c.in-Some.ensures.some
    (does_line c.in-Some.line.now c.lines.session c.command-answer.new.self here there
    c.command-answer.result c.command-answer.ensures.commands c.command-answer.ensures.says)
    c.in-Some-answer_text.ensures c.in-Err.ensures

pub lines-preserved : goal.lines-preserved
lines-preserved g c =
    let before : EngineView =
    view_of c.args.session.now.engine (g.Z.Silicon.seen c.args.silicon.now)
    (g.Z.Silicon.tape c.args.silicon.now) in
    let here : EngineView =
    view_of c.lines.session.engine (g.Z.Silicon.seen c.lines.silicon)
    (g.Z.Silicon.tape c.lines.silicon) in
    let there : EngineView =
    view_of c.command-answer.new.self.engine (g.Z.Silicon.seen c.command-answer.new.z)
    (g.Z.Silicon.tape c.command-answer.new.z) in
    record {
      so_far = one_more {E = Failed} c.args.commands.now c.lines.rest.now c.in-Some.line.now
          c.in-Some.after.now c.in-Some-answer_text.text.now c.args.session.now c.lines.session
          c.command-answer.new.self before here there (g.O.Sink.seen c.args.out.now)
          (g.O.Sink.seen c.lines.out) (g.O.Sink.seen c.write_line.new.out) c.command-answer.result
          c.in-Ok.field-0 c.lines.invariant.so_far c.in-Some.ensures.some
          (does_line c.in-Some.line.now c.lines.session c.command-answer.new.self here there
          c.command-answer.result c.command-answer.ensures.commands c.command-answer.ensures.says)
          c.in-Some-answer_text.ensures c.in-Ok.ensures;
      begun = c.command-answer.ensures.begun;
    }
