use Rattle.debug_runs.proofs.Jobs.{StartsSession, begun_first, held_cut, held_whole}
use Rattle.debug_runs.proofs.holding.hold_session.Goals as goal

pub converse-requires : goal.converse-requires
converse-requires g c =
    let starts : StartsSession c.with_units-session.result c.args.ready = record {
      engine = c.with_units-session.ensures.engine;
      left = c.with_units-session.ensures.left;
      made = c.with_units-session.ensures.made;
    } in
    record {
      begun = begun_first c.with_units-session.result c.args.ready
          (g.Z.Silicon.seen c.args.silicon.now) starts c.requires.begun;
    }

pub returns-in-Ok : goal.returns-in-Ok
returns-in-Ok g c = λ config j is.
    let starts : StartsSession c.with_units-session.result c.args.ready = record {
      engine = c.with_units-session.ensures.engine;
      left = c.with_units-session.ensures.left;
      made = c.with_units-session.ensures.made;
    } in
    held_whole config j c.args.commands.now c.with_units-session.result c.converse.new.session
    (g.Z.Silicon.seen c.args.silicon.now) (g.Z.Silicon.seen c.converse.new.silicon)
    (g.Z.Silicon.tape c.args.silicon.now) (g.Z.Silicon.tape c.converse.new.silicon) c.args.ready
    (g.O.Sink.seen c.args.out.now) (g.O.Sink.seen c.converse.new.out) tt c.made.result is starts
    c.in-Ok.ensures.converses c.made.ensures

pub returns : goal.returns
returns g c = λ config j is.
    let starts : StartsSession c.with_units-session.result c.args.ready = record {
      engine = c.with_units-session.ensures.engine;
      left = c.with_units-session.ensures.left;
      made = c.with_units-session.ensures.made;
    } in
    held_cut {T = Unit {0}} config j c.args.commands.now c.with_units-session.result
    c.converse.new.session (g.Z.Silicon.seen c.args.silicon.now)
    (g.Z.Silicon.seen c.converse.new.silicon) (g.Z.Silicon.tape c.args.silicon.now)
    (g.Z.Silicon.tape c.converse.new.silicon) c.args.ready (g.O.Sink.seen c.args.out.now)
    (g.O.Sink.seen c.converse.new.out) c.in-Err.failed is starts c.in-Err.ensures.converses
