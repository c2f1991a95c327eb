use Rattle.std.proofs.Common.{refl}
use Rattle.g5_words.specs.Asked.{session_names}
use Rattle.debug_runs.specs.Consequences.{CanBeHeld}
use Rattle.debug_runs.proofs.Ends.{can_be_held}
use Rattle.debug_command.proofs.FromCalls.{none_begun, session_cut, session_held}
use Rattle.debug_command.proofs.holding.debug_session.Goals as goal

pub returns-in-Err-clause-fails : goal.returns-in-Err-clause-fails
returns-in-Err-clause-fails g c =
    none_begun (session_names c.args.names.now) c.args.config (g.F.Shelf.seen c.args.shelf.now)
    (g.F.Shelf.seen c.prepare.new.shelf) (g.I.Source.seen c.args.keys.now)
    (g.I.Source.seen c.prepare.new.keys) (g.O.Sink.seen c.args.out.now) c.in-Err.status
    c.in-Err.ensures.refused
    (record { because = c.in-Err.ensures.refused; numbers = c.prepare.ensures.only.numbers; out = refl })

pub hold_session-requires-clause-unused : goal.hold_session-requires-clause-unused
hold_session-requires-clause-unused g c =
    (can_be_held c.args.config c.in-Ok.ensures.prepared.job (g.Z.Silicon.seen c.prepare.new.silicon)
    c.in-Ok.prepared.ready c.in-Ok.ensures.prepared.ready).unused

pub hold_session-requires-clause-fits : goal.hold_session-requires-clause-fits
hold_session-requires-clause-fits g c =
    (can_be_held c.args.config c.in-Ok.ensures.prepared.job (g.Z.Silicon.seen c.prepare.new.silicon)
    c.in-Ok.prepared.ready c.in-Ok.ensures.prepared.ready).fits

pub hold_session-requires-clause-few : goal.hold_session-requires-clause-few
hold_session-requires-clause-few g c =
    (can_be_held c.args.config c.in-Ok.ensures.prepared.job (g.Z.Silicon.seen c.prepare.new.silicon)
    c.in-Ok.prepared.ready c.in-Ok.ensures.prepared.ready).few

pub hold_session-requires-clause-begun : goal.hold_session-requires-clause-begun
hold_session-requires-clause-begun g c =
    (can_be_held c.args.config c.in-Ok.ensures.prepared.job (g.Z.Silicon.seen c.prepare.new.silicon)
    c.in-Ok.prepared.ready c.in-Ok.ensures.prepared.ready).begun

pub returns-in-Ok-hold_session-clause-held : goal.returns-in-Ok-hold_session-clause-held
returns-in-Ok-hold_session-clause-held g c =
    session_held (session_names c.args.names.now) c.args.config (g.F.Shelf.seen c.args.shelf.now)
    (g.F.Shelf.seen c.prepare.new.shelf) (g.I.Source.seen c.args.keys.now)
    (g.O.Sink.seen c.args.out.now) (g.O.Sink.seen c.hold_session.new.out)
    (g.Z.Silicon.seen c.prepare.new.silicon) (g.Z.Silicon.seen c.hold_session.new.silicon)
    (g.Z.Silicon.tape c.args.silicon.now) (g.Z.Silicon.tape c.prepare.new.silicon)
    (g.Z.Silicon.tape c.hold_session.new.silicon) c.in-Ok.prepared c.deref.result.now
    c.in-Ok-hold_session.counts c.in-Ok.ensures.prepared c.prepare.ensures.only.numbers
    c.in-Ok.ensures.found c.prepare.ensures.tape c.deref.ensures.value c.in-Ok-hold_session.ensures

pub returns-clause-fails : goal.returns-clause-fails
returns-clause-fails g c =
    session_cut (session_names c.args.names.now) c.args.config (g.F.Shelf.seen c.args.shelf.now)
    (g.F.Shelf.seen c.prepare.new.shelf) (g.I.Source.seen c.args.keys.now)
    (g.O.Sink.seen c.args.out.now) (g.O.Sink.seen c.hold_session.new.out)
    (g.Z.Silicon.seen c.prepare.new.silicon) (g.Z.Silicon.seen c.hold_session.new.silicon)
    (g.Z.Silicon.tape c.prepare.new.silicon) (g.Z.Silicon.tape c.hold_session.new.silicon)
    c.in-Ok.prepared c.deref.result.now c.in-Err-hold_session.field-0 c.in-Ok.ensures.prepared
    c.prepare.ensures.only.numbers c.in-Ok.ensures.found c.deref.ensures.value
    c.in-Err-hold_session.ensures
