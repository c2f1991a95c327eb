-- A turn is a row of the table by what it met, and so what the definitions say.
use Rattle.std.proofs.Common.{sym, subst, ℕ}
use Rattle.core_turns.specs.ChipAfter.{TurnChanges}
use Rattle.core_turns.specs.Made.{made}
use Rattle.core_turns.specs.Meeting.{TurnGoes, why_met}
use Rattle.core_turns.proofs.Followed.{followed, storable}
use Rattle.core_turns.proofs.Following.{row_of, sure_by}
use Rattle.core_turns.proofs.Handed.{handed}
use Rattle.core_turns.proofs.turning.turn_held.Goals as goal

pub returns-clause-follows : goal.returns-clause-follows
returns-clause-follows g c = λ ea eb conf x same before.
    let e = c.turn_in_mode.ensures in
    let z = g.Z.Silicon.seen c.args.z.now in
    let turned = made c.turn_in_mode.result c.turn_in_mode.new.written in
    followed conf c.args.stamp.turn c.args.cpu c.args.held z _ _ _ _ _ _ _ _ turned x
    (record {
      goes = subst (λ (t : ℕ). TurnGoes t c.args.stamp.turn c.args.cpu.0 c.args.held
          c.args.side.now c.args.pool.now z c.turn_in_mode.new.entries.items
          turned.outcome turned.held c.turn_in_mode.new.pool) (sym same) e.goes;
      chip = subst (λ (t : ℕ). TurnChanges t c.args.cpu.0 c.args.held c.args.side.now
          c.args.pool.now (why_met z c.args.held turned.outcome) turned.held z
          (g.Z.Silicon.seen c.turn_in_mode.new.z)) (sym same) e.chip;
      gives = λ within. e.gives (sure_by turned.outcome _ _ z _ ea eb within);
      recovers = e.recovered;
      sure = e.causes ea eb;
      fits = storable turned.held e.widths;
    }) before

pub returns-clause-hands : goal.returns-clause-hands
returns-clause-hands g c = λ ea eb conf x same before.
    let e = c.turn_in_mode.ensures in
    let z = g.Z.Silicon.seen c.args.z.now in
    let turned = made c.turn_in_mode.result c.turn_in_mode.new.written in
    handed conf c.args.stamp.turn c.args.cpu c.args.held turned.held z _ _ _ _ x _ _ _
    turned.outcome _ _ before
    (row_of conf c.args.stamp.turn c.args.cpu c.args.held z
    (g.Z.Silicon.seen c.turn_in_mode.new.z) _ c.turn_in_mode.new.memory.bytes _
    c.turn_in_mode.new.side _ _ _ turned x
    (record {
      goes = subst (λ (t : ℕ). TurnGoes t c.args.stamp.turn c.args.cpu.0 c.args.held
          c.args.side.now c.args.pool.now z c.turn_in_mode.new.entries.items
          turned.outcome turned.held c.turn_in_mode.new.pool) (sym same) e.goes;
      chip = subst (λ (t : ℕ). TurnChanges t c.args.cpu.0 c.args.held c.args.side.now
          c.args.pool.now (why_met z c.args.held turned.outcome) turned.held z
          (g.Z.Silicon.seen c.turn_in_mode.new.z)) (sym same) e.chip;
      gives = λ within. e.gives (sure_by turned.outcome _ _ z _ ea eb within);
      recovers = e.recovered;
      sure = e.causes ea eb;
      fits = storable turned.held e.widths;
    }) before) (e.causes ea eb) (e.due_a ea) (e.due_b eb) e.tape
