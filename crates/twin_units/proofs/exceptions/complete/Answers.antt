use Rattle.std.proofs.Common.{sym, subst, arith}
use Rattle.esa_model.specs.Unit.{Done}
use Rattle.packet_law.specs.Sound.{IsSound}
use Rattle.twin_units.proofs.Carried.{carried_sound}
use Rattle.twin_units.proofs.exceptions.complete.Goals as goal

pub returns-clause-sound : goal.returns-clause-sound
returns-clause-sound c = λ m i storage side at refused reads sends sets.
    subst (λ (d : Done). IsSound m i d) (sym c.carry.ensures.done)
    (carried_sound c.sound_rows.ensures m i c.args.r.now storage side c.args.len c.args.os.now c.args.e c.args.blocks.items at
    (record {
      before = omega (arith, c.requires.room);
      fits = c.requires.fits;
      covers = c.requires.covers;
      stored = c.short_lists.ensures.stored;
      written = c.short_lists.ensures.written;
      few = c.carry.ensures.few;
      fault = c.requires.fault;
    }) refused reads sends sets)
