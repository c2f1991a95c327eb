use Rattle.std.proofs.Common.{sym, subst}
use Rattle.esa_model.specs.Unit.{Done}
use Rattle.packet_law.specs.Sound.{IsSound}
use Rattle.twin_units.proofs.Carried.{suppressed_sound}
use Rattle.twin_units.proofs.exceptions.stop.Goals as goal

pub returns-clause-sound : goal.returns-clause-sound
returns-clause-sound c = λ m i.
    subst (λ (d : Done). IsSound m i d) (sym c.suppress.ensures.done)
    (suppressed_sound m i c.args.r.now c.args.len c.args.code c.args.blocks.items c.few_blocks.ensures)
