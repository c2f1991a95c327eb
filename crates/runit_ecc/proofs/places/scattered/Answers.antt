use Rattle.std.proofs.Common.{sym, ◌∙◌, ap, ◌+◌, ◌^◌}
use Rattle.run_model.specs.Code.{placed}
use Rattle.runit_ecc.proofs.Room.{scattered_is, scattered_fits}
use Rattle.runit_ecc.proofs.Segments.{placed_room}
use Rattle.runit_ecc.proofs.places.scattered.Goals as goal

pub raised-requires-clause-fits : goal.raised-requires-clause-fits
raised-requires-clause-fits c = scattered_fits c.args.value c.args.j c.check_position-at.result c.low_bits-bits.result c.requires c.check_position-at.ensures.value c.low_bits-bits.ensures

pub returns-clause-value : goal.returns-clause-value
returns-clause-value c =
    scattered_is c.args.value c.args.j c.check_position-at.result c.low_bits-bits.result c.check_position-at.ensures.value c.low_bits-bits.ensures
    ∙ ap (λ x. x + placed (2 ^ c.args.j) c.args.value) (sym c.raised.ensures)

pub returns-clause-room : goal.returns-clause-room
returns-clause-room c = placed_room c.args.j c.args.value c.requires
