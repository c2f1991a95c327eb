use Rattle.std.proofs.Common.{sym, ◌∙◌, ap, ◌+◌, ◌^◌}
use Rattle.run_model.specs.Code.{value_of}
use Rattle.runit_ecc.proofs.Room.{gathered_is, gathered_fits}
use Rattle.runit_ecc.proofs.Segments.{value_room}
use Rattle.runit_ecc.proofs.places.gathered.Goals as goal

pub raised-requires-clause-fits : goal.raised-requires-clause-fits
raised-requires-clause-fits c = gathered_fits c.args.w c.args.j c.check_position-at.result c.low_bits-bits.result c.requires c.check_position-at.ensures.value c.low_bits-bits.ensures

pub returns-clause-value : goal.returns-clause-value
returns-clause-value c =
    gathered_is c.args.w c.args.j c.check_position-at.result c.low_bits-bits.result c.check_position-at.ensures.value c.low_bits-bits.ensures
    ∙ ap (λ x. x + value_of (2 ^ c.args.j) c.args.w) (sym c.raised.ensures)

pub returns-clause-room : goal.returns-clause-room
returns-clause-room c = value_room c.args.j c.args.w c.requires
