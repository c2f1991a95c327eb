use Rattle.std.proofs.Common.{◌∙◌}
use Rattle.sparing.proofs.Fenced.{found_stands}
use Rattle.sparing.proofs.places.is_among.Goals as goal

pub returns : goal.returns
returns g c = c.any_has.ensures ∙ found_stands g.S.Numbered.number_of c.args.number.0 c.args.list.now
