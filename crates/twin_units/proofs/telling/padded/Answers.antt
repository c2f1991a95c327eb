use Rattle.twin_units.proofs.Filled.{padded}
use Rattle.twin_units.proofs.telling.padded.Goals as goal

pub returns : goal.returns
returns c = padded c.args.bytes.now c.copy_from_slice.new.self c.copy_from_slice.ensures.after
