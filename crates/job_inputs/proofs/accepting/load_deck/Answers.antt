use Rattle.std.proofs.Common.{◌∙◌, length}
use Rattle.deck_model.specs.Image.{Image}
use Rattle.job_inputs.proofs.Loads.{zero_all, size_of, image_long}
use Rattle.job_inputs.proofs.accepting.load_deck.Goals as goal

pub load-requires-clause-zero : goal.load-requires-clause-zero
load-requires-clause-zero c = zero_all c.in-Ok.storage c.args.size c.in-Ok.ensures

pub returns-in-Ok-load-clause-size : goal.returns-in-Ok-load-clause-size
returns-in-Ok-load-clause-size c =
    let i : Image = record { bytes = c.load.new.storage; entry = c.in-Ok-load.entry.address } in
    image_long (length c.in-Ok.storage) c.args.deck.now i c.in-Ok-load.ensures.image
    ∙ size_of c.in-Ok.storage c.args.size c.in-Ok.ensures
