use Rattle.asm_places.proofs.RangeSteps.{ranging_first}
use Rattle.asm_places.proofs.fields.first_out.Goals as goal

pub loop-first-init : goal.loop-first-init
loop-first-init c = ranging_first c.args.names.now c.args.sources.now c.start-spot.result c.start-spot.ensures.spot c.start-spot.ensures.low c.requires
