use Rattle.asm_places.proofs.Accepting.{few}
use Rattle.asm_places.proofs.assembling.assemble.Goals as goal

pub program-requires-clause-count : goal.program-requires-clause-count
program-requires-clause-count c = few c.args.sources.now c.in-Ok.places c.requires c.in-Ok.ensures.none c.in-Ok.ensures.places
