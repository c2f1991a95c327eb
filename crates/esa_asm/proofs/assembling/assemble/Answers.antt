use Rattle.std.proofs.Common.{rules}
use Rattle.esa_asm.proofs.DeckOfSource.{parts_have_deck}
use Rattle.esa_asm.proofs.assembling.assemble.Goals as goal

pub deck_of-requires : goal.deck_of-requires
deck_of-requires c = parts_have_deck c.args.source.now c.deref.result.now c.in-Ok.program c.deref-2.result.now c.deref-3.result.now c.deref-4.result.now c.program.inside.entry (search rules) c.in-Ok.ensures.none c.in-Ok.ensures.assembly (search rules)
