use Rattle.std.proofs.Common.{sym, ◌∙◌}
use Rattle.deck_loader.proofs.Text.{nothing_at}
use Rattle.deck_loader.proofs.bytes.byte_at.Goals as goal

pub returns-in-None : goal.returns-in-None
returns-in-None c = nothing_at c.args.storage.now c.args.at (sym c.fetch.ensures ∙ c.in-None.is)
