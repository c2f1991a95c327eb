use Rattle.deck_commands.proofs.Statements.{shows_statements}
use Rattle.deck_commands.proofs.disassembling.shows_statements.Goals as goal

pub returns : goal.returns
returns c = shows_statements c.args.storage.now c.holds_bytes.ensures
