use Rattle.deck_loader.proofs.Carried.{fresh_zeros}
use Rattle.deck_link.proofs.tests.fresh.Goals as goal

pub returns-in-Ok : goal.returns-in-Ok
returns-in-Ok c = fresh_zeros c.args.bytes c.in-Ok.storage c.in-Ok.ensures
