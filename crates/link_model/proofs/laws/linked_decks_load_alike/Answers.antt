use Rattle.link_model.proofs.Whole.{load_alike}
use Rattle.link_model.proofs.laws.linked_decks_load_alike.Goals as goal

pub returns : goal.returns
returns c = load_alike
