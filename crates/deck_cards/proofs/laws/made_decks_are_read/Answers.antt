use Rattle.deck_cards.proofs.Reading.{deck_read, length_deck}
use Rattle.deck_cards.proofs.laws.made_decks_are_read.Goals as goal

pub returns-clause-read : goal.returns-clause-read
returns-clause-read c = λ cs. deck_read cs

pub returns-clause-length : goal.returns-clause-length
returns-clause-length c = λ cs n. length_deck cs n
