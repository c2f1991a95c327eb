-- A deck that nothing refuses but its length. Source: choice of this project.
use Rattle.std.specs.Prelude.{◌≡◌, ℕ, [], Some, None, false, ◌==◌}
use Rattle.std.specs.List.{find}
use Rattle.deck_model.specs.Card.{blank_address}
use Rattle.deck_model.specs.Deck.{Listing}
use Rattle.deck_model.specs.Image.{places, violation, entry}
use Rattle.deck_model.specs.Linking.{first_clash}
use Rattle.link_model.specs.Link.{is_far_label}
use Rattle.deck_link.specs.Answers.{most_length, IsRead}

-- it is read and has no violation, no constants that clash, no label too far away, and an entry
-- that an END card can name
pub record Sound (l : Listing) (e : ℕ) : Type 0 where
  pub read : IsRead l
  pub sound : violation most_length l (places 0 l) ≡ None
  pub clash : first_clash (places 0 l) [] l.relocations ≡ None
  pub labels : find (is_far_label (places 0 l)) l.items ≡ None
  pub entry : entry (places 0 l) l.entries ≡ Some e
  pub named : (e == blank_address) ≡ false
