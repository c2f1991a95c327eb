-- A deck without a violation, from an origin on in a storage of a size.
-- Source: choice of this project.
use Rattle.std.specs.Prelude.{◌≡◌, ℕ, ◌<◌, Some, None}
use Rattle.deck_model.specs.Deck.{Listing}
use Rattle.deck_model.specs.Image.{places, violation, entry}
use Rattle.deck_loader.specs.declared.accepting.Accepted.{Accepted}
use Rattle.deck_loader.specs.Indexed.{IndexesIds, IndexesNames, IndexesSections}
use Rattle.deck_loader.specs.Listed.{listed}
use Rattle.deck_loader.specs.Written.{AreInside, ConstantsAreInside}

-- its maps say where its sections, ESDIDs and names stand, and its texts and constants end within
-- n bytes
pub record FitsInto (n : ℕ) (a : Accepted) : Type 0 where
  pub sections : IndexesSections a.placed.items a.sections
  pub ids : IndexesIds a.lists.items.items a.ids
  pub by_name : IndexesNames a.lists.items.items a.by_name
  pub texts : AreInside a.placed.items n a.lists.texts.items
  pub constants : ConstantsAreInside a.placed.items n a.lists.relocations.items

-- it is the deck of these lists, which has no violation
pub record AcceptedAs (origin n : ℕ) (l : Listing) (a : Accepted) : Type 0 where
  pub lists : listed a.lists ≡ l
  pub placed : a.placed.items ≡ places origin l
  pub fits : FitsInto n a
  pub sound : violation n l (places origin l) ≡ None
  pub entry : entry (places origin l) l.entries ≡ Some a.entry
  pub inside : a.entry < n
