-- Decks that are loaded alike.
-- Source: choice of this project.
use Rattle.std.specs.Prelude.{◌≡◌, ℕ, ◌*◌, ◌%◌, ◌<◌, List, Option, Some, None, Result, Ok, Err}
use Rattle.std.specs.List.{find}
use Rattle.deck_model.specs.Deck.{Listing, listing}
use Rattle.deck_model.specs.Image.{defines, places, load_address}
use Rattle.deck_model.specs.Linking.{greatest_storage, image_from}
use Rattle.deck_model.specs.declared.decks.DeckRefusal.{DeckRefusal}
use Rattle.deck_model.specs.declared.decks.Item.{Item}
use Rattle.deck_model.specs.declared.decks.Placed.{Placed}
use Rattle.deck_loader.specs.Listed.{ItemsTyped, WidthsFit}

-- ---- where a name is loaded

abbrev pub found_address : List Placed → Option Item → Option ℕ
found_address ps None = None
found_address ps (Some i) = Some (load_address ps i % 4294967296)

abbrev pub listed_address : ℕ → ℕ → Result Listing DeckRefusal → Option ℕ
listed_address origin name (Err r) = None
listed_address origin name (Ok l) =
    found_address (places origin l) (find (defines name) l.items)

-- the load address, as a word, of a name that the deck defines, with its first section at an origin
unfoldable pub name_address : ℕ → ℕ → List ℕ → Option ℕ
name_address origin name deck = listed_address origin name (listing deck)

-- ---- the same deck, where it is loaded

-- from every origin the same bytes and entry, or both have no room; and the same names, each at the
-- same address
pub record LoadAlike (a b : List ℕ) : Type 0 where
  pub images : (k : ℕ) → 8 * k < greatest_storage → image_from (8 * k) a ≡ image_from (8 * k) b
  pub names : (k name : ℕ) → name_address (8 * k) name a ≡ name_address (8 * k) name b

-- what reading a deck of bytes gives for its items and relocations
pub record ReadTyped (deck : List ℕ) : Type 0 where
  pub items : (l : Listing) → listing deck ≡ Ok l → ItemsTyped l.items
  pub widths : (l : Listing) → listing deck ≡ Ok l → WidthsFit l.relocations
