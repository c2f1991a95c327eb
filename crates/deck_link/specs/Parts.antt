-- What the linked deck is made of, and the cards of that. Source: choice of this project.
use Rattle.std.specs.Prelude.{◌≡◌, ◌≢◌, ℕ, zero, suc, ◌<◌, ◌≤◌, false, List, [], ◌∷◌, ◌++◌, length, map, slice_index, get_or}
use Rattle.deck_model.specs.Card.{esd}
use Rattle.deck_model.specs.Deck.{Listing}
use Rattle.deck_model.specs.Image.{places, image_byte}
use Rattle.deck_model.specs.declared.cards.Card.{Card}
use Rattle.deck_cards.specs.RelocationCards.{SharePointers, rld_cards}
use Rattle.deck_cards.specs.TextCards.{Run, runs_of, text_cards}
use Rattle.deck_cards.specs.Writable.{AreWritable}
use Rattle.link_model.specs.Linked.{whole_length, one_section, name_labels, label_card, stands, linked_items, end_card}
use Rattle.deck_link.specs.Answers.{most_length}
use Rattle.deck_link.specs.declared.parts.Parts.{Parts}

abbrev pub runs_in : Parts → List Run
runs_in p = runs_of (λ k. get_or p.stands.items k false) (slice_index p.storage) p.extent

-- the section, its labels, its text, its relocations and its entry
abbrev pub cards_of : Parts → List Card
cards_of p =
    esd 1 (one_section p.extent ∷ [])
    ∷ (map label_card p.labels.items
    ++ (text_cards 1 (runs_in p) ++ rld_cards (end_card p.entry ∷ []) [] p.items.items))

-- one run where the open one has bytes
abbrev pub one_if : ℕ → ℕ
one_if zero = 0
one_if (suc n) = 1

-- their numbers fit into the columns of the cards
pub record PartsFit (p : Parts) : Type 0 where
  pub low : p.extent < 16777216
  pub text : p.extent ≤ length p.storage
  pub stands : length p.stands.items ≡ p.extent
  pub labels : AreWritable (map label_card p.labels.items)
  pub items : SharePointers 1 1 p.items.items
  pub entry : p.entry < 16777216
  pub named : p.entry ≢ 0x404040

-- the parts of the linked deck of a deck whose entry is so far above its first section
pub record ArePartsOf (l : Listing) (e : ℕ) (p : Parts) : Type 0 where
  pub extent : p.extent ≡ whole_length (places 0 l)
  pub labels : p.labels.items ≡ name_labels (places 0 l) l.items
  pub room : length p.storage ≡ most_length
  pub storage : (k : ℕ) → k < most_length → slice_index p.storage k ≡ image_byte l (places 0 l) k
  pub long : length p.stands.items ≡ p.extent
  pub flags : (k : ℕ) → get_or p.stands.items k false ≡ stands l (places 0 l) k
  pub items : p.items.items ≡ linked_items l.items (places 0 l) l.relocations
  pub shared : SharePointers 1 1 p.items.items
  pub entry : p.entry ≡ e
