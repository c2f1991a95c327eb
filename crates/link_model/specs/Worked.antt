-- Decks that were linked by hand. Source: choice of this project.
use Rattle.std.specs.Prelude.{◌≡◌, refl, ℕ, Bool, true, false, List, [], ◌∷◌, ◌++◌, replicate, Option, Some, None, Result, Ok, Err}
use Rattle.std.specs.List.{flat_map}
use Rattle.deck_model.specs.Card.{esd, txt, rld, put, esd_item, esd_of, txt_of, rld_raws, rld_of, end_of, card_of}
use Rattle.deck_model.specs.CardWriting.{card_bytes, blank_card, with_data, esd_item_bytes, esd_bytes, txt_bytes, rld_card_bytes, end_bytes}
use Rattle.deck_model.specs.Deck.{Listing, cards_of, listing}
use Rattle.deck_model.specs.Image.{places, section, relocated_byte, image_byte, bytes_from, later_violation}
use Rattle.deck_model.specs.declared.cards.Card.{Card}
use Rattle.deck_model.specs.declared.cards.Card.TheVariants.{End}
use Rattle.deck_model.specs.declared.cards.Sort.{Sort}
use Rattle.deck_model.specs.declared.cards.Sort.TheVariants.{Section, Label, External, Weak}
use Rattle.deck_model.specs.declared.cards.EsdItem.{EsdItem}
use Rattle.deck_model.specs.declared.cards.RldItem.{RldItem}
use Rattle.deck_model.specs.declared.decks.DeckRefusal.{DeckRefusal}
use Rattle.deck_model.specs.declared.decks.DeckRefusal.TheVariants as deck
use Rattle.program_model.specs.declared.refusals.LinkRefusal.{LinkRefusal}
use Rattle.program_model.specs.declared.refusals.LinkRefusal.TheVariants as link
use Rattle.deck_cards.specs.NumberedCards.{sequence, deck_bytes}
use Rattle.link_model.specs.Linked.{one_section, end_card, linked_cards}
use Rattle.link_model.specs.Link.{link_of}
use Rattle.link_model.specs.Loading.{name_address}

abbrev deck_of : List Card → List ℕ
deck_of cards = flat_map (λ c. card_bytes c (replicate 8 0x40)) cards

-- the linked deck of a deck, with the definitions that it is worked out by
worked_link : List ℕ → Result (List ℕ) LinkRefusal
unfolding put esd_item esd_of txt_of rld_raws rld_of end_of card_of
    blank_card with_data esd_item_bytes esd_bytes txt_bytes rld_card_bytes end_bytes
    cards_of listing places section relocated_byte later_violation
    sequence linked_cards link_of name_address
worked_link deck = link_of deck

-- names of one letter: A X'C1', B X'C2', S X'E2'; X'40' for none
abbrev item : ℕ → Sort → ℕ → ℕ → EsdItem
item letter sort address extent = record {
  name = letter ∷ replicate 7 0x40;
  sort = sort;
  address = address;
  extent = extent;
}

abbrev label : ℕ → ℕ → Card
label letter address = esd 0 (item letter Label address 1 ∷ [])

abbrev constant : ℕ → ℕ → ℕ → Bool → RldItem
constant target address width minus = record {
  target = target;
  place = 1;
  v_type = false;
  width = width;
  minus = minus;
  address = address;
}

-- ---- linked decks

-- two sections, of which the first holds the address of a place in the second
abbrev threaded : List ℕ
threaded = deck_of (
    esd 1 (item 0xC1 Section 0 10 ∷ item 0xC2 Section 0x20 8 ∷ [])
    ∷ txt 1 4 (0 ∷ 0 ∷ 0 ∷ 0x24 ∷ [])
    ∷ rld (constant 2 4 4 false ∷ [])
    ∷ End None ∷ [])

-- B lies at 16, which is X'10' below its address
abbrev linked_threaded : List ℕ
linked_threaded = deck_bytes 1 (
    esd 1 (one_section 0x18 ∷ [])
    ∷ label 0xC1 0
    ∷ label 0xC2 0x10
    ∷ txt 1 4 (0 ∷ 0 ∷ 0 ∷ 0x14 ∷ [])
    ∷ rld (constant 1 4 4 false ∷ [])
    ∷ end_card 0 ∷ [])

pub threaded_sections : link_of threaded ≡ Ok linked_threaded
unfolding worked_link
threaded_sections = refl

-- n bytes of the image at a place
abbrev image_bytes : ℕ → ℕ → ℕ → Result Listing DeckRefusal → List ℕ
image_bytes origin at n (Err r) = []
image_bytes origin at n (Ok l) = bytes_from (image_byte l (places origin l)) at n

pub threaded_from_20000 :
    image_bytes 0x20000 0x20004 4 (listing linked_threaded) ≡ 0 ∷ 2 ∷ 0 ∷ 0x14 ∷ []
unfolding worked_link
threaded_from_20000 = refl

pub name_in_threaded : name_address 0x20000 0xC240404040404040 linked_threaded ≡ Some 0x20010
unfolding worked_link
name_in_threaded = refl

-- a name that the second deck defines is subtracted in two bytes of the first, which has an entry
abbrev two_decks : List ℕ
two_decks = deck_of (
    esd 1 (item 0xC1 Section 0 8 ∷ item 0xE2 External 0 0 ∷ [])
    ∷ txt 1 6 (0 ∷ 0x0A ∷ [])
    ∷ rld (constant 2 6 2 true ∷ [])
    ∷ end_card 2
    ∷ esd 1 (item 0xE2 Section 0 4 ∷ [])
    ∷ end_card 0 ∷ [])

pub names_across_decks : link_of two_decks
    ≡ Ok (deck_bytes 1 (
    esd 1 (one_section 12 ∷ [])
    ∷ label 0xC1 0
    ∷ label 0xE2 8
    ∷ txt 1 6 (0 ∷ 2 ∷ [])
    ∷ rld (constant 1 6 2 true ∷ [])
    ∷ end_card 2 ∷ []))
unfolding worked_link
names_across_decks = refl

-- a weak name that is blank moves nothing, and its constant stands
pub weak_without_a_name : link_of (deck_of (
    esd 1 (item 0x40 Section 0 8 ∷ item 0x40 Weak 0 0 ∷ [])
    ∷ rld (constant 2 4 1 false ∷ [])
    ∷ End None ∷ []))
    ≡ Ok (deck_bytes 1 (
    esd 1 (one_section 8 ∷ [])
    ∷ txt 1 4 (0 ∷ [])
    ∷ end_card 0 ∷ []))
unfolding worked_link
weak_without_a_name = refl

-- ---- refusals, in their order

abbrev section_a : Card
section_a = esd 1 (item 0xC1 Section 0 8 ∷ [])

abbrev clashing : Card
clashing = rld (constant 1 0 4 false ∷ constant 1 2 4 false ∷ [])

pub deck_first : link_of (deck_of (section_a ∷ clashing ∷ []))
    ≡ Err (link.Deck deck.NoEnd)
unfolding worked_link
deck_first = refl

pub entry_outside : link_of (deck_of (section_a ∷ clashing ∷ end_card 8 ∷ []))
    ≡ Err (link.Deck deck.EntryOutside)
unfolding worked_link
entry_outside = refl

pub overlapping_constants : link_of (deck_of (section_a ∷ clashing ∷ End None ∷ []))
    ≡ Err (link.Clash 2)
unfolding worked_link
overlapping_constants = refl

-- B lies 8 bytes before the first section
abbrev section_with_label : Card
section_with_label = esd 1 (item 0xC1 Section 8 8 ∷ item 0xC2 Label 0 1 ∷ [])

pub clash_before_label : link_of (deck_of (
    section_with_label
    ∷ rld (constant 1 8 4 false ∷ constant 1 10 4 false ∷ [])
    ∷ End None ∷ []))
    ≡ Err (link.Clash 2)
unfolding worked_link
clash_before_label = refl

pub label_below : link_of (deck_of (section_with_label ∷ End None ∷ []))
    ≡ Err (link.Label 1)
unfolding worked_link
label_below = refl

-- the entry of a second section of X'404048' bytes lies X'404040' above the first
abbrev long_section : EsdItem
long_section = item 0xC2 Section 0 0x404048

pub label_before_entry : link_of (deck_of (
    esd 1 (item 0xC1 Section 8 8 ∷ long_section ∷ item 0xE2 Label 0 1 ∷ [])
    ∷ End (Some (record { address = 0x404038; id = 2 })) ∷ []))
    ≡ Err (link.Label 1)
unfolding worked_link
label_before_entry = refl

pub blank_entry : link_of (deck_of (
    esd 1 (item 0xC1 Section 0 8 ∷ long_section ∷ [])
    ∷ End (Some (record { address = 0x404038; id = 2 })) ∷ []))
    ≡ Err link.BlankEntry
unfolding worked_link
blank_entry = refl
