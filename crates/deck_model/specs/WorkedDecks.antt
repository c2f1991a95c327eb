-- Decks whose images were worked by hand. Source: choice of this project.
use Rattle.std.specs.Prelude.{◌≡◌, refl, ℕ, false, List, [], ◌∷◌, ◌++◌, replicate, Option, Some, None, Result, Ok, Err}
use Rattle.std.specs.List.{flat_map}
use Rattle.deck_model.specs.Card.{esd, txt, rld, put, esd_item, esd_of, txt_of, rld_raws, rld_of, end_of, card_of}
use Rattle.deck_model.specs.CardWriting.{card_bytes, blank_card, with_data, esd_item_bytes, esd_bytes, txt_bytes, rld_card_bytes, end_bytes}
use Rattle.deck_model.specs.Deck.{Listing, cards_of, listing}
use Rattle.deck_model.specs.Image.{Image, places, section, relocated_byte, image_byte, bytes_from, later_violation, image_at, relocation_number}
use Rattle.deck_model.specs.Linking.{first_clash}
use Rattle.deck_model.specs.declared.cards.Card.{Card}
use Rattle.deck_model.specs.declared.cards.Card.TheVariants.{End}
use Rattle.deck_model.specs.declared.cards.Sort.{Sort}
use Rattle.deck_model.specs.declared.cards.Sort.TheVariants.{Section, External, Weak}
use Rattle.deck_model.specs.declared.cards.EsdItem.{EsdItem}
use Rattle.deck_model.specs.declared.cards.RldItem.{RldItem}
use Rattle.deck_model.specs.declared.decks.DeckRefusal.{DeckRefusal}
use Rattle.deck_model.specs.declared.decks.DeckRefusal.TheVariants as refusal

abbrev deck_of : List Card → List ℕ
deck_of cards = flat_map (λ c. card_bytes c (replicate 8 0x40)) cards

-- the image of a deck, with the definitions that it is worked out by
worked_image : ℕ → ℕ → List ℕ → Result Image DeckRefusal
unfolding put esd_item esd_of txt_of rld_raws rld_of end_of card_of
    blank_card with_data esd_item_bytes esd_bytes txt_bytes rld_card_bytes end_bytes
    cards_of listing places section relocated_byte later_violation image_at
worked_image origin size deck = image_at origin size deck

-- names of one letter: A X'C1', B X'C2', S X'E2'
abbrev item : ℕ → Sort → ℕ → ℕ → EsdItem
item letter sort address extent = record {
  name = letter ∷ replicate 7 0x40;
  sort = sort;
  address = address;
  extent = extent;
}

abbrev constant : ℕ → ℕ → RldItem
constant target address = record {
  target = target;
  place = 1;
  v_type = false;
  width = 4;
  minus = false;
  address = address;
}

-- n bytes of the image at a place
abbrev image_bytes : ℕ → ℕ → ℕ → Result Listing DeckRefusal → List ℕ
image_bytes origin at n (Err r) = []
image_bytes origin at n (Ok l) = bytes_from (image_byte l (places origin l)) at n

-- two sections, of which the first holds the address of a place in the second
abbrev threaded : List ℕ
threaded = deck_of (
    esd 1 (item 0xC1 Section 0 10 ∷ item 0xC2 Section 0x20 8 ∷ [])
    ∷ txt 1 4 (0 ∷ 0 ∷ 0 ∷ 0x24 ∷ [])
    ∷ rld (constant 2 4 ∷ [])
    ∷ End None ∷ [])

-- B is loaded at X'10010', which is X'FFF0' above its address
pub threaded_sections :
    image_bytes 0x10000 0x10004 4 (listing threaded) ≡ 0 ∷ 1 ∷ 0 ∷ 0x14 ∷ []
unfolding worked_image
threaded_sections = refl

-- at 40, where the first section begins at 24
pub threaded_from_24 : image_at 24 48 threaded
    ≡ Ok (record { bytes = replicate 31 0 ++ (0x2C ∷ replicate 16 0); entry = 24 })
unfolding worked_image
threaded_from_24 = refl

pub no_room : image_at 24 47 threaded ≡ Err refusal.NoRoom
unfolding worked_image
no_room = refl

-- a name that nothing defines
abbrev with_name : Sort → List ℕ
with_name sort =
    deck_of (esd 1 (item 0xC1 Section 0 8 ∷ item 0xE2 sort 0 0 ∷ []) ∷ End None ∷ [])

pub unresolved : image_at 0 8 (with_name External) ≡ Err (refusal.Unresolved 1)
unfolding worked_image
unresolved = refl

pub weak : image_at 0 8 (with_name Weak) ≡ Ok (record { bytes = replicate 8 0; entry = 0 })
unfolding worked_image
weak = refl

pub cut_card : image_at 0 8 (replicate 81 2) ≡ Err refusal.NotCards
unfolding worked_image
cut_card = refl

pub empty_deck : image_at 0 8 [] ≡ Err refusal.NoEnd
unfolding worked_image
empty_deck = refl

-- the number of the card of the first constant that clashes with an earlier one
abbrev clash_in : Result Listing DeckRefusal → Option ℕ
clash_in (Err r) = None
clash_in (Ok l) = relocation_number (first_clash (places 0 l) [] l.relocations)

abbrev constants_at : ℕ → ℕ → List ℕ
constants_at a b = deck_of (
    esd 1 (item 0xC1 Section 0 8 ∷ [])
    ∷ rld (constant 1 a ∷ constant 1 b ∷ [])
    ∷ End None ∷ [])

pub overlapping_constants : clash_in (listing (constants_at 0 2)) ≡ Some 2
unfolding worked_image
overlapping_constants = refl

pub one_constant_twice : clash_in (listing (constants_at 0 0)) ≡ None
unfolding worked_image
one_constant_twice = refl

pub neighbours : clash_in (listing (constants_at 0 4)) ≡ None
unfolding worked_image
neighbours = refl
