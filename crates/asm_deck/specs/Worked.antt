-- The deck of a program of one section, worked by hand. Source: choice of this project.
use Rattle.std.specs.Prelude.{◌≡◌, ℕ, List, [], ◌∷◌, length, take, drop, false, None, refl}
use Rattle.deck_model.specs.Card.{put, rld}
use Rattle.deck_model.specs.CardWriting.{blank_card, with_data, esd_item_bytes, esd_bytes, txt_bytes, rld_card_bytes, end_bytes}
use Rattle.deck_cards.specs.NumberedCards.{sequence, deck_bytes}
use Rattle.asm_model.specs.Section.{SectionBytes}
use Rattle.asm_deck.specs.AssembledCards.{assembled_cards}

-- MAIN: LA 1,2048; five times AR 1,1; LA 1,28(1); LA 2,2; DIAG 1,2,256; BCR 0,0; DC X'C8C9'
abbrev pub main_section : List SectionBytes
main_section = record {
  name = 0xD4C1C9D540404040;
  bytes =
      0x41 ∷ 0x10 ∷ 0x08 ∷ 0 ∷ 0x1A ∷ 0x11 ∷ 0x1A ∷ 0x11 ∷ 0x1A ∷ 0x11 ∷ 0x1A ∷ 0x11 ∷ 0x1A
      ∷ 0x11 ∷ 0x41 ∷ 0x10 ∷ 0x10 ∷ 0x1C ∷ 0x41 ∷ 0x20 ∷ 0 ∷ 2 ∷ 0x83 ∷ 0x12 ∷ 0x01 ∷ 0 ∷ 0x07
      ∷ 0 ∷ 0xC8 ∷ 0xC9 ∷ [];
} ∷ []

abbrev pub main_deck : List ℕ
main_deck = deck_bytes 1 (assembled_cards main_section [] [] None)

pub three_cards : length main_deck ≡ 240
unfolding put blank_card with_data esd_item_bytes esd_bytes txt_bytes rld_card_bytes end_bytes
    sequence
three_cards = refl

-- 30 bytes of the section 1, from its offset 0 on
pub text_card : take 16 (drop 80 main_deck)
    ≡ 2 ∷ 0xE3 ∷ 0xE7 ∷ 0xE3 ∷ 64 ∷ 0 ∷ 0 ∷ 0 ∷ 64 ∷ 64 ∷ 0 ∷ 30 ∷ 64 ∷ 64 ∷ 0 ∷ 1 ∷ []
unfolding put blank_card with_data esd_item_bytes esd_bytes txt_bytes rld_card_bytes end_bytes
    sequence
text_card = refl
