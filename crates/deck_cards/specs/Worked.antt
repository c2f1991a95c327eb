-- Made decks that were worked by hand. Source: choice of this project.
use Rattle.std.specs.Prelude.{◌≡◌, refl, ℕ, ◌==◌, Bool, true, false, ◌||◌, List, [], ◌∷◌, replicate}
use Rattle.deck_model.specs.Card.{rld}
use Rattle.deck_model.specs.declared.cards.RldItem.{RldItem}
use Rattle.deck_cards.specs.NumberedCards.{sequence}
use Rattle.deck_cards.specs.TextCards.{Run, runs_of}
use Rattle.deck_cards.specs.RelocationCards.{rld_cards}

pub number_12345678 : sequence 12345678
    ≡ 0xF1 ∷ 0xF2 ∷ 0xF3 ∷ 0xF4 ∷ 0xF5 ∷ 0xF6 ∷ 0xF7 ∷ 0xF8 ∷ []
unfolding sequence
number_12345678 = refl

abbrev place : ℕ → ℕ
place a = a

-- bytes at 1, 2 and 4 of six
abbrev on_three : ℕ → Bool
on_three a = (a == 1) || ((a == 2) || (a == 4))

pub two_runs : runs_of on_three place 6
    ≡ record { at = 1; bytes = 1 ∷ 2 ∷ [] } ∷ record { at = 4; bytes = 4 ∷ [] } ∷ []
two_runs = refl

abbrev zeros : ℕ → ℕ
zeros a = 0

-- 57 bytes want two cards
pub cut_at_56 : runs_of (λ a. true) zeros 57
    ≡ record { at = 0; bytes = replicate 56 0 } ∷ record { at = 56; bytes = 0 ∷ [] } ∷ []
cut_at_56 = refl

pub nothing_stands : runs_of (λ a. false) zeros 57 ≡ []
nothing_stands = refl

abbrev constant : RldItem
constant = record {
  target = 1;
  place = 1;
  v_type = false;
  width = 4;
  minus = false;
  address = 8;
}

-- 14 relocations want two cards
pub cut_at_13 : rld_cards [] [] (replicate 14 constant)
    ≡ rld (replicate 13 constant) ∷ rld (constant ∷ []) ∷ []
cut_at_13 = refl

pub no_relocations : rld_cards [] [] [] ≡ []
no_relocations = refl
