-- Relocations of one constant's section by one section, as RLD cards of up to 13 items.
-- Source: choice of this project.
use Rattle.std.specs.Prelude.{◌≡◌, ℕ, Bool, true, false, ◌==◌, List, [], ◌∷◌, ◌++◌, length}
use Rattle.deck_model.specs.Card.{rld}
use Rattle.deck_model.specs.CardWriting.{rld_item_fits}
use Rattle.deck_model.specs.declared.cards.Card.{Card}
use Rattle.deck_model.specs.declared.cards.RldItem.{RldItem}

-- before more cards, the card of the items; no card where there are none
abbrev pub rld_closed : List RldItem → List Card → List Card
rld_closed [] more = more
rld_closed (i ∷ is) more = rld (i ∷ is) ∷ more

-- items that are held, before the next one: whether they fill a card
abbrev pub next_item :
    Bool → List RldItem → RldItem → (List RldItem → List Card) → List Card
next_item true held i more = rld_closed held (more (i ∷ []))
next_item false held i more = more (held ++ i ∷ [])

-- the cards of the items that are held and of others behind them, before more cards
abbrev pub rld_cards : List Card → List RldItem → List RldItem → List Card
rld_cards more held [] = rld_closed held more
rld_cards more held (i ∷ is) =
    next_item (length held == 13) held i (λ items. rld_cards more items is)

-- items that a card can have, all with these pointers
abbrev pub SharePointers : ℕ → ℕ → List RldItem → Type 0
SharePointers target place [] = Unit {0}
SharePointers target place (i ∷ is) =
    (i.target ≡ target) × (i.place ≡ place) × (rld_item_fits i ≡ true)
    × SharePointers target place is
