-- Cards that can be written and read back.
-- Source: choice of this project.
use Rattle.std.specs.Prelude.{◌≡◌, ℕ, ◌<◌, ◌≤◌, IsTrue, List, [], ◌∷◌, length, Option, Some, None}
use Rattle.deck_model.specs.CardWriting.{card_fits}
use Rattle.deck_model.specs.declared.cards.Card.{Card}
use Rattle.deck_model.specs.declared.cards.Card.TheVariants.{Esd, Txt, Rld, End, Sym}
use Rattle.deck_model.specs.declared.cards.EsdItem.{EsdItem}
use Rattle.deck_model.specs.declared.cards.EntryPoint.{EntryPoint}
use Rattle.card_deck.specs.Results.{PointersFit}

-- names of eight bytes
abbrev pub AreNamed : List EsdItem → Type 0
AreNamed [] = Unit {0}
AreNamed (i ∷ is) = (length i.name ≡ 8) × AreNamed is

abbrev pub EntryTyped : Option EntryPoint → Type 0
EntryTyped None = Unit {0}
EntryTyped (Some e) = e.id < 65536

-- what the types of a card's fields say
abbrev pub IsTyped : Card → Type 0
IsTyped (Esd c) =
    (c.first_id < 65536) × (length c.items.items ≤ 3) × AreNamed c.items.items
IsTyped (Txt c) = (c.id < 65536) × (length c.bytes.items ≤ 56)
IsTyped (Rld c) = PointersFit c.items.items
IsTyped (End e) = EntryTyped e
IsTyped Sym = Unit {0}

abbrev pub AreWritable : List Card → Type 0
AreWritable [] = Unit {0}
AreWritable (c ∷ cs) = IsTrue (card_fits c) × IsTyped c × AreWritable cs
