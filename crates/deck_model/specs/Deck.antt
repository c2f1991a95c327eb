-- The object deck: cards of 80 bytes, read by their columns, in modules that end with an END card.
-- Its items, texts, relocations, entries and uses of ESDIDs are lists read off the cards.
-- Source: IBM object deck layout.
use Rattle.std.specs.Prelude.{ℕ, zero, suc, ◌+◌, ◌/◌, ◌%◌, Bool, true, false, ◌==◌, if◌then◌else◌, List, [], ◌∷◌, length, take, drop, Option, Some, None, Result, Ok, Err}
use Rattle.std.specs.List.{flat_map}
use Rattle.deck_model.specs.Card.{card_of}
use Rattle.deck_model.specs.declared.cards.Card.{Card}
use Rattle.deck_model.specs.declared.cards.Card.TheVariants.{Esd, Txt, Rld, End, Sym}
use Rattle.deck_model.specs.declared.cards.Sort.{Sort}
use Rattle.deck_model.specs.declared.cards.Sort.TheVariants.{Section, Private, Label, External, Weak}
use Rattle.deck_model.specs.declared.cards.EsdItem.{EsdItem}
use Rattle.deck_model.specs.declared.cards.RldItem.{RldItem}
use Rattle.deck_model.specs.declared.cards.EntryPoint.{EntryPoint}
use Rattle.deck_model.specs.declared.cards.CardRefusal.{CardRefusal}
use Rattle.deck_model.specs.declared.cards.CardRefusal.TheVariants as card
use Rattle.deck_model.specs.declared.decks.Numbered.{Numbered}
use Rattle.deck_model.specs.declared.decks.Item.{Item}
use Rattle.deck_model.specs.declared.decks.Text.{Text}
use Rattle.deck_model.specs.declared.decks.Relocation.{Relocation}
use Rattle.deck_model.specs.declared.decks.Entry.{Entry}
use Rattle.deck_model.specs.declared.decks.Use.{Use}
use Rattle.deck_model.specs.declared.decks.DeckRefusal.{DeckRefusal}
use Rattle.deck_model.specs.declared.decks.DeckRefusal.TheVariants as deck

-- ---- the cards

abbrev pub is_end : Card → Bool
is_end (End e) = true
is_end (Esd c) = false
is_end (Txt c) = false
is_end (Rld c) = false
is_end Sym = false

abbrev pub card_refusal : ℕ → CardRefusal → DeckRefusal
card_refusal n card.BadFirstByte = deck.BadFirstByte n
card_refusal n card.UnknownCard = deck.UnknownCard n
card_refusal n card.BadCount = deck.BadCount n
card_refusal n (card.Unsupported k) = deck.Unsupported n

abbrev pub with_first : Numbered → Result (List Numbered) DeckRefusal →
    Result (List Numbered) DeckRefusal
with_first c (Err r) = Err r
with_first c (Ok cs) = Ok (c ∷ cs)

abbrev pub first_card : ℕ → ℕ → Result Card CardRefusal →
    (ℕ → Result (List Numbered) DeckRefusal) → Result (List Numbered) DeckRefusal
first_card n m (Err r) more = Err (card_refusal n r)
first_card n m (Ok c) more =
    with_first (record { number = n; owner = m; card = c }) (more (if is_end c then m + 1 else m))

-- so many cards, the first with number n and in module m, or the first refusal of one
abbrev pub cards_from : ℕ → ℕ → ℕ → List ℕ → Result (List Numbered) DeckRefusal
cards_from zero n m bytes = Ok []
cards_from (suc left) n m bytes =
    first_card n m (card_of (take 80 bytes))
    (λ owner. cards_from left (n + 1) owner (drop 80 bytes))

unfoldable pub cards_of : List ℕ → Result (List Numbered) DeckRefusal
cards_of bytes =
    if length bytes % 80 == 0 then cards_from (length bytes / 80) 1 0 bytes else Err deck.NotCards

-- ---- what a card adds

abbrev pub is_label : Sort → Bool
is_label Label = true
is_label Section = false
is_label Private = false
is_label External = false
is_label Weak = false

abbrev pub is_section : Sort → Bool
is_section Section = true
is_section Private = true
is_section Label = false
is_section External = false
is_section Weak = false

-- the items of an ESD card count up from its ESDID, as whole numbers; a label takes none
abbrev pub esd_list : ℕ → ℕ → ℕ → List EsdItem → List Item
esd_list n m id [] = []
esd_list n m id (i ∷ is) =
    record { number = n; owner = m; id = id; item = i }
    ∷ esd_list n m (if is_label i.sort then id else id + 1) is

abbrev pub items_of : ℕ → ℕ → Card → List Item
items_of n m (Esd c) = esd_list n m c.first_id c.items.items
items_of n m (Txt c) = []
items_of n m (Rld c) = []
items_of n m (End e) = []
items_of n m Sym = []

abbrev pub texts_of : ℕ → ℕ → Card → List Text
texts_of n m (Txt c) =
    record { number = n; owner = m; id = c.id; address = c.address; bytes = c.bytes } ∷ []
texts_of n m (Esd c) = []
texts_of n m (Rld c) = []
texts_of n m (End e) = []
texts_of n m Sym = []

abbrev pub rld_list : ℕ → ℕ → List RldItem → List Relocation
rld_list n m [] = []
rld_list n m (i ∷ is) = record { number = n; owner = m; item = i } ∷ rld_list n m is

abbrev pub relocations_of : ℕ → ℕ → Card → List Relocation
relocations_of n m (Rld c) = rld_list n m c.items.items
relocations_of n m (Esd c) = []
relocations_of n m (Txt c) = []
relocations_of n m (End e) = []
relocations_of n m Sym = []

abbrev pub entry_list : ℕ → ℕ → Option EntryPoint → List Entry
entry_list n m None = []
entry_list n m (Some e) = record { number = n; owner = m; address = e.address; id = e.id } ∷ []

abbrev pub entries_of : ℕ → ℕ → Card → List Entry
entries_of n m (End e) = entry_list n m e
entries_of n m (Esd c) = []
entries_of n m (Txt c) = []
entries_of n m (Rld c) = []
entries_of n m Sym = []

-- a label's extent, a text's ESDID, a P pointer and an entry's ESDID name a section; an R pointer
-- names any item
abbrev pub label_uses : ℕ → ℕ → List EsdItem → List Use
label_uses n m [] = []
label_uses n m (i ∷ is) =
    if is_label i.sort
    then record { number = n; owner = m; id = i.extent; any = false } ∷ label_uses n m is
    else label_uses n m is

abbrev pub pointer_uses : ℕ → ℕ → List RldItem → List Use
pointer_uses n m [] = []
pointer_uses n m (i ∷ is) =
    record { number = n; owner = m; id = i.place; any = false }
    ∷ record { number = n; owner = m; id = i.target; any = true }
    ∷ pointer_uses n m is

abbrev pub entry_uses : ℕ → ℕ → Option EntryPoint → List Use
entry_uses n m None = []
entry_uses n m (Some e) = record { number = n; owner = m; id = e.id; any = false } ∷ []

abbrev pub uses_of : ℕ → ℕ → Card → List Use
uses_of n m (Esd c) = label_uses n m c.items.items
uses_of n m (Txt c) = record { number = n; owner = m; id = c.id; any = false } ∷ []
uses_of n m (Rld c) = pointer_uses n m c.items.items
uses_of n m (End e) = entry_uses n m e
uses_of n m Sym = []

-- ---- a deck as lists

pub record Listing : Type 0 where
  pub items : List Item
  pub texts : List Text
  pub relocations : List Relocation
  pub entries : List Entry
  pub uses : List Use

abbrev pub listing_of : List Numbered → Listing
listing_of cs = record {
  items = flat_map (λ (c : Numbered). items_of c.number c.owner c.card) cs;
  texts = flat_map (λ (c : Numbered). texts_of c.number c.owner c.card) cs;
  relocations = flat_map (λ (c : Numbered). relocations_of c.number c.owner c.card) cs;
  entries = flat_map (λ (c : Numbered). entries_of c.number c.owner c.card) cs;
  uses = flat_map (λ (c : Numbered). uses_of c.number c.owner c.card) cs;
}

-- whether the last card is an END card, after one that is or is none
abbrev pub ends : Bool → List Numbered → Bool
ends ended [] = ended
ends ended (c ∷ cs) = ends (is_end c.card) cs

abbrev pub listing_or_refusal : Result (List Numbered) DeckRefusal → Result Listing DeckRefusal
listing_or_refusal (Err r) = Err r
listing_or_refusal (Ok cs) = if ends false cs then Ok (listing_of cs) else Err deck.NoEnd

-- a deck as lists, or the first of the refusals that reading its cards gives
unfoldable pub listing : List ℕ → Result Listing DeckRefusal
listing bytes = listing_or_refusal (cards_of bytes)
