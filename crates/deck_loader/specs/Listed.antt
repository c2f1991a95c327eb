-- What the lists of the code stand for. Source: choice of this project.
use Rattle.std.specs.Prelude.{◌≡◌, ◌≤◌, ℕ, All, length, ◌++◌, Bool, true, false, if◌then◌else◌, List, [], ◌∷◌, Option, Some, None, Result, Ok, Err}
use Rattle.std.specs.List.{find}
use Rattle.std.specs.declared.collections.BTreeMap.{BTreeMap}
use Rattle.std.specs.declared.alloc.Global.{Global}
use Rattle.deck_model.specs.Deck.{Listing, ends, listing_of, esd_list, label_uses, rld_list, pointer_uses}
use Rattle.deck_model.specs.Image.{first_doubled, same_id, same_name, item_number, is_section_found, has_id, is_unknown}
use Rattle.deck_model.specs.declared.decks.Item.{Item}
use Rattle.deck_model.specs.declared.decks.Numbered.{Numbered}
use Rattle.deck_model.specs.declared.decks.Relocation.{Relocation}
use Rattle.deck_model.specs.declared.decks.Text.{Text}
use Rattle.deck_model.specs.declared.cards.Card.{Card}
use Rattle.deck_model.specs.declared.cards.Card.TheVariants.{Esd, Txt, Rld, End, Sym}
use Rattle.deck_model.specs.declared.cards.EntryPoint.{EntryPoint}
use Rattle.deck_model.specs.declared.decks.DeckRefusal.{DeckRefusal}
use Rattle.deck_model.specs.declared.decks.DeckRefusal.TheVariants.{NotCards, BadFirstByte, UnknownCard, BadCount, Unsupported, NoEnd, DuplicateId, DuplicateName, UnknownId, TextOutside, RldOutside, EntryOutside, Unresolved, NoRoom, NoMemory}
use Rattle.deck_loader.specs.Indexed.{IndexesIds, IndexesNames}
use Rattle.deck_loader.specs.declared.listing.Lists.{Lists as Code}

abbrev pub listed : Code → Listing
listed l = record {
  items = l.items.items;
  texts = l.texts.items;
  relocations = l.relocations.items;
  entries = l.entries.items;
  uses = l.uses.items;
}

-- the answer is what is read, but where memory is wanting
abbrev pub Refuses : {A : Type 0} → Result A DeckRefusal → DeckRefusal → Type 0
Refuses reading NoMemory = Unit {0}
Refuses reading NotCards = reading ≡ Err NotCards
Refuses reading (BadFirstByte n) = reading ≡ Err (BadFirstByte n)
Refuses reading (UnknownCard n) = reading ≡ Err (UnknownCard n)
Refuses reading (BadCount n) = reading ≡ Err (BadCount n)
Refuses reading (Unsupported n) = reading ≡ Err (Unsupported n)
Refuses reading NoEnd = reading ≡ Err NoEnd
Refuses reading (DuplicateId n) = reading ≡ Err (DuplicateId n)
Refuses reading (DuplicateName n) = reading ≡ Err (DuplicateName n)
Refuses reading (UnknownId n) = reading ≡ Err (UnknownId n)
Refuses reading (TextOutside n) = reading ≡ Err (TextOutside n)
Refuses reading (RldOutside n) = reading ≡ Err (RldOutside n)
Refuses reading EntryOutside = reading ≡ Err EntryOutside
Refuses reading (Unresolved n) = reading ≡ Err (Unresolved n)
Refuses reading NoRoom = reading ≡ Err NoRoom

abbrev pub ReadsAs : Result Listing DeckRefusal → Result Code DeckRefusal → Type 0
ReadsAs reading (Ok l) = reading ≡ Ok (listed l)
ReadsAs reading (Err r) = Refuses reading r

-- an index of the ESDIDs or names, or the first that is doubled
abbrev pub IdsOrDoubled : List Item → Result (BTreeMap ℕ ℕ Global) DeckRefusal → Type 0
IdsOrDoubled items (Ok m) =
    (item_number (first_doubled same_id [] items) ≡ None) × IndexesIds items m
IdsOrDoubled items (Err (DuplicateId n)) = item_number (first_doubled same_id [] items) ≡ Some n
IdsOrDoubled items (Err NoMemory) = Unit {0}
IdsOrDoubled items (Err _) = ⊥

abbrev pub NamesOrDoubled : List Item → Result (BTreeMap ℕ ℕ Global) DeckRefusal → Type 0
NamesOrDoubled items (Ok m) =
    (item_number (first_doubled same_name [] items) ≡ None) × IndexesNames items m
NamesOrDoubled items (Err (DuplicateName n)) =
    item_number (first_doubled same_name [] items) ≡ Some n
NamesOrDoubled items (Err NoMemory) = Unit {0}
NamesOrDoubled items (Err _) = ⊥

abbrev pub no_listing : Listing
no_listing = record { items = []; texts = []; relocations = []; entries = []; uses = [] }

-- each relocation has the width of a constant
abbrev pub WidthsFit : List Relocation → Type 0
WidthsFit rs = All (λ (r : Relocation). (1 ≤ r.item.width) × (r.item.width ≤ 4)) rs

-- each item has a name of eight bytes, and no address passes 2^32
abbrev pub ItemsTyped : List Item → Type 0
ItemsTyped is =
    All (λ (i : Item). (length i.item.name ≡ 8) × (i.item.address ≤ 4294967296)) is

abbrev pub with_entry : ℕ → ℕ → Listing → Option EntryPoint → Listing
with_entry n m l None = l
with_entry n m l (Some e) = record l {
  entries = l.entries ++ record { number = n; owner = m; address = e.address; id = e.id } ∷ [];
  uses = l.uses ++ record { number = n; owner = m; id = e.id; any = false } ∷ [];
}

-- the lists with what one more card adds
abbrev pub with_card : ℕ → ℕ → Listing → Card → Listing
with_card n m l (Esd c) = record l {
  items = l.items ++ esd_list n m c.first_id c.items.items;
  uses = l.uses ++ label_uses n m c.items.items;
}
with_card n m l (Txt c) = record l {
  texts = l.texts
      ++ record { number = n; owner = m; id = c.id; address = c.address; bytes = c.bytes } ∷ [];
  uses = l.uses ++ record { number = n; owner = m; id = c.id; any = false } ∷ [];
}
with_card n m l (Rld c) = record l {
  relocations = l.relocations ++ rld_list n m c.items.items;
  uses = l.uses ++ pointer_uses n m c.items.items;
}
with_card n m l (End e) = with_entry n m l e
with_card n m l Sym = l

-- one listing after another
abbrev pub joined : Listing → Listing → Listing
joined l k = record {
  items = l.items ++ k.items;
  texts = l.texts ++ k.texts;
  relocations = l.relocations ++ k.relocations;
  entries = l.entries ++ k.entries;
  uses = l.uses ++ k.uses;
}

-- the cards of a deck after those that were read
abbrev pub onto : Listing → Bool → Result (List Numbered) DeckRefusal → Result Listing DeckRefusal
onto l ended (Err r) = Err r
onto l ended (Ok cs) = if ends ended cs then Ok (joined l (listing_of cs)) else Err NoEnd

-- the section of each text is an item
abbrev pub TextsKnown : List Item → List Text → Type 0
TextsKnown items [] = Unit {0}
TextsKnown items (t ∷ ts) =
    (is_section_found (find (has_id t.owner t.id) items) ≡ true) × TextsKnown items ts

-- the ESDID of each text is among the uses
abbrev pub TextsAreUsed : Listing → Type 0
TextsAreUsed l =
    (items : List Item) → find (is_unknown items) l.uses ≡ None → TextsKnown items l.texts
