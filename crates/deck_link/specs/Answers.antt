-- What linking answers. Source: choice of this project.
use Rattle.std.specs.Prelude.{◌≡◌, ℕ, List, Result, Ok, Err}
use Rattle.deck_model.specs.Deck.{Listing, listing}
use Rattle.deck_model.specs.declared.decks.DeckRefusal.{DeckRefusal}
use Rattle.deck_model.specs.declared.decks.DeckRefusal.TheVariants as deck
use Rattle.deck_loader.specs.Listed.{ItemsTyped, WidthsFit}
use Rattle.program_model.specs.declared.refusals.LinkRefusal.{LinkRefusal}
use Rattle.program_model.specs.declared.refusals.LinkRefusal.TheVariants.{Deck, Clash, Label, BlankEntry, TooLong, NoMemory}

-- the bytes that a section has at most: those of the greatest storage behind the load origin
abbrev pub most_length : ℕ
most_length = 16711680

-- the refusal is that of the deck, but where memory is wanting
abbrev pub Refused : Result (List ℕ) LinkRefusal → LinkRefusal → Type 0
Refused linked NoMemory = Unit {0}
Refused linked (Deck r) = linked ≡ Err (Deck r)
Refused linked (Clash n) = linked ≡ Err (Clash n)
Refused linked (Label n) = linked ≡ Err (Label n)
Refused linked BlankEntry = linked ≡ Err BlankEntry
Refused linked TooLong = linked ≡ Err TooLong

-- the refusal to link for one to load
abbrev pub loading_refusal : DeckRefusal → LinkRefusal
loading_refusal deck.NoMemory = NoMemory
loading_refusal deck.NotCards = Deck deck.NotCards
loading_refusal (deck.BadFirstByte n) = Deck (deck.BadFirstByte n)
loading_refusal (deck.UnknownCard n) = Deck (deck.UnknownCard n)
loading_refusal (deck.BadCount n) = Deck (deck.BadCount n)
loading_refusal (deck.Unsupported n) = Deck (deck.Unsupported n)
loading_refusal deck.NoEnd = Deck deck.NoEnd
loading_refusal (deck.DuplicateId n) = Deck (deck.DuplicateId n)
loading_refusal (deck.DuplicateName n) = Deck (deck.DuplicateName n)
loading_refusal (deck.UnknownId n) = Deck (deck.UnknownId n)
loading_refusal (deck.TextOutside n) = Deck (deck.TextOutside n)
loading_refusal (deck.RldOutside n) = Deck (deck.RldOutside n)
loading_refusal deck.EntryOutside = Deck deck.EntryOutside
loading_refusal (deck.Unresolved n) = Deck (deck.Unresolved n)
loading_refusal deck.NoRoom = Deck deck.NoRoom

-- the lists are those of a deck of bytes
pub record IsRead (l : Listing) : Type 0 where
  pub deck : List ℕ
  pub read : listing deck ≡ Ok l
  pub items : ItemsTyped l.items
  pub widths : WidthsFit l.relocations
