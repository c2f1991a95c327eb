-- The linked deck of a deck, or the first refusal.
-- Source: choice of this project.
use Rattle.std.specs.Prelude.{ℕ, ◌==◌, Bool, ◌&&◌, ◌||◌, not, nat_lt, if◌then◌else◌, List, [], length, Option, Some, None, Result, Ok, Err}
use Rattle.std.specs.List.{find}
use Rattle.deck_model.specs.Card.{blank_address}
use Rattle.deck_model.specs.Deck.{Listing, listing, is_label}
use Rattle.deck_model.specs.Image.{name_of, blank_name, places, load_address, load_origin, violation, entry, or_zero, item_number, relocation_number}
use Rattle.deck_model.specs.Linking.{greatest_storage, first_clash}
use Rattle.deck_model.specs.declared.decks.DeckRefusal.{DeckRefusal}
use Rattle.deck_model.specs.declared.decks.Item.{Item}
use Rattle.deck_model.specs.declared.decks.Placed.{Placed}
use Rattle.program_model.specs.declared.refusals.LinkRefusal.{LinkRefusal}
use Rattle.program_model.specs.declared.refusals.LinkRefusal.TheVariants.{Deck, Clash, Label, BlankEntry, TooLong}
use Rattle.deck_cards.specs.NumberedCards.{deck_bytes}
use Rattle.link_model.specs.Linked.{linked_cards}

-- a label with a name that lies before the first section, or more than X'FFFFFF' after its begin, at
-- origin 0. The load address of a label has 2^32 added
abbrev pub is_far_label : List Placed → Item → Bool
is_far_label ps i =
    is_label i.item.sort
    && (not (name_of i == blank_name)
    && (nat_lt (load_address ps i) 4294967296 || nat_lt 4311744511 (load_address ps i)))

abbrev pub most_bytes : ℕ
most_bytes = 16000000

-- ---- one refusal after another

-- a refusal where there is such a card, else what follows
abbrev pub refused_by : (ℕ → LinkRefusal) → Option ℕ → Result (List ℕ) LinkRefusal →
    Result (List ℕ) LinkRefusal
refused_by r None more = more
refused_by r (Some n) more = Err (r n)

abbrev pub unless_violated : Option DeckRefusal → Result (List ℕ) LinkRefusal →
    Result (List ℕ) LinkRefusal
unless_violated None more = more
unless_violated (Some r) more = Err (Deck r)

abbrev pub unless_long : List ℕ → Result (List ℕ) LinkRefusal
unless_long bytes = if nat_lt most_bytes (length bytes) then Err TooLong else Ok bytes

-- with an entry that an END card can name
abbrev pub linked_from : Listing → ℕ → Result (List ℕ) LinkRefusal
linked_from l e =
    if e == blank_address then Err BlankEntry else unless_long (deck_bytes 1 (linked_cards l e))

abbrev pub link_listing : Result Listing DeckRefusal → Result (List ℕ) LinkRefusal
link_listing (Err r) = Err (Deck r)
link_listing (Ok l) =
    let ps = places 0 l in
    unless_violated (violation greatest_storage l (places load_origin l))
    (refused_by Clash (relocation_number (first_clash ps [] l.relocations))
    (refused_by Label (item_number (find (is_far_label ps) l.items))
    (linked_from l (or_zero (entry ps l.entries)))))

-- the deck of one section that stands for a deck of modules, or the first refusal: the violation of
-- the deck as it is loaded, constants that clash, a label too far away, an entry that is no END
-- card's, or too many bytes
unfoldable pub link_of : List ℕ → Result (List ℕ) LinkRefusal
link_of deck = link_listing (listing deck)
