-- The deck of one section that stands for a deck of many. Its sections keep their distances, which
-- are those of origin 0, and its relocations are carried out once, with the places at origin 0.
-- Source: choice of this project; the cards are those of IBM object decks.
use Rattle.std.specs.Prelude.{ℕ, ◌+◌, ◌-◌, Bool, true, false, ◌&&◌, ◌||◌, ◌==◌, not, max, if◌then◌else◌, List, [], ◌∷◌, ◌++◌, length, map, replicate, Option, Some, None}
use Rattle.std.specs.List.{find, filter, list_any}
use Rattle.deck_model.specs.Card.{esd}
use Rattle.deck_model.specs.Deck.{Listing, is_label}
use Rattle.deck_model.specs.Image.{has_id, names, name_of, blank_name, defines, is_item_found, places, text_at, constant_at, load_address, image_byte}
use Rattle.deck_model.specs.declared.cards.Card.{Card}
use Rattle.deck_model.specs.declared.cards.Card.TheVariants.{End}
use Rattle.deck_model.specs.declared.cards.Sort.{Sort}
use Rattle.deck_model.specs.declared.cards.Sort.TheVariants.{Section, Private, Label, External, Weak}
use Rattle.deck_model.specs.declared.cards.EsdItem.{EsdItem}
use Rattle.deck_model.specs.declared.cards.RldItem.{RldItem}
use Rattle.deck_model.specs.declared.decks.Item.{Item}
use Rattle.deck_model.specs.declared.decks.Placed.{Placed}
use Rattle.deck_model.specs.declared.decks.Text.{Text}
use Rattle.deck_model.specs.declared.decks.Relocation.{Relocation}
use Rattle.deck_cards.specs.TextCards.{reaches, runs_of, text_cards}
use Rattle.deck_cards.specs.RelocationCards.{rld_cards}

-- ---- the section: without a name, with ESDID 1 and address 0, up to the farthest end of a section

abbrev pub whole_length : List Placed → ℕ
whole_length [] = 0
whole_length (p ∷ ps) = max (p.at + p.length) (whole_length ps)

abbrev pub one_section : ℕ → EsdItem
one_section n =
    record { name = replicate 8 0x40; sort = Section; address = 0; extent = n }

-- ---- a label for each name that the deck defines

abbrev pub is_named : Item → Bool
is_named i = names i.item.sort && not (name_of i == blank_name)

-- the load address at origin 0; that of a label has 2^32 added
abbrev pub name_place : List Placed → Item → ℕ
name_place ps i =
    if is_label i.item.sort then load_address ps i - 4294967296 else load_address ps i

abbrev pub label_of : List Placed → Item → EsdItem
label_of ps i =
    record { name = i.item.name; sort = Label; address = name_place ps i; extent = 1 }

abbrev pub name_labels : List Placed → List Item → List EsdItem
name_labels ps items = map (label_of ps) (filter is_named items)

abbrev pub label_card : EsdItem → Card
label_card i = esd 0 (i ∷ [])

-- ---- the bytes on which text or a relocated constant stands

abbrev pub text_reaches : List Placed → ℕ → Text → Bool
text_reaches ps a t = reaches (text_at ps t) (length t.bytes.items) a

abbrev pub constant_reaches : List Placed → ℕ → Relocation → Bool
constant_reaches ps a r = reaches (constant_at ps r) r.item.width a

abbrev pub stands : Listing → List Placed → ℕ → Bool
stands l ps a =
    list_any (text_reaches ps a) l.texts || list_any (constant_reaches ps a) l.relocations

-- ---- a relocation by the one section for each by a section or by a name that is defined

-- the item has a load address, so its value moves with the origin
abbrev pub moves_by : List Item → Sort → Item → Bool
moves_by items Section i = true
moves_by items Private i = true
moves_by items Label i = false
moves_by items External i = is_item_found (find (defines (name_of i)) items)
moves_by items Weak i = is_item_found (find (defines (name_of i)) items)

abbrev pub moves_found : List Item → Option Item → Bool
moves_found items None = false
moves_found items (Some i) = moves_by items i.item.sort i

abbrev pub moves : List Item → Relocation → Bool
moves items r = moves_found items (find (has_id r.owner r.item.target) items)

-- by the one section, of a constant in it, with the type, width and sign that it has
abbrev pub by_section : ℕ → RldItem → RldItem
by_section at i = record i { target = 1; place = 1; address = at }

abbrev pub linked_item : List Placed → Relocation → RldItem
linked_item ps r = by_section (constant_at ps r) r.item

abbrev pub linked_items : List Item → List Placed → List Relocation → List RldItem
linked_items items ps rs = map (linked_item ps) (filter (moves items) rs)

-- ---- the cards

abbrev pub end_card : ℕ → Card
end_card e = End (Some (record { address = e; id = 1 }))

-- of a deck whose entry is so far above its first section
unfoldable pub linked_cards : Listing → ℕ → List Card
linked_cards l e =
    let ps = places 0 l in
    let n = whole_length ps in
    esd 1 (one_section n ∷ [])
    ∷ (map label_card (name_labels ps l.items)
    ++ (text_cards 1 (runs_of (stands l ps) (image_byte l ps) n)
    ++ rld_cards (end_card e ∷ []) [] (linked_items l.items ps l.relocations)))
