-- The image of a deck: its bytes and entry, or its first violation.
-- Source: IBM object deck layout, for sections and text in deck order and for relocation; the load
-- origin, the order of the refusals, the length of a section of extent 0, the default entry and an
-- unresolved WX as 0 are choices of this project.
use Rattle.std.specs.Prelude.{ℕ, zero, suc, ◌+◌, ◌-◌, ◌*◌, ◌/◌, ◌%◌, ◌^◌, Bool, true, false, ◌&&◌, ◌||◌, ◌==◌, not, nat_lt, nat_le, max, if◌then◌else◌, List, [], ◌∷◌, ◌++◌, length, reverse, slice_index, replicate, Option, Some, None, Result, Ok, Err}
use Rattle.std.specs.List.{find, list_any}
use Rattle.byteorder.specs.Endian.{big_number, big_bytes}
use Rattle.deck_model.specs.Deck.{Listing, listing, is_section, is_label}
use Rattle.deck_model.specs.declared.cards.Sort.{Sort}
use Rattle.deck_model.specs.declared.cards.Sort.TheVariants.{Section, Private, Label, External, Weak}
use Rattle.deck_model.specs.declared.decks.Item.{Item}
use Rattle.deck_model.specs.declared.decks.Text.{Text}
use Rattle.deck_model.specs.declared.decks.Placed.{Placed}
use Rattle.deck_model.specs.declared.decks.Relocation.{Relocation}
use Rattle.deck_model.specs.declared.decks.Entry.{Entry}
use Rattle.deck_model.specs.declared.decks.Use.{Use}
use Rattle.deck_model.specs.declared.decks.DeckRefusal.{DeckRefusal}
use Rattle.deck_model.specs.declared.decks.DeckRefusal.TheVariants as refusal

-- ---- items and names

-- the item has this ESDID of this module
abbrev pub has_id : ℕ → ℕ → Item → Bool
has_id owner id i = not (is_label i.item.sort) && ((i.owner == owner) && (i.id == id))

-- an SD or an LD with a name
abbrev pub names : Sort → Bool
names Section = true
names Label = true
names Private = false
names External = false
names Weak = false

-- a name is compared as the number of its eight bytes
abbrev pub name_of : Item → ℕ
name_of i = big_number 8 i.item.name

abbrev pub blank_name : ℕ
blank_name = 0x4040404040404040

abbrev pub defines : ℕ → Item → Bool
defines name i = names i.item.sort && (not (name_of i == blank_name) && (name_of i == name))

-- ---- first violations: the first of a list that fails a test

abbrev pub first_doubled : (Item → Item → Bool) → List Item → List Item → Option Item
first_doubled same earlier [] = None
first_doubled same earlier (i ∷ is) =
    if list_any (same i) earlier then Some i else first_doubled same (earlier ++ i ∷ []) is

abbrev pub same_id : Item → Item → Bool
same_id i j = not (is_label i.item.sort) && has_id i.owner i.id j

abbrev pub same_name : Item → Item → Bool
same_name i j = names i.item.sort && (not (name_of i == blank_name) && defines (name_of i) j)

-- the item of an ESDID is a section
abbrev pub is_section_found : Option Item → Bool
is_section_found None = false
is_section_found (Some i) = is_section i.item.sort

abbrev pub is_item_found : Option Item → Bool
is_item_found None = false
is_item_found (Some i) = true

-- no item has the ESDID, or the one that has it is no section
abbrev pub is_unknown : List Item → Use → Bool
is_unknown items u =
    if u.any then not (is_item_found (find (has_id u.owner u.id) items))
    else not (is_section_found (find (has_id u.owner u.id) items))

-- ---- sections and their places

-- the end of the farthest text of a section
abbrev pub text_end : Item → Text → ℕ
text_end s t =
    if (t.owner == s.owner) && (t.id == s.id)
    then t.address + length t.bytes.items - s.item.address
    else 0

abbrev pub farthest : Item → List Text → ℕ
farthest s [] = 0
farthest s (t ∷ ts) = max (text_end s t) (farthest s ts)

abbrev pub length_of : List Text → Item → ℕ
length_of texts s = if s.item.extent == 0 then farthest s texts else s.item.extent

-- the least multiple of 8 not below
abbrev pub aligned : ℕ → ℕ
aligned n = (n + 7) / 8 * 8

abbrev pub place : ℕ → List Text → List Item → List Placed
place from texts [] = []
place from texts (i ∷ is) =
    if is_section i.item.sort
    then record { item = i; length = length_of texts i; at = aligned from }
    ∷ place (aligned from + length_of texts i) texts is
    else place from texts is

-- the sections at their places, the first at the origin
unfoldable pub places : ℕ → Listing → List Placed
places origin l = place origin l.texts l.items

abbrev pub is_placed : ℕ → ℕ → Placed → Bool
is_placed owner id p = (p.item.owner == owner) && (p.item.id == id)

-- the section of this ESDID of this module; where there is none, one of length 0 at 0 (refused
-- before it is asked)
abbrev pub no_section : Item
no_section = record {
  number = 0;
  owner = 0;
  id = 0;
  item = record { name = replicate 8 0; sort = Section; address = 0; extent = 0 };
}

abbrev pub or_nowhere : Option Placed → Placed
or_nowhere (Some p) = p
or_nowhere None = record { item = no_section; length = 0; at = 0 }

unfoldable pub section : List Placed → ℕ → ℕ → Placed
section ps owner id = or_nowhere (find (is_placed owner id) ps)

-- ---- text and constants in their sections

-- the text is not inside its section, which bounds it where its extent is not 0
abbrev pub is_text_outside : List Placed → Text → Bool
is_text_outside ps t =
    let p = section ps t.owner t.id in
    nat_lt t.address p.item.item.address
    || (not (p.item.item.extent == 0)
    && nat_lt p.item.item.extent (t.address + length t.bytes.items - p.item.item.address))

abbrev pub is_constant_outside : List Placed → Relocation → Bool
is_constant_outside ps r =
    let p = section ps r.owner r.item.place in
    nat_lt r.item.address p.item.item.address
    || nat_lt p.length (r.item.address + r.item.width - p.item.item.address)

-- ---- entry

abbrev pub is_entry_outside : List Placed → Entry → Bool
is_entry_outside ps e =
    let p = section ps e.owner e.id in
    nat_lt e.address p.item.item.address || nat_le p.length (e.address - p.item.item.address)

abbrev pub has_length : Placed → Bool
has_length p = not (p.length == 0)

abbrev pub entry_of : List Placed → Entry → Option ℕ
entry_of ps e =
    if is_entry_outside ps e then None
    else (let p = section ps e.owner e.id in Some (p.at + (e.address - p.item.item.address)))

-- the first entry, else the first section with a length
abbrev pub default_entry : Option Placed → Option ℕ
default_entry None = None
default_entry (Some p) = Some p.at

abbrev pub entry : List Placed → List Entry → Option ℕ
entry ps [] = default_entry (find has_length ps)
entry ps (e ∷ es) = entry_of ps e

-- ---- values of relocations. They are used modulo 2^32 alone, so 2^32 is added before a
-- subtraction

-- the load address of an item that defines a name: of a label, its section's and its distance from
-- that section
abbrev pub load_address : List Placed → Item → ℕ
load_address ps i =
    if is_label i.item.sort
    then (let p = section ps i.owner i.item.extent in
    p.at + 4294967296 + i.item.address - p.item.item.address)
    else (section ps i.owner i.id).at

abbrev pub defined_at : List Placed → Option Item → ℕ
defined_at ps None = 0
defined_at ps (Some i) = load_address ps i

abbrev pub value_by : List Item → List Placed → Sort → Item → ℕ
value_by items ps Section i = (section ps i.owner i.id).at + 4294967296 - i.item.address
value_by items ps Private i = (section ps i.owner i.id).at + 4294967296 - i.item.address
value_by items ps Label i = 0
value_by items ps External i = defined_at ps (find (defines (name_of i)) items)
value_by items ps Weak i = defined_at ps (find (defines (name_of i)) items)

abbrev pub value_of : List Item → List Placed → Option Item → ℕ
value_of items ps None = 0
value_of items ps (Some i) = value_by items ps i.item.sort i

abbrev pub value : List Item → List Placed → Relocation → ℕ
value items ps r = value_of items ps (find (has_id r.owner r.item.target) items)

-- ---- bytes

-- where a text or a constant lies in the storage
abbrev pub text_at : List Placed → Text → ℕ
text_at ps t = let p = section ps t.owner t.id in p.at + (t.address - p.item.item.address)

abbrev pub constant_at : List Placed → Relocation → ℕ
constant_at ps r =
    let p = section ps r.owner r.item.place in p.at + (r.item.address - p.item.item.address)

-- the last text byte placed at a, else the byte before
abbrev pub text_byte : List Placed → List Text → ℕ → ℕ → ℕ
text_byte ps [] a before = before
text_byte ps (t ∷ ts) a before =
    let at = text_at ps t in
    text_byte ps ts a
    (if nat_le at a && nat_lt a (at + length t.bytes.items)
    then slice_index t.bytes.items (a - at)
    else before)

-- n bytes from place a on, where `byte` gives each by its place
abbrev pub bytes_from : (ℕ → ℕ) → ℕ → ℕ → List ℕ
bytes_from byte a zero = []
bytes_from byte a (suc n) = byte a ∷ bytes_from byte (a + 1) n

-- a constant with a value added or subtracted, modulo 256 to the power of its width
abbrev pub added : Bool → ℕ → ℕ → ℕ → ℕ
added minus width v constant =
    if minus then (constant + 4294967296 - v % 4294967296) % 256 ^ width
    else (constant + v) % 256 ^ width

-- the constant with the value added or subtracted, as bytes
abbrev pub relocated_constant : ℕ → ℕ → Bool → ℕ → (ℕ → ℕ) → List ℕ
relocated_constant at width minus v byte =
    big_bytes width (added minus width v (big_number width (bytes_from byte at width)))

-- the byte at a after one relocation, where `byte` gives the bytes before it: a byte of the new
-- constant where the constant reaches a, else the byte before
unfoldable pub relocated_byte : ℕ → ℕ → Bool → ℕ → (ℕ → ℕ) → ℕ → ℕ
relocated_byte at width minus v byte a =
    if nat_le at a && nat_lt a (at + width)
    then slice_index (relocated_constant at width minus v byte) (a - at)
    else byte a

-- the byte at a after relocations, the last of them first, each in the constant that the earlier
-- ones left
abbrev pub byte_after : List Item → List Placed → List Relocation → (ℕ → ℕ) → ℕ → ℕ
byte_after items ps [] byte = byte
byte_after items ps (r ∷ earlier) byte =
    relocated_byte (constant_at ps r) r.item.width r.item.minus (value items ps r)
    (byte_after items ps earlier byte)

-- the byte of the image at a: the last text byte placed there, or 0, with the relocations that
-- reach it
abbrev pub image_byte : Listing → List Placed → ℕ → ℕ
image_byte l ps = byte_after l.items ps (reverse l.relocations) (λ a. text_byte ps l.texts a 0)

-- ---- the first violation, in the order of the refusals

-- the number of the card of what is found
abbrev pub item_number : Option Item → Option ℕ
item_number None = None
item_number (Some i) = Some i.number

abbrev pub use_number : Option Use → Option ℕ
use_number None = None
use_number (Some u) = Some u.number

abbrev pub text_number : Option Text → Option ℕ
text_number None = None
text_number (Some t) = Some t.number

abbrev pub relocation_number : Option Relocation → Option ℕ
relocation_number None = None
relocation_number (Some r) = Some r.number

-- a refusal where there is such a card, else what follows
abbrev pub refused : (ℕ → DeckRefusal) → Option ℕ → Option DeckRefusal → Option DeckRefusal
refused r None more = more
refused r (Some n) more = Some (r n)

abbrev pub is_external : Sort → Bool
is_external External = true
is_external Section = false
is_external Private = false
is_external Label = false
is_external Weak = false

abbrev pub is_unresolved : List Item → Item → Bool
is_unresolved items i =
    is_external i.item.sort && not (is_item_found (find (defines (name_of i)) items))

abbrev pub has_no_room : ℕ → Placed → Bool
has_no_room size p = nat_lt size (p.at + p.length)

abbrev pub room_refused : Bool → Option DeckRefusal
room_refused true = Some refusal.NoRoom
room_refused false = None

abbrev pub entry_refused : Option ℕ → Option DeckRefusal → Option DeckRefusal
entry_refused None more = Some refusal.EntryOutside
entry_refused (Some e) more = more

-- the names and ESDIDs first
abbrev pub doubled_violation : Listing → Option DeckRefusal → Option DeckRefusal
doubled_violation l more =
    refused refusal.DuplicateId (item_number (first_doubled same_id [] l.items))
    (refused refusal.DuplicateName (item_number (first_doubled same_name [] l.items)) more)

unfoldable pub later_violation : ℕ → Listing → List Placed → Option DeckRefusal
later_violation size l ps =
    refused refusal.UnknownId (use_number (find (is_unknown l.items) l.uses))
    (refused refusal.TextOutside (text_number (find (is_text_outside ps) l.texts))
    (refused refusal.RldOutside (relocation_number (find (is_constant_outside ps) l.relocations))
    (entry_refused (entry ps l.entries)
    (refused refusal.Unresolved (item_number (find (is_unresolved l.items) l.items))
    (room_refused (list_any (has_no_room size) ps))))))

abbrev pub violation : ℕ → Listing → List Placed → Option DeckRefusal
violation size l ps = doubled_violation l (later_violation size l ps)

-- ---- the image

pub record Image : Type 0 where
  pub bytes : List ℕ
  pub entry : ℕ

abbrev pub or_zero : Option ℕ → ℕ
or_zero None = 0
or_zero (Some n) = n

abbrev pub unless_refused : Option DeckRefusal → Image → Result Image DeckRefusal
unless_refused (Some r) i = Err r
unless_refused None i = Ok i

abbrev pub image_of : ℕ → ℕ → Result Listing DeckRefusal → Result Image DeckRefusal
image_of origin size (Err r) = Err r
image_of origin size (Ok l) =
    let ps = places origin l in
    unless_refused (violation size l ps) (record {
      bytes = bytes_from (image_byte l ps) 0 size;
      entry = or_zero (entry ps l.entries);
    })

-- the image of a deck at an origin, in a storage of a size, or the deck's first violation
unfoldable pub image_at : ℕ → ℕ → List ℕ → Result Image DeckRefusal
image_at origin size deck_bytes = image_of origin size (listing deck_bytes)

-- the first section of a deck is loaded here
abbrev pub load_origin : ℕ
load_origin = 65536

abbrev pub image : ℕ → List ℕ → Result Image DeckRefusal
image size deck_bytes = image_at load_origin size deck_bytes
