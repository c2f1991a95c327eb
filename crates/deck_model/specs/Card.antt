-- A card of a deck: its 80 bytes, by columns, and what they say. Places count from 0, so column 1
-- is place 0.
-- Source: IBM object deck layout (ESD, TXT, RLD and END cards). Which sorts and types are refused,
-- and the order of the refusals, are choices of this project.
use Rattle.std.specs.Prelude.{ℕ, zero, suc, ◌+◌, ◌/◌, ◌%◌, Bool, false, ◌||◌, ◌==◌, not, nat_lt, if◌then◌else◌, List, [], ◌∷◌, ◌++◌, length, take, drop, slice_index, Option, Some, None, Result, Ok, Err}
use Rattle.byteorder.specs.Endian.{big_number}
use Rattle.deck_model.specs.declared.cards.Card.{Card}
use Rattle.deck_model.specs.declared.cards.Card.TheVariants.{Esd, Txt, Rld, End, Sym}
use Rattle.deck_model.specs.declared.cards.Sort.{Sort}
use Rattle.deck_model.specs.declared.cards.Sort.TheVariants.{Section, Private, Label, External, Weak}
use Rattle.deck_model.specs.declared.cards.EsdItem.{EsdItem}
use Rattle.deck_model.specs.declared.cards.RldItem.{RldItem}
use Rattle.deck_model.specs.declared.cards.RawItem.{RawItem}
use Rattle.deck_model.specs.declared.cards.CardRefusal.{CardRefusal}
use Rattle.deck_model.specs.declared.cards.CardRefusal.TheVariants.{BadFirstByte, UnknownCard, BadCount, Unsupported}
use Rattle.deck_model.specs.declared.cards.Kind.TheVariants.{Xsd, RldSort, EsdItem as EsdSort}

abbrev pub esd : ℕ → List EsdItem → Card
esd id items = Esd (record { first_id = id; items = record { items = items } })

abbrev pub txt : ℕ → ℕ → List ℕ → Card
txt id address bytes = Txt (record { id = id; address = address; bytes = record { items = bytes } })

abbrev pub rld : List RldItem → Card
rld items = Rld (record { items = record { items = items } })

-- the number in n bytes from a place
abbrev pub number_at : ℕ → ℕ → List ℕ → ℕ
number_at n at bytes = big_number n (drop at bytes)

-- bytes written over others from a place
unfoldable pub put : ℕ → List ℕ → List ℕ → List ℕ
put at bytes onto = take at onto ++ (bytes ++ drop (at + length bytes) onto)

-- ---- ESD

abbrev pub sort_of : ℕ → Option Sort
sort_of b =
    if b == 0 then Some Section
    else (if b == 1 then Some Label
    else (if b == 2 then Some External
    else (if b == 4 then Some Private
    else (if b == 10 then Some Weak
    else None))))

abbrev pub sort_code : Sort → ℕ
sort_code Section = 0
sort_code Private = 4
sort_code Label = 1
sort_code External = 2
sort_code Weak = 10

-- the fields after the sort: not read of an ER or WX, and of an LD only the last two bytes of the
-- extent
abbrev pub address_read : Sort → List ℕ → ℕ
address_read Section bytes = number_at 3 9 bytes
address_read Private bytes = number_at 3 9 bytes
address_read Label bytes = number_at 3 9 bytes
address_read External bytes = 0
address_read Weak bytes = 0

abbrev pub extent_read : Sort → List ℕ → ℕ
extent_read Section bytes = number_at 3 13 bytes
extent_read Private bytes = number_at 3 13 bytes
extent_read Label bytes = number_at 2 14 bytes
extent_read External bytes = 0
extent_read Weak bytes = 0

abbrev pub item_with : List ℕ → Sort → EsdItem
item_with bytes s = record {
  name = take 8 bytes;
  sort = s;
  address = address_read s bytes;
  extent = extent_read s bytes;
}

-- one item, or the sort that is none
abbrev pub esd_item_sorted : List ℕ → Option Sort → Result EsdItem ℕ
esd_item_sorted bytes None = Err (slice_index bytes 8)
esd_item_sorted bytes (Some s) = Ok (item_with bytes s)

unfoldable pub esd_item : List ℕ → Result EsdItem ℕ
esd_item bytes = esd_item_sorted bytes (sort_of (slice_index bytes 8))

abbrev pub esd_next : List EsdItem → Result EsdItem ℕ →
    (List EsdItem → Result (List EsdItem) ℕ) → Result (List EsdItem) ℕ
esd_next earlier (Err s) rest = Err s
esd_next earlier (Ok i) rest = rest (earlier ++ i ∷ [])

-- n items after earlier ones
abbrev pub esd_items : ℕ → List EsdItem → List ℕ → Result (List EsdItem) ℕ
esd_items zero earlier bytes = Ok earlier
esd_items (suc n) earlier bytes =
    esd_next earlier (esd_item bytes) (λ items. esd_items n items (drop 16 bytes))

abbrev pub esd_card : ℕ → Result (List EsdItem) ℕ → Result Card CardRefusal
esd_card id (Err s) = Err (Unsupported (EsdSort s))
esd_card id (Ok items) = Ok (esd id items)

unfoldable pub esd_of : List ℕ → Result Card CardRefusal
esd_of bytes =
    let count = number_at 2 10 bytes in
    if (count == 16) || ((count == 32) || (count == 48))
    then esd_card (number_at 2 14 bytes) (esd_items (count / 16) [] (drop 16 bytes))
    else Err BadCount

-- ---- TXT

unfoldable pub txt_of : List ℕ → Result Card CardRefusal
txt_of bytes =
    let count = number_at 2 10 bytes in
    if (count == 0) || nat_lt 56 count then Err BadCount
    else Ok (txt (number_at 2 14 bytes) (number_at 3 5 bytes) (take count (drop 16 bytes)))

-- ---- RLD

-- an item as it stands: its pointers, its flag and its address
abbrev pub whole_item : List ℕ → RawItem
whole_item bytes = record {
  target = number_at 2 0 bytes;
  place = number_at 2 2 bytes;
  flag = slice_index bytes 4;
  address = number_at 3 5 bytes;
}

-- an item without pointers, which are those of the one before
abbrev pub short_item : RawItem → List ℕ → RawItem
short_item before bytes =
    record before { flag = slice_index bytes 0; address = number_at 3 1 bytes }

-- the next item omits its pointers
abbrev pub omits_next : RawItem → Bool
omits_next i = i.flag % 2 == 1

abbrev pub sort_bits : RawItem → ℕ
sort_bits i = i.flag / 16

abbrev pub rld_item : RawItem → RldItem
rld_item i = record {
  target = i.target;
  place = i.place;
  v_type = i.flag / 16 == 1;
  width = i.flag / 4 % 4 + 1;
  minus = i.flag / 2 % 2 == 1;
  address = i.address;
}

-- the item that begins the bytes, or None where they are too few
abbrev pub raw_item : Bool → RawItem → List ℕ → Option RawItem
raw_item omits before bytes =
    if nat_lt (length bytes) (if omits then 4 else 8) then None
    else Some (if omits then short_item before bytes else whole_item bytes)

abbrev pub raw_next : List RawItem → Option RawItem →
    (List RawItem → Bool → RawItem → Option (List RawItem)) → Option (List RawItem)
raw_next earlier None rest = None
raw_next earlier (Some i) rest = rest (earlier ++ i ∷ []) (omits_next i) i

-- the items that fill the bytes, n at most, after earlier ones, or None where none do
abbrev pub raw_items : ℕ → List RawItem → Bool → RawItem → List ℕ → Option (List RawItem)
raw_items zero earlier omits before bytes = if length bytes == 0 then Some earlier else None
raw_items (suc n) earlier omits before bytes =
    if length bytes == 0 then Some earlier
    else raw_next earlier (raw_item omits before bytes)
    (λ items o i. raw_items n items o i (drop (if omits then 4 else 8) bytes))

abbrev pub no_item : RawItem
no_item = record { target = 0; place = 0; flag = 0; address = 0 }

-- a card has room for 13
unfoldable pub rld_raws : List ℕ → Option (List RawItem)
rld_raws bytes = raw_items 13 [] false no_item bytes

-- the items, or the first sort that is none
abbrev pub rld_items : List RldItem → List RawItem → Result (List RldItem) ℕ
rld_items earlier [] = Ok earlier
rld_items earlier (i ∷ is) =
    if nat_lt 1 (sort_bits i) then Err (sort_bits i) else rld_items (earlier ++ rld_item i ∷ []) is

abbrev pub rld_card : Result (List RldItem) ℕ → Result Card CardRefusal
rld_card (Err s) = Err (Unsupported (RldSort s))
rld_card (Ok items) = Ok (rld items)

abbrev pub rld_filled : Option (List RawItem) → Result Card CardRefusal
rld_filled None = Err BadCount
rld_filled (Some items) = rld_card (rld_items [] items)

unfoldable pub rld_of : List ℕ → Result Card CardRefusal
rld_of bytes =
    let count = number_at 2 10 bytes in
    if nat_lt count 8 || nat_lt 56 count then Err BadCount
    else rld_filled (rld_raws (take count (drop 16 bytes)))

-- ---- END

-- three blanks name no entry
abbrev pub blank_address : ℕ
blank_address = 0x404040

unfoldable pub end_of : List ℕ → Card
end_of bytes =
    if number_at 3 5 bytes == blank_address then End None
    else End (Some (record { address = number_at 3 5 bytes; id = number_at 2 14 bytes }))

-- ---- a card

unfoldable pub card_of : List ℕ → Result Card CardRefusal
card_of bytes =
    let kind = number_at 3 1 bytes in
    if not (slice_index bytes 0 == 2) then Err BadFirstByte
    else (if kind == 0xC5E2C4 then esd_of bytes
    else (if kind == 0xE3E7E3 then txt_of bytes
    else (if kind == 0xD9D3C4 then rld_of bytes
    else (if kind == 0xC5D5C4 then Ok (end_of bytes)
    else (if kind == 0xE2E8D4 then Ok Sym
    else (if kind == 0xE7E2C4 then Err (Unsupported Xsd)
    else Err UnknownCard))))))
