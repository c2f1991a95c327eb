-- Which cards can be written, and their bytes.
-- Source: IBM object deck layout; that columns which no type names are blank is a choice of this
-- project.
use Rattle.std.specs.Prelude.{ℕ, ◌+◌, ◌-◌, ◌*◌, Bool, true, false, ◌&&◌, ◌==◌, not, nat_lt, nat_le, if◌then◌else◌, List, [], ◌∷◌, ◌++◌, length, replicate, Option, Some, None}
use Rattle.std.specs.List.{flat_map, list_all}
use Rattle.byteorder.specs.Endian.{big_bytes}
use Rattle.deck_model.specs.Card.{put, sort_code, blank_address}
use Rattle.deck_model.specs.declared.cards.Card.{Card}
use Rattle.deck_model.specs.declared.cards.Card.TheVariants.{Esd, Txt, Rld, End, Sym}
use Rattle.deck_model.specs.declared.cards.Sort.{Sort}
use Rattle.deck_model.specs.declared.cards.Sort.TheVariants.{Section, Private, Label, External, Weak}
use Rattle.deck_model.specs.declared.cards.EsdItem.{EsdItem}
use Rattle.deck_model.specs.declared.cards.RldItem.{RldItem}
use Rattle.deck_model.specs.declared.cards.EntryPoint.{EntryPoint}

-- ---- which fit

abbrev pub fits_24 : ℕ → Bool
fits_24 n = nat_lt n 16777216

abbrev pub extents_fit : Sort → ℕ → ℕ → Bool
extents_fit Section address extent = fits_24 address && fits_24 extent
extents_fit Private address extent = fits_24 address && fits_24 extent
extents_fit Label address extent = fits_24 address && nat_lt extent 65536
extents_fit External address extent = (address == 0) && (extent == 0)
extents_fit Weak address extent = (address == 0) && (extent == 0)

abbrev pub esd_item_fits : EsdItem → Bool
esd_item_fits i = extents_fit i.sort i.address i.extent

abbrev pub rld_item_fits : RldItem → Bool
rld_item_fits i = fits_24 i.address && (nat_le 1 i.width && nat_le i.width 4)

abbrev pub same_pointers : RldItem → RldItem → Bool
same_pointers a b = (b.target == a.target) && (b.place == a.place)

-- the next item has the same pointers
abbrev pub next_same : RldItem → List RldItem → Bool
next_same i [] = false
next_same i (j ∷ js) = same_pointers i j

-- the bytes that the items fill, the first of which may omit its pointers
abbrev pub rld_size : Bool → List RldItem → ℕ
rld_size omits [] = 0
rld_size omits (i ∷ is) = (if omits then 4 else 8) + rld_size (next_same i is) is

abbrev pub entry_fits : Option EntryPoint → Bool
entry_fits None = true
entry_fits (Some e) = fits_24 e.address && not (e.address == blank_address)

abbrev pub card_fits : Card → Bool
card_fits (Esd c) = nat_lt 0 (length c.items.items) && list_all esd_item_fits c.items.items
card_fits (Txt c) = nat_lt 0 (length c.bytes.items) && fits_24 c.address
card_fits (Rld c) =
    nat_lt 0 (length c.items.items)
    && (list_all rld_item_fits c.items.items && nat_le (rld_size false c.items.items) 56)
card_fits (End e) = entry_fits e
card_fits Sym = true

-- ---- their bytes

-- a card of a type, blank but for its first four columns and its identification
unfoldable pub blank_card : ℕ → List ℕ → List ℕ
blank_card kind sequence =
    put 72 sequence (put 1 (big_bytes 3 kind) (put 0 (2 ∷ []) (replicate 80 64)))

-- with the count and the data
unfoldable pub with_data : List ℕ → List ℕ → List ℕ
with_data bytes card = put 16 bytes (put 10 (big_bytes 2 (length bytes)) card)

unfoldable pub esd_item_bytes : EsdItem → List ℕ
esd_item_bytes i =
    put 13 (big_bytes 3 i.extent)
    (put 9 (big_bytes 3 i.address) (put 8 (sort_code i.sort ∷ []) (put 0 i.name (replicate 16 64))))

abbrev pub flag_of : Bool → RldItem → ℕ
flag_of omits i =
    (if i.v_type then 16 else 0)
    + ((i.width - 1) * 4 + ((if i.minus then 2 else 0) + (if omits then 1 else 0)))

abbrev pub pointer_bytes : Bool → RldItem → List ℕ
pointer_bytes omits i = if omits then [] else big_bytes 2 i.target ++ big_bytes 2 i.place

abbrev pub rld_bytes : Bool → List RldItem → List ℕ
rld_bytes omits [] = []
rld_bytes omits (i ∷ is) =
    pointer_bytes omits i
    ++ (flag_of (next_same i is) i ∷ (big_bytes 3 i.address ++ rld_bytes (next_same i is) is))

unfoldable pub esd_bytes : ℕ → List EsdItem → List ℕ → List ℕ
esd_bytes id items sequence =
    with_data (flat_map esd_item_bytes items)
    (put 14 (big_bytes 2 id) (blank_card 0xC5E2C4 sequence))

unfoldable pub txt_bytes : ℕ → ℕ → List ℕ → List ℕ → List ℕ
txt_bytes id address bytes sequence =
    with_data bytes
    (put 14 (big_bytes 2 id) (put 5 (big_bytes 3 address) (blank_card 0xE3E7E3 sequence)))

unfoldable pub rld_card_bytes : List RldItem → List ℕ → List ℕ
rld_card_bytes items sequence = with_data (rld_bytes false items) (blank_card 0xD9D3C4 sequence)

unfoldable pub end_bytes : Option EntryPoint → List ℕ → List ℕ
end_bytes None sequence = blank_card 0xC5D5C4 sequence
end_bytes (Some e) sequence =
    put 14 (big_bytes 2 e.id) (put 5 (big_bytes 3 e.address) (blank_card 0xC5D5C4 sequence))

abbrev pub card_bytes : Card → List ℕ → List ℕ
card_bytes (Esd c) sequence = esd_bytes c.first_id c.items.items sequence
card_bytes (Txt c) sequence = txt_bytes c.id c.address c.bytes.items sequence
card_bytes (Rld c) sequence = rld_card_bytes c.items.items sequence
card_bytes (End e) sequence = end_bytes e sequence
card_bytes Sym sequence = blank_card 0xE2E8D4 sequence
