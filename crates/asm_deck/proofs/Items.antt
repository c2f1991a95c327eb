-- The items, texts and relocations of an assembled deck as lists, and its sections placed.
use Rattle.std.proofs.Common.{◌≡◌, ℕ, ◌+◌, ◌≤◌, ◌<◌, Bool, true, false, List, [], ◌∷◌, ◌++◌, length, Option, Some, None}
use Rattle.deck_model.specs.Deck.{Listing}
use Rattle.deck_model.specs.Image.{section, aligned}
use Rattle.deck_model.specs.declared.decks.Item.{Item}
use Rattle.deck_model.specs.declared.decks.Placed.{Placed}
use Rattle.deck_model.specs.declared.decks.Text.{Text}
use Rattle.deck_model.specs.declared.decks.Relocation.{Relocation}
use Rattle.deck_model.specs.declared.decks.Entry.{Entry}
use Rattle.deck_model.specs.declared.decks.Use.{Use}
use Rattle.deck_cards.specs.TextCards.{Run}
use Rattle.asm_model.specs.Section.{SectionBytes}
use Rattle.asm_model.specs.declared.program.Constant.{Constant}
use Rattle.asm_model.specs.declared.program.Defined.{Defined}
use Rattle.asm_deck.specs.AssembledCards.{section_item, external_item, section_runs, constant_item}

-- ---- items

abbrev pub item_for : ℕ → SectionBytes → Item
item_for id s = record { number = id; owner = 0; id = id; item = section_item s }

abbrev pub outer_for : ℕ → ℕ → Item
outer_for id m = record { number = id; owner = 0; id = id; item = external_item m }

abbrev pub section_items : ℕ → List SectionBytes → List Item
section_items id [] = []
section_items id (s ∷ ss) = item_for id s ∷ section_items (id + 1) ss

abbrev pub external_items : ℕ → List ℕ → List Item
external_items id [] = []
external_items id (m ∷ ms) = outer_for id m ∷ external_items (id + 1) ms

abbrev pub all_items : List SectionBytes → List ℕ → List Item
all_items ss ms = section_items 1 ss ++ external_items (1 + length ss) ms

-- ---- texts: the runs with the ESDIDs of their sections

pub record Piece : Type 0 where
  pub id : ℕ
  pub at : ℕ
  pub bytes : List ℕ

abbrev pub pieces : ℕ → List Run → List Piece
pieces id [] = []
pieces id (r ∷ rs) = record { id = id; at = r.at; bytes = r.bytes } ∷ pieces id rs

abbrev pub all_pieces : ℕ → List SectionBytes → List Piece
all_pieces id [] = []
all_pieces id (s ∷ ss) = pieces id (section_runs s) ++ all_pieces (id + 1) ss

abbrev pub TextsAre : List Piece → List Text → Type 0
TextsAre [] [] = Unit {0}
TextsAre [] (t ∷ ts) = ⊥
TextsAre (c ∷ cs) [] = ⊥
TextsAre (c ∷ cs) (t ∷ ts) =
    (t.owner ≡ 0) × (t.id ≡ c.id) × (t.address ≡ c.at) × (t.bytes.items ≡ c.bytes)
    × TextsAre cs ts

-- ---- relocations, entries and uses

abbrev pub ConstantsAre : List Constant → List Relocation → Type 0
ConstantsAre [] [] = Unit {0}
ConstantsAre [] (r ∷ rs) = ⊥
ConstantsAre (c ∷ cs) [] = ⊥
ConstantsAre (c ∷ cs) (r ∷ rs) =
    (r.owner ≡ 0) × (r.item ≡ constant_item c) × ConstantsAre cs rs

abbrev pub EntryIs : Option Defined → List Entry → Type 0
EntryIs None [] = Unit {0}
EntryIs None (x ∷ xs) = ⊥
EntryIs (Some d) [] = ⊥
EntryIs (Some d) (x ∷ xs) = (x.owner ≡ 0) × (x.id ≡ d.section) × (x.address ≡ d.offset)

abbrev pub UseFits : Bool → ℕ → ℕ → ℕ → Type 0
UseFits true n m id = (1 ≤ id) × (id < 1 + n + m)
UseFits false n m id = (1 ≤ id) × (id ≤ n)

abbrev pub UsesFit : ℕ → ℕ → List Use → Type 0
UsesFit n m [] = Unit {0}
UsesFit n m (u ∷ us) = (u.owner ≡ 0) × UseFits u.any n m u.id × UsesFit n m us

-- a listing of the assembled deck
pub record IsListed (ss : List SectionBytes) (ms : List ℕ) (cs : List Constant)
    (e : Option Defined) (l : Listing) : Type 0 where
  pub items : l.items ≡ all_items ss ms
  pub texts : TextsAre (all_pieces 1 ss) l.texts
  pub constants : ConstantsAre cs l.relocations
  pub entries : EntryIs e l.entries
  pub uses : UsesFit (length ss) (length ms) l.uses

-- ---- sections at their places

abbrev pub placed_one : ℕ → ℕ → SectionBytes → Placed
placed_one id from s = record { item = item_for id s; length = length s.bytes; at = aligned from }

-- the sections from an ESDID on, placed
abbrev pub placed_from : ℕ → ℕ → List SectionBytes → List Placed
placed_from id from [] = []
placed_from id from (s ∷ ss) =
    placed_one id from s ∷ placed_from (id + 1) (aligned from + length s.bytes) ss

-- the sections from an ESDID on are found one after the other
abbrev pub AreFound : List Placed → ℕ → ℕ → List SectionBytes → Type 0
AreFound ps id from [] = Unit {0}
AreFound ps id from (s ∷ ss) =
    (section ps 0 id ≡ placed_one id from s)
    × AreFound ps (id + 1) (aligned from + length s.bytes) ss
