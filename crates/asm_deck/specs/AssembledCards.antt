-- The cards of an assembled program: one ESD card for each section and then for each different
-- external name, with ESDIDs from 1; the text of each section; one RLD card for each constant; END.
-- Source: choice of this project.
use Rattle.std.specs.Prelude.{ℕ, ◌+◌, Bool, true, false, List, [], ◌∷◌, ◌++◌, length, slice_index, Option, Some, None}
use Rattle.byteorder.specs.Endian.{big_bytes}
use Rattle.deck_model.specs.Card.{esd, rld}
use Rattle.deck_model.specs.declared.cards.Card.{Card}
use Rattle.deck_model.specs.declared.cards.Card.TheVariants.{End}
use Rattle.deck_model.specs.declared.cards.EsdItem.{EsdItem}
use Rattle.deck_model.specs.declared.cards.RldItem.{RldItem}
use Rattle.deck_model.specs.declared.cards.Sort.TheVariants.{Section, External}
use Rattle.deck_cards.specs.TextCards.{Run, runs_of, text_cards}
use Rattle.asm_model.specs.Section.{SectionBytes}
use Rattle.asm_model.specs.declared.program.Constant.{Constant}
use Rattle.asm_model.specs.declared.program.Defined.{Defined}

-- ---- sections and external names

abbrev pub section_item : SectionBytes → EsdItem
section_item s = record {
  name = big_bytes 8 s.name;
  sort = Section;
  address = 0;
  extent = length s.bytes;
}

abbrev pub external_item : ℕ → EsdItem
external_item name = record {
  name = big_bytes 8 name;
  sort = External;
  address = 0;
  extent = 0;
}

-- a card each, from an ESDID on
abbrev pub section_cards : ℕ → List SectionBytes → List Card
section_cards id [] = []
section_cards id (s ∷ ss) = esd id (section_item s ∷ []) ∷ section_cards (id + 1) ss

abbrev pub external_cards : ℕ → List ℕ → List Card
external_cards id [] = []
external_cards id (m ∷ ms) = esd id (external_item m ∷ []) ∷ external_cards (id + 1) ms

-- ---- text

abbrev pub everywhere : ℕ → Bool
everywhere a = true

-- the whole section in pieces of 56 bytes, the last one shorter
abbrev pub section_runs : SectionBytes → List Run
section_runs s = runs_of everywhere (slice_index s.bytes) (length s.bytes)

abbrev pub section_texts : ℕ → List SectionBytes → List Card
section_texts id [] = []
section_texts id (s ∷ ss) = text_cards id (section_runs s) ++ section_texts (id + 1) ss

-- ---- constants, and the end

abbrev pub constant_item : Constant → RldItem
constant_item c = record {
  target = c.target;
  place = c.section;
  v_type = c.external;
  width = 4;
  minus = false;
  address = c.offset;
}

abbrev pub constant_cards : List Constant → List Card
constant_cards [] = []
constant_cards (c ∷ cs) = rld (constant_item c ∷ []) ∷ constant_cards cs

abbrev pub end_card : Option Defined → Card
end_card None = End None
end_card (Some d) = End (Some (record { address = d.offset; id = d.section }))

-- ---- all

abbrev pub assembled_cards :
    List SectionBytes → List ℕ → List Constant → Option Defined → List Card
assembled_cards sections externals constants entry =
    section_cards 1 sections
    ++ (external_cards (1 + length sections) externals
    ++ (section_texts 1 sections ++ (constant_cards constants ++ end_card entry ∷ [])))
