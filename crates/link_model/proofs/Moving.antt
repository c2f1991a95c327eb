-- A deck's sections and constants by their places above the origin.
use Rattle.std.proofs.Common.{◌≡◌, ℕ, ◌+◌, ◌≤◌, Bool, true, false, List, [], ◌∷◌, map, reverse}
use Rattle.std.specs.List.{find}
use Rattle.deck_model.specs.Deck.{Listing, is_label}
use Rattle.deck_model.specs.Image.{has_id, is_section_found, constant_at, value}
use Rattle.deck_model.specs.declared.decks.Item.{Item}
use Rattle.deck_model.specs.declared.decks.Placed.{Placed}
use Rattle.deck_model.specs.declared.decks.Relocation.{Relocation}
use Rattle.deck_loader.specs.Listed.{TextsKnown}
use Rattle.link_model.specs.Linked.{moves}
use Rattle.link_model.proofs.Relative.{Relative}

-- a section at its place above another origin
abbrev pub moved : ℕ → Placed → Placed
moved o p = record p { at = o + p.at }

abbrev pub relative : List Item → List Placed → Relocation → Relative
relative items ps r = record {
  at = constant_at ps r;
  width = r.item.width;
  minus = r.item.minus;
  v_type = r.item.v_type;
  value = value items ps r;
  moves = moves items r;
}

-- the relocations of a deck, the last first
abbrev pub relatives : Listing → List Placed → List Relative
relatives l ps = map (relative l.items ps) (reverse l.relocations)

-- ---- what an accepted deck is known for

-- the section of each constant is an item
abbrev pub ConstantsKnown : List Item → List Relocation → Type 0
ConstantsKnown items [] = Unit {0}
ConstantsKnown items (r ∷ rs) = (is_section_found (find (has_id r.owner r.item.place) items) ≡ true) × ConstantsKnown items rs

abbrev pub LabelKnown : List Item → Bool → Item → Type 0
LabelKnown items true i = is_section_found (find (has_id i.owner i.item.extent) items) ≡ true
LabelKnown items false i = Unit {0}

abbrev pub LabelsKnown : List Item → List Item → Type 0
LabelsKnown items [] = Unit {0}
LabelsKnown items (i ∷ is) = LabelKnown items (is_label i.item.sort) i × LabelsKnown items is

-- the section of each label is an item, and no address passes 2^32
abbrev pub ItemsKnown : List Item → List Item → Type 0
ItemsKnown items [] = Unit {0}
ItemsKnown items (i ∷ is) = LabelKnown items (is_label i.item.sort) i × (i.item.address ≤ 4294967296) × ItemsKnown items is

pub record Known (l : Listing) : Type 0 where
  pub texts : TextsKnown l.items l.texts
  pub constants : ConstantsKnown l.items l.relocations
  pub items : ItemsKnown l.items l.items
