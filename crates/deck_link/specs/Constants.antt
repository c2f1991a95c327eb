-- The relocated constants of a deck by their places in the one section.
-- Source: choice of this project.
use Rattle.std.specs.Prelude.{ℕ, ◌+◌, ◌≤◌, Bool, List, [], ◌∷◌, map}
use Rattle.std.specs.List.{filter}
use Rattle.deck_model.specs.Image.{constant_at}
use Rattle.deck_model.specs.declared.cards.RldItem.{RldItem}
use Rattle.deck_model.specs.declared.decks.Item.{Item}
use Rattle.deck_model.specs.declared.decks.Placed.{Placed}
use Rattle.deck_model.specs.declared.decks.Relocation.{Relocation}
use Rattle.deck_cards.specs.TextCards.{reaches}
use Rattle.link_model.specs.Linked.{moves}
use Rattle.deck_link.specs.declared.constants.Constant.{Constant}

abbrev pub constant_for : List Item → List Placed → Relocation → Constant
constant_for items ps r = record {
  number = r.number;
  at = constant_at ps r;
  width = r.item.width;
  v_type = r.item.v_type;
  minus = r.item.minus;
  moves = moves items r;
}

abbrev pub constants_for : List Item → List Placed → List Relocation → List Constant
constants_for items ps rs = map (constant_for items ps) rs

-- each has a width and lies inside n bytes
abbrev pub ConstantsIn : ℕ → List Constant → Type 0
ConstantsIn n [] = Unit {0}
ConstantsIn n (c ∷ cs) =
    (1 ≤ c.width) × (c.width ≤ 4) × (c.at + c.width ≤ n) × ConstantsIn n cs

-- the relocation of a constant by the one section
abbrev pub constant_item : Constant → RldItem
constant_item c = record {
  target = 1;
  place = 1;
  v_type = c.v_type;
  width = c.width;
  minus = c.minus;
  address = c.at;
}

abbrev pub is_moving : Constant → Bool
is_moving c = c.moves

-- the constant has the byte
abbrev pub reached : ℕ → Constant → Bool
reached a c = reaches c.at c.width a

abbrev pub constant_items : List Constant → List RldItem
constant_items cs = map constant_item (filter is_moving cs)
