-- Maps that say where items and sections stand, and where the text of a section ends.
-- Source: choice of this project.
use Rattle.std.specs.Prelude.{◌≡◌, ℕ, ◌+◌, ◌<◌, ◌≤◌, ◌^◌, ◌==◌, max, length, if◌then◌else◌, List, [], ◌∷◌, map, All}
use Rattle.std.specs.BTreeMap.{get}
use Rattle.std.specs.declared.collections.BTreeMap.{BTreeMap}
use Rattle.std.specs.declared.alloc.Global.{Global}
use Rattle.std.specs.Ordering.{nat_cmp}
use Rattle.deck_model.specs.Image.{or_zero}
use Rattle.deck_model.specs.declared.decks.Item.{Item}
use Rattle.deck_model.specs.declared.decks.Placed.{Placed}
use Rattle.deck_model.specs.declared.decks.Text.{Text}
use Rattle.deck_loader.specs.Keys.{item_key, Places}
use Rattle.deck_loader.specs.ItemKeys.{id_key, name_key, placed_key}

pub record IndexesIds (items : List Item) (m : BTreeMap ℕ ℕ Global) : Type 0 where
  pub at : Places (map id_key items) m
  pub small : All (λ (i : Item). i.id < 4294967296) items

pub record IndexesNames (items : List Item) (m : BTreeMap ℕ ℕ Global) : Type 0 where
  pub at : Places (map name_key items) m

pub record IndexesSections (placed : List Placed) (m : BTreeMap ℕ ℕ Global) : Type 0 where
  pub at : Places (map placed_key placed) m
  pub small : All (λ (p : Placed). p.item.id < 4294967296) placed
  pub low : All (λ (p : Placed). p.at < 2 ^ 63) placed

-- the address after the farthest text byte under a key
abbrev pub last_end : ℕ → List Text → ℕ
last_end q [] = 0
last_end q (t ∷ ts) =
    max (if item_key t.owner t.id == q then t.address + length t.bytes.items else 0) (last_end q ts)

-- the map has it for each key
pub record KeepsEnds (texts : List Text) (m : BTreeMap ℕ ℕ Global) : Type 0 where
  pub at : (q : ℕ) → or_zero (get nat_cmp m q) ≡ last_end q texts
  pub small : All (λ (t : Text). t.id < 4294967296) texts
  pub low : (q : ℕ) → or_zero (get nat_cmp m q) ≤ 8589934592
