-- Lists in answers. Source: choice of this project.
use Rattle.std.specs.Prelude.{◌≡◌, ℕ, ◌<◌, ◌≤◌, true, false, length, List, [], ◌∷◌, Option, Some, None, Result, Ok, Err}
use Rattle.arrayvec.specs.ArrayVec.{ArrayVec}
use Rattle.std.specs.List.{list_all}
use Rattle.deck_model.specs.CardWriting.{esd_item_fits, rld_item_fits, rld_size}
use Rattle.deck_model.specs.declared.cards.EsdItem.{EsdItem}
use Rattle.deck_model.specs.declared.cards.RawItem.{RawItem}
use Rattle.deck_model.specs.declared.cards.RldItem.{RldItem}

abbrev pub listed : {A : Type 0} → Result (ArrayVec A) ℕ → Result (List A) ℕ
listed (Ok v) = Ok v.items
listed (Err s) = Err s

abbrev pub raws_listed : Option (ArrayVec RawItem) → Option (List RawItem)
raws_listed (Some v) = Some v.items
raws_listed None = None

-- what the type of the pointers says
abbrev pub PointersFit : List RldItem → Type 0
PointersFit [] = Unit {0}
PointersFit (i ∷ is) = (i.target < 65536) × (i.place < 65536) × PointersFit is

-- items that a card can have
pub record EsdFit (items : List EsdItem) : Type 0 where
  pub some : 0 < length items
  pub each : list_all esd_item_fits items ≡ true

-- relocations that fill at most so many bytes
pub record RldFit (size : ℕ) (items : List RldItem) : Type 0 where
  pub some : 0 < length items
  pub each : list_all rld_item_fits items ≡ true
  pub filled : rld_size false items ≤ size
