-- What the lists of the linked deck are, and what a deck is that can be linked.
use Rattle.std.proofs.Common.{◌≡◌, ◌≢◌, ℕ, ◌+◌, ◌<◌, Bool, true, false, cond, eqb, IsTrue, List, [], ◌∷◌, length, map, Some, None, refl, ap}
use Rattle.std.specs.List.{find, filter}
use Rattle.deck_model.specs.CardWriting.{esd_item_fits}
use Rattle.deck_model.specs.Deck.{Listing}
use Rattle.deck_model.specs.Image.{first_doubled, same_id, same_name, is_unknown, is_text_outside, is_constant_outside, is_unresolved, places, image_byte, entry, later_violation}
use Rattle.deck_model.specs.Linking.{first_clash}
use Rattle.deck_model.specs.declared.cards.EsdItem.{EsdItem}
use Rattle.deck_model.specs.declared.cards.RldItem.{RldItem}
use Rattle.deck_model.specs.declared.decks.Item.{Item}
use Rattle.deck_model.specs.declared.decks.Placed.{Placed}
use Rattle.deck_model.specs.declared.decks.Text.{Text}
use Rattle.deck_model.specs.declared.decks.Relocation.{Relocation}
use Rattle.deck_model.specs.declared.decks.Entry.{Entry}
use Rattle.deck_model.specs.declared.decks.Use.{Use}
use Rattle.deck_cards.specs.TextCards.{Run, runs_of}
use Rattle.deck_loader.specs.Listed.{TextsAreUsed, ItemsTyped, WidthsFit as ReadWidthsFit}
use Rattle.deck_loader.specs.Written.{AreInside, ConstantsAreInside}
use Rattle.link_model.specs.Linked.{whole_length, one_section, is_named, label_of, name_labels, stands, moves, linked_item, linked_items}
use Rattle.link_model.specs.Link.{is_far_label}
use Rattle.link_model.proofs.Relative.{Relative, Apart, WidthsFit, by_origin, kept}
use Rattle.link_model.proofs.Moving.{relative, relatives, ConstantsKnown, LabelsKnown, Known}

-- ---- the linked deck

abbrev pub first_item : ℕ → Item
first_item n = record { number = 1; owner = 0; id = 1; item = one_section n }

abbrev pub labels : List Placed → List Item → List EsdItem
labels ps [] = []
labels ps (i ∷ is) = cond (is_named i) (label_of ps i ∷ labels ps is) (labels ps is)

map_labels : (b : Bool) (ps : List Placed) (i : Item) (is : List Item) → map (label_of ps) (filter is_named is) ≡ labels ps is → map (label_of ps) (cond b (i ∷ filter is_named is) (filter is_named is)) ≡ cond b (label_of ps i ∷ labels ps is) (labels ps is)
map_labels true ps i is h = ap (λ es. label_of ps i ∷ es) h
map_labels false ps i is h = h

pub labels_are : (ps : List Placed) (is : List Item) → name_labels ps is ≡ labels ps is
labels_are ps [] = refl
labels_are ps (i ∷ is) = map_labels (is_named i) ps i is (labels_are ps is)

abbrev pub constant_item : Relative → RldItem
constant_item r = record { target = 1; place = 1; v_type = r.v_type; width = r.width; minus = r.minus; address = r.at }

map_items : (b : Bool) (items : List Item) (ps : List Placed) (r : Relocation) (rs : List Relocation) → map (linked_item ps) (filter (moves items) rs) ≡ map constant_item (kept (map (relative items ps) rs)) → map (linked_item ps) (cond b (r ∷ filter (moves items) rs) (filter (moves items) rs)) ≡ map constant_item (cond b (by_origin (relative items ps r) ∷ kept (map (relative items ps) rs)) (kept (map (relative items ps) rs)))
map_items true items ps r rs h = ap (λ is. linked_item ps r ∷ is) h
map_items false items ps r rs h = h

pub items_are : (items : List Item) (ps : List Placed) (rs : List Relocation) → linked_items items ps rs ≡ map constant_item (kept (map (relative items ps) rs))
items_are items ps [] = refl
items_are items ps (r ∷ rs) = map_items (moves items r) items ps r rs (items_are items ps rs)

abbrev pub constants_of : Listing → List Relative
constants_of l = kept (map (relative l.items (places 0 l)) l.relocations)

abbrev pub linked_runs : Listing → List Run
linked_runs l = runs_of (stands l (places 0 l)) (image_byte l (places 0 l)) (whole_length (places 0 l))

-- ---- a listing of it

-- the items are those of cards of module 0
abbrev pub LabelsAre : List EsdItem → List Item → Type 0
LabelsAre [] [] = Unit {0}
LabelsAre [] (j ∷ js) = ⊥
LabelsAre (e ∷ es) [] = ⊥
LabelsAre (e ∷ es) (j ∷ js) = (j.item ≡ e) × (j.owner ≡ 0) × LabelsAre es js

abbrev pub TextsAre : List Run → List Text → Type 0
TextsAre [] [] = Unit {0}
TextsAre [] (t ∷ ts) = ⊥
TextsAre (r ∷ rs) [] = ⊥
TextsAre (r ∷ rs) (t ∷ ts) = (t.owner ≡ 0) × (t.id ≡ 1) × (t.address ≡ r.at) × (t.bytes.items ≡ r.bytes) × TextsAre rs ts

abbrev pub ConstantsAre : List Relative → List Relocation → Type 0
ConstantsAre [] [] = Unit {0}
ConstantsAre [] (s ∷ ss) = ⊥
ConstantsAre (r ∷ rs) [] = ⊥
ConstantsAre (r ∷ rs) (s ∷ ss) = (s.owner ≡ 0) × (s.item ≡ constant_item r) × ConstantsAre rs ss

abbrev pub UsesAre : List Use → Type 0
UsesAre [] = Unit {0}
UsesAre (u ∷ us) = (u.owner ≡ 0) × (u.id ≡ 1) × UsesAre us

abbrev pub EntryIs : ℕ → List Entry → Type 0
EntryIs e [] = ⊥
EntryIs e (x ∷ xs) = (x.owner ≡ 0) × (x.id ≡ 1) × (x.address ≡ e)

abbrev pub LaterItems : List EsdItem → ℕ → List Item → Type 0
LaterItems es n [] = ⊥
LaterItems es n (i ∷ is) = (i ≡ first_item n) × LabelsAre es is

pub record Links (l : Listing) (k : Listing) (e : ℕ) : Type 0 where
  pub items : LaterItems (labels (places 0 l) l.items) (whole_length (places 0 l)) k.items
  pub texts : TextsAre (linked_runs l) k.texts
  pub constants : ConstantsAre (constants_of l) k.relocations
  pub entries : EntryIs e k.entries
  pub uses : UsesAre k.uses

-- ---- a deck that can be linked

-- it is known, and its constants do not clash
abbrev pub Linkable : Listing → Type 0
Linkable l = Known l × Apart (relatives l (places 0 l)) × WidthsFit (relatives l (places 0 l)) × AreInside (places 0 l) (whole_length (places 0 l)) l.texts × ConstantsAreInside (places 0 l) (whole_length (places 0 l)) l.relocations × (0 < whole_length (places 0 l))

-- it has no violation, and its entry is so far above the first section
pub record Fine (l : Listing) (e : ℕ) : Type 0 where
  pub ids : first_doubled same_id [] l.items ≡ None
  pub names : first_doubled same_name [] l.items ≡ None
  pub known : find (is_unknown l.items) l.uses ≡ None
  pub texts : find (is_text_outside (places 0 l)) l.texts ≡ None
  pub constants : find (is_constant_outside (places 0 l)) l.relocations ≡ None
  pub entry : entry (places 0 l) l.entries ≡ Some e
  pub resolved : find (is_unresolved l.items) l.items ≡ None

abbrev pub LabelsFit : List EsdItem → Type 0
LabelsFit [] = Unit {0}
LabelsFit (i ∷ is) = (length i.name ≡ 8) × IsTrue (esd_item_fits i) × LabelsFit is

-- the cards of its linked deck can be written
pub record Fits (l : Listing) (e : ℕ) : Type 0 where
  pub linkable : Linkable l
  pub fine : Fine l e
  pub inside : e < whole_length (places 0 l)
  pub small : whole_length (places 0 l) < 16777216
  pub named : e ≢ 0x404040
  pub labels : LabelsFit (labels (places 0 l) l.items)

-- ---- an accepted deck that nothing refuses

-- the sections of constants and of labels are among the uses
abbrev pub ConstantsAreUsed : Listing → Type 0
ConstantsAreUsed l = (items : List Item) → find (is_unknown items) l.uses ≡ None → ConstantsKnown items l.relocations

abbrev pub LabelsAreUsed : Listing → Type 0
LabelsAreUsed l = (items : List Item) → find (is_unknown items) l.uses ≡ None → LabelsKnown items l.items

pub record Taken (l : Listing) (e : ℕ) : Type 0 where
  pub texts : TextsAreUsed l
  pub constants : ConstantsAreUsed l
  pub items : LabelsAreUsed l
  pub typed : ItemsTyped l.items
  pub widths : ReadWidthsFit l.relocations
  pub ids : first_doubled same_id [] l.items ≡ None
  pub names : first_doubled same_name [] l.items ≡ None
  pub accepted : later_violation 16711680 l (places 0 l) ≡ None
  pub clash : first_clash (places 0 l) [] l.relocations ≡ None
  pub labels : find (is_far_label (places 0 l)) l.items ≡ None
  pub entry : entry (places 0 l) l.entries ≡ Some e
  pub named : eqb e 0x404040 ≡ false
