-- The parts of a linked deck are its cards.
use Rattle.std.proofs.Common.{◌≡◌, ◌≢◌, ℕ, ◌<◌, ◌≤◌, Bool, true, false, eqb, ltb, ◌||◌, List, [], ◌∷◌, ◌++◌, length, map, get_or, refl, sym, ◌∙◌, ap, subst, arith}
use Rattle.std.specs.List.{list_any}
use Rattle.deck_model.specs.Card.{esd}
use Rattle.deck_model.specs.Deck.{Listing, is_label}
use Rattle.deck_model.specs.Image.{places, name_of, names, load_address, image_byte}
use Rattle.deck_model.specs.declared.cards.Card.{Card}
use Rattle.deck_model.specs.declared.cards.EsdItem.{EsdItem}
use Rattle.deck_model.specs.declared.cards.RldItem.{RldItem}
use Rattle.deck_model.specs.declared.decks.Item.{Item}
use Rattle.deck_model.specs.declared.decks.Placed.{Placed}
use Rattle.deck_cards.specs.RelocationCards.{rld_cards}
use Rattle.deck_cards.specs.TextCards.{Run, runs_of, text_cards}
use Rattle.deck_cards.specs.Writable.{AreWritable}
use Rattle.link_model.specs.Link.{is_far_label}
use Rattle.link_model.specs.Linked.{whole_length, one_section, label_card, name_labels, name_place, is_named, text_reaches, stands, linked_items, end_card, linked_cards}
use Rattle.link_model.proofs.Links.{Fits}
use Rattle.link_model.proofs.Fitting.{place_low, load_low, far_case}
use Rattle.link_model.proofs.WrittenCards.{linked_writable}
use Rattle.deck_link.specs.Constants.{constants_for, reached}
use Rattle.deck_link.specs.Parts.{cards_of, runs_in, PartsFit, ArePartsOf}
use Rattle.deck_link.specs.declared.parts.Parts.{Parts}
use Rattle.deck_link.proofs.Flags.{runs_same}
use Rattle.deck_link.proofs.Gathered.{same_reached}

-- ---- a label

pub label_low : (ps : List Placed) (i : Item) → whole_length ps ≤ 16711680 → is_named i ≡ true → is_far_label ps i ≡ false → name_place ps i < 16777216
label_low ps i n e f =
    let x : ℕ = load_address ps i in
    let c = far_case (is_label i.item.sort) (eqb (name_of i) 0x4040404040404040) (names i.item.sort) (ltb x 4294967296 || ltb 4311744511 x) e f in
    place_low (is_label i.item.sort) true x (whole_length ps) (omega (arith, n)) (λ z. load_low ps i (is_label i.item.sort) refl z) c

-- ---- the cards

pub flags_stand : (l : Listing) (k : ℕ) (on : Bool) → on ≡ (list_any (text_reaches (places 0 l) k) l.texts || list_any (reached k) (constants_for l.items (places 0 l) l.relocations)) → on ≡ stands l (places 0 l) k
flags_stand l k on h = h ∙ ap (λ b. list_any (text_reaches (places 0 l) k) l.texts || b) (same_reached l.items (places 0 l) k l.relocations)

runs_are : (l : Listing) (e : ℕ) (p : Parts) → ArePartsOf l e p → p.extent ≤ 16711680 → runs_in p ≡ runs_of (stands l (places 0 l)) (image_byte l (places 0 l)) (whole_length (places 0 l))
runs_are l e p a n =
    let on = stands l (places 0 l) in
    let f = image_byte l (places 0 l) in
    runs_same (λ k. get_or p.stands.items k false) on (λ k. get_or p.storage k 0) f 0 0 p.extent
    (λ k h. a.storage k (omega (arith, h, n))) (λ k h. a.flags k)
    ∙ ap (runs_of on f) a.extent

cards_from : List EsdItem → List Run → List RldItem → ℕ → ℕ → List Card
cards_from labels rs is n e = esd 1 (one_section n ∷ []) ∷ (map label_card labels ++ (text_cards 1 rs ++ rld_cards (end_card e ∷ []) [] is))

pub parts_cards : (l : Listing) (e : ℕ) (p : Parts) → ArePartsOf l e p → p.extent ≤ 16711680 → cards_of p ≡ linked_cards l e
unfolding linked_cards cards_from
parts_cards l e p a n =
    let ps = places 0 l in
    let rs = runs_of (stands l ps) (image_byte l ps) (whole_length ps) in
    let ls = name_labels ps l.items in
    let is = linked_items l.items ps l.relocations in
    ap (λ xs. cards_from xs (runs_in p) p.items.items p.extent p.entry) a.labels
    ∙ (ap (λ xs. cards_from ls xs p.items.items p.extent p.entry) (runs_are l e p a n)
    ∙ (ap (λ xs. cards_from ls rs xs p.extent p.entry) a.items
    ∙ (ap (λ x. cards_from ls rs is x p.entry) a.extent
    ∙ ap (λ x. cards_from ls rs is (whole_length ps) x) a.entry)))

-- ---- they can be written

writable_front : (cs ds : List Card) → AreWritable (cs ++ ds) → AreWritable cs
writable_front [] ds h = tt
writable_front (c ∷ cs) ds h = (h.0, h.1, writable_front cs ds h.2)

pub parts_fit : (l : Listing) (e : ℕ) (p : Parts) → Fits l e → ArePartsOf l e p → p.extent ≤ 16711680 → PartsFit p
parts_fit l e p f a t =
    let ps = places 0 l in
    let x = a.extent in
    let y = f.small in
    let z = f.inside in
    let w = a.entry in
    let named : e ≢ 0x404040 = f.named in
    let low : p.extent < 16777216 = omega (arith, x, y) in
    let long : length p.storage ≡ 16711680 = a.room in
    let all = subst AreWritable (sym (parts_cards l e p a t)) (linked_writable l e f) in
    record {
      low = low;
      text = omega (arith, t, long);
      stands = a.long;
      labels = writable_front (map label_card p.labels.items) (text_cards 1 (runs_in p) ++ rld_cards (end_card p.entry ∷ []) [] p.items.items) all.2;
      items = a.shared;
      entry = omega (arith, w, y, z);
      named = subst (λ q. q ≢ 0x404040) (sym w) named;
    }
