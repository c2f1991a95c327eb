-- A deck that nothing refuses fits.
use Rattle.std.proofs.Common.{◌≡◌, ◌≢◌, ℕ, zero, suc, ◌+◌, ◌-◌, ◌*◌, ◌<◌, ◌≤◌, max, Bool, true, false, cond, not, eqb, ltb, leb, ◌&&◌, ◌||◌, IsTrue, List, [], ◌∷◌, ◌++◌, length, map, reverse, Option, Some, None, refl, sym, ◌∙◌, ap, subst, arith, append_assoc, append-nil, inl, inr, ◌⊎◌, All}
use Rattle.std.proofs.lemmas.Bool.Decides.{nat_tests}
use Rattle.std.proofs.lemmas.Bool.{cases_lt}
use Rattle.std.proofs.lemmas.Grind.{reverse_onto}
use Rattle.std.specs.List.{find, list_any}
use Rattle.deck_model.specs.CardWriting.{esd_item_fits}
use Rattle.deck_model.specs.Deck.{Listing, is_label, is_section}
use Rattle.deck_model.specs.Image.{names, name_of, place, places, section, or_nowhere, is_placed, constant_at, load_address, has_no_room, is_unknown, is_text_outside, is_constant_outside, is_unresolved, entry, use_number, text_number, relocation_number, item_number, refused, entry_refused, room_refused, later_violation}
use Rattle.deck_model.specs.declared.cards.Sort.{Sort}
use Rattle.deck_model.specs.declared.cards.Sort.TheVariants.{Section, Private, Label, External, Weak}
use Rattle.deck_model.specs.declared.decks.Item.{Item}
use Rattle.deck_model.specs.declared.decks.Placed.{Placed}
use Rattle.deck_model.specs.declared.decks.Relocation.{Relocation}
use Rattle.deck_model.specs.declared.decks.DeckRefusal.{DeckRefusal}
use Rattle.deck_model.specs.declared.decks.DeckRefusal.TheVariants as refusal
use Rattle.deck_loader.specs.Listed.{ItemsTyped, WidthsFit as ReadWidthsFit}
use Rattle.deck_loader.specs.Written.{AreInside, ConstantsAreInside}
use Rattle.deck_loader.proofs.Cards.{none_case}
use Rattle.deck_loader.proofs.Inside.{accepted_of, refused_none, entry_none, inside_texts, inside_constants, entry_inside}
use Rattle.deck_model.specs.Linking.{clashes, first_clash}
use Rattle.link_model.specs.Linked.{is_named, name_place, label_of, whole_length}
use Rattle.link_model.specs.Link.{is_far_label}
use Rattle.link_model.proofs.Relative.{Relative, Apart, EachFits, FitTogether, WidthsFit}
use Rattle.link_model.proofs.Moving.{relative, relatives, LabelsKnown, ItemsKnown, Known}
use Rattle.link_model.proofs.Links.{labels, Linkable, Fine, LabelsFit, Fits, Taken}

-- ---- no clash

either_false : (b c : Bool) → (b || c) ≡ false → (b ≡ false) × (c ≡ false)
either_false true c h = absurd (grind (arith, nat_tests))
either_false false c h = (refl, h)

apart_of : (a w b x : ℕ) → (ltb a (b + x) && ltb b (a + w)) ≡ false → (a + w ≤ b) ⊎ (b + x ≤ a)
apart_of a w b x h = elim (cases_lt b (a + w)) [ inl l ↦ inr (let k : ltb b (a + w) ≡ true = grind (arith, nat_tests) in grind (arith, nat_tests)) | inr g ↦ inl g ]

fit_case : (a w b x : ℕ) (p q : Bool) → eqb a b ≡ p → eqb w x ≡ q → (not (p && q) && (ltb a (b + x) && ltb b (a + w))) ≡ false → ((a ≡ b) × (w ≡ x)) ⊎ ((a + w ≤ b) ⊎ (b + x ≤ a))
fit_case a w b x true true e f h = inl (grind (arith, nat_tests), grind (arith, nat_tests))
fit_case a w b x true false e f h = inr (apart_of a w b x h)
fit_case a w b x false q e f h = inr (apart_of a w b x h)

fits_one : (items : List Item) (ps : List Placed) (r s : Relocation) → clashes ps r s ≡ false → FitTogether (relative items ps r) (relative items ps s)
fits_one items ps r s h = fit_case (constant_at ps r) r.item.width (constant_at ps s) s.item.width (eqb (constant_at ps r) (constant_at ps s)) (eqb r.item.width s.item.width) refl refl h

fits_each : (items : List Item) (ps : List Placed) (r : Relocation) (ss : List Relocation) → list_any (clashes ps r) ss ≡ false → EachFits (relative items ps r) (map (relative items ps) ss)
fits_each items ps r [] h = tt
fits_each items ps r (s ∷ ss) h =
    let e = either_false (clashes ps r s) (list_any (clashes ps r) ss) h in
    (fits_one items ps r s e.0, fits_each items ps r ss e.1)

all_apart : (items : List Item) (ps : List Placed) (rs earlier : List Relocation) → first_clash ps earlier rs ≡ None → Apart (map (relative items ps) earlier) → Apart (map (relative items ps) (reverse rs ++ earlier))
all_apart items ps [] earlier h k = k
all_apart items ps (r ∷ rs) earlier h k =
    let n = none_case (list_any (clashes ps r) earlier) r (first_clash ps (r ∷ earlier) rs) h in
    let e : reverse rs ++ r ∷ earlier ≡ reverse (r ∷ rs) ++ earlier = sym (ap (λ xs. xs ++ earlier) (reverse_onto rs r []) ∙ append_assoc (reverse rs) (r ∷ []) earlier) in
    subst (λ xs. Apart (map (relative items ps) xs)) e (all_apart items ps rs (r ∷ earlier) n.1 (fits_each items ps r earlier n.0, k))

apart_all : (l : Listing) → first_clash (places 0 l) [] l.relocations ≡ None → Apart (relatives l (places 0 l))
apart_all l h = subst (λ xs. Apart (map (relative l.items (places 0 l)) xs)) (append-nil (reverse l.relocations)) (all_apart l.items (places 0 l) l.relocations [] h tt)

-- ---- widths

widths_onto : (items : List Item) (ps : List Placed) (rs earlier : List Relocation) → ReadWidthsFit rs → WidthsFit (map (relative items ps) earlier) → WidthsFit (map (relative items ps) (reverse rs ++ earlier))
widths_onto items ps [] earlier h k = k
widths_onto items ps (r ∷ rs) earlier h k =
    let w = h 0 r (omega arith) in
    let e : reverse rs ++ r ∷ earlier ≡ reverse (r ∷ rs) ++ earlier = sym (ap (λ xs. xs ++ earlier) (reverse_onto rs r []) ∙ append_assoc (reverse rs) (r ∷ []) earlier) in
    subst (λ xs. WidthsFit (map (relative items ps) xs)) e (widths_onto items ps rs (r ∷ earlier) (λ k d m. h (suc k) d (omega arith)) (w.1, k))

widths_all : (l : Listing) → ReadWidthsFit l.relocations → WidthsFit (relatives l (places 0 l))
widths_all l h = subst (λ xs. WidthsFit (map (relative l.items (places 0 l)) xs)) (append-nil (reverse l.relocations)) (widths_onto l.items (places 0 l) l.relocations [] h tt)

-- ---- room

roomy : (n : ℕ) (ps : List Placed) → whole_length ps ≤ n → list_any (has_no_room n) ps ≡ false
roomy n [] h = refl
roomy n (p ∷ ps) h =
    let a : p.at + p.length ≤ n = omega arith in
    let b : whole_length ps ≤ n = omega arith in
    let e : ltb n (p.at + p.length) ≡ false = grind (arith, nat_tests) in
    rw e (roomy n ps b)

pub ends_in : (n : ℕ) (ps : List Placed) → list_any (has_no_room n) ps ≡ false → whole_length ps ≤ n
ends_in n [] h = omega arith
ends_in n (p ∷ ps) h =
    let e = either_false (has_no_room n p) (list_any (has_no_room n) ps) h in
    let a : p.at + p.length ≤ n = let x = e.0 in grind (arith, nat_tests) in
    let b = ends_in n ps e.1 in
    omega (arith, a, b)

-- ---- no violation

pub no_item : (o : Option Item) → item_number o ≡ None → o ≡ None
no_item None h = refl
no_item (Some i) h = absurd (grind (arith, nat_tests))

unresolved_none : (n : ℕ) (l : Listing) (ps : List Placed) → later_violation n l ps ≡ None → find (is_unresolved l.items) l.items ≡ None
unfolding later_violation
unresolved_none n l ps h =
    let room : Option DeckRefusal = room_refused (list_any (has_no_room n) ps) in
    let unresolved : Option DeckRefusal = refused refusal.Unresolved (item_number (find (is_unresolved l.items) l.items)) room in
    let entries : Option DeckRefusal = entry_refused (entry ps l.entries) unresolved in
    let constants : Option DeckRefusal = refused refusal.RldOutside (relocation_number (find (is_constant_outside ps) l.relocations)) entries in
    let texts : Option DeckRefusal = refused refusal.TextOutside (text_number (find (is_text_outside ps) l.texts)) constants in
    let a = refused_none refusal.UnknownId (use_number (find (is_unknown l.items) l.uses)) texts h in
    let b = refused_none refusal.TextOutside (text_number (find (is_text_outside ps) l.texts)) constants a.1 in
    let c = refused_none refusal.RldOutside (relocation_number (find (is_constant_outside ps) l.relocations)) entries b.1 in
    let d = entry_none (entry ps l.entries) unresolved c.1 in
    let e = refused_none refusal.Unresolved (item_number (find (is_unresolved l.items) l.items)) room d in
    no_item (find (is_unresolved l.items) l.items) e.0

-- ---- labels

found_case : (b : Bool) (p : Placed) (r : Option Placed) (n : ℕ) → (or_nowhere r).at ≤ n → (or_nowhere (cond b (Some p) r)).at ≤ max (p.at + p.length) n
found_case true p r n h = omega arith
found_case false p r n h = omega (arith, h)

found_low : (q : Placed → Bool) (ps : List Placed) → (or_nowhere (find q ps)).at ≤ whole_length ps
found_low q [] = omega arith
found_low q (p ∷ ps) = found_case (q p) p (find q ps) (whole_length ps) (found_low q ps)

section_at : (ps : List Placed) (w d : ℕ) → (section ps w d).at ≤ whole_length ps
unfolding section
section_at ps w d = found_low (is_placed w d) ps

pub place_low : (b far : Bool) (x n : ℕ) → n < 16777216 → (b ≡ false → x ≤ n) → (b && (ltb x 4294967296 || ltb 4311744511 x)) ≡ false → cond b (x - 4294967296) x < 16777216
place_low true far x n k a h = let t : x ≤ 4311744511 = grind (arith, nat_tests) in omega arith
place_low false far x n k a h = let t = a refl in omega (arith, t)

label_fits : (a : ℕ) → a < 16777216 → IsTrue (ltb a 16777216 && ltb 1 65536)
label_fits a h = grind (arith, nat_tests)

pub load_low : (ps : List Placed) (i : Item) (b : Bool) → is_label i.item.sort ≡ b → b ≡ false → load_address ps i ≤ whole_length ps
load_low ps i true e h = absurd (grind (arith, nat_tests))
load_low ps i false e h = rw e (section_at ps i.owner i.id)

pub far_case : (l blank : Bool) (s : Bool) (c : Bool) → (s && not blank) ≡ true → (l && (not blank && c)) ≡ false → (l && c) ≡ false
far_case l true true c h k = absurd (grind (arith, nat_tests))
far_case l false true c h k = k
far_case l blank false c h k = absurd (grind (arith, nat_tests))

labels_case : (b : Bool) (ps : List Placed) (i : Item) (is : List Item) → is_named i ≡ b → whole_length ps < 16777216 → length i.item.name ≡ 8 → is_far_label ps i ≡ false → LabelsFit (labels ps is) → LabelsFit (cond b (label_of ps i ∷ labels ps is) (labels ps is))
labels_case true ps i is e n t f h =
    let x : ℕ = load_address ps i in
    let c : (is_label i.item.sort && (ltb x 4294967296 || ltb 4311744511 x)) ≡ false = far_case (is_label i.item.sort) (eqb (name_of i) 0x4040404040404040) (names i.item.sort) (ltb x 4294967296 || ltb 4311744511 x) e f in
    let low : name_place ps i < 16777216 = place_low (is_label i.item.sort) true x (whole_length ps) n (λ z. load_low ps i (is_label i.item.sort) refl z) c in
    (t, label_fits (name_place ps i) low, h)
labels_case false ps i is e n t f h = h

pub labels_fit : (ps : List Placed) (is : List Item) → whole_length ps < 16777216 → ItemsTyped is → find (is_far_label ps) is ≡ None → LabelsFit (labels ps is)
labels_fit ps [] n t h = tt
labels_fit ps (i ∷ is) n t h =
    let e = none_case (is_far_label ps i) i (find (is_far_label ps) is) h in
    labels_case (is_named i) ps i is refl n (t 0 i (omega arith)).0 e.0 (labels_fit ps is n (λ k d m. t (suc k) d (omega arith)) e.1)

-- ---- all

texts_in : (l : Listing) → Known l → find (is_text_outside (places 0 l)) l.texts ≡ None → AreInside (places 0 l) (whole_length (places 0 l)) l.texts
unfolding places
texts_in l k h = let ps = place 0 l.texts l.items in inside_texts (whole_length ps) 0 l.items l.texts l.texts (roomy (whole_length ps) ps (omega arith)) (λ s. omega arith) k.texts h

items_known : (all is : List Item) → LabelsKnown all is → ItemsTyped is → ItemsKnown all is
items_known all [] h t = tt
items_known all (i ∷ is) h t = (h.0, (t 0 i (omega arith)).1, items_known all is h.1 (λ k d m. t (suc k) d (omega arith)))

pub taken_known : (l : Listing) (e : ℕ) → Taken l e → Known l
taken_known l e t =
    let a = accepted_of 16711680 l (places 0 l) t.accepted in
    record { texts = t.texts l.items a.known; constants = t.constants l.items a.known; items = items_known l.items l.items (t.items l.items a.known) t.typed }

pub taken_fits : (l : Listing) (e : ℕ) → Taken l e → Fits l e
taken_fits l e t =
    let ps = places 0 l in
    let n : ℕ = whole_length ps in
    let a = accepted_of 16711680 l ps t.accepted in
    let known = taken_known l e t in
    let room = roomy n ps (omega arith) in
    let low : e < n = entry_inside n ps l.entries e room t.entry in
    let most : n ≤ 16711680 = ends_in 16711680 ps a.room in
    let named = t.named in
    record {
      linkable = (known, apart_all l t.clash, widths_all l t.widths, texts_in l known a.texts, inside_constants n ps l.relocations room t.widths a.constants, omega (arith, low));
      fine = record { ids = t.ids; names = t.names; known = a.known; texts = a.texts; constants = a.constants; entry = t.entry; resolved = unresolved_none 16711680 l ps t.accepted };
      inside = low;
      small = omega (arith, most);
      named = grind (arith, nat_tests);
      labels = labels_fit ps l.items (omega (arith, most)) t.typed t.labels;
    }
