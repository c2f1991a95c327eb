-- What the tests of a deck say of its texts, constants and entry.
use Rattle.std.proofs.Common.{◌≡◌, ℕ, suc, ◌+◌, ◌-◌, ◌<◌, ◌≤◌, Bool, true, false, cond, not, eqb, ltb, leb, ◌&&◌, ◌||◌, max, List, [], ◌∷◌, length, Option, Some, None, refl, sym, ◌∙◌, ap, subst, arith}
use Rattle.std.proofs.lemmas.Bool.Decides.{nat_tests}
use Rattle.std.specs.List.{find, list_any}
use Rattle.deck_model.specs.Deck.{Listing, is_label, is_section}
use Rattle.deck_model.specs.Image.{aligned, has_id, is_unknown, is_section_found, is_unresolved, section, or_nowhere, is_placed, place, places, length_of, text_end, farthest, is_text_outside, is_constant_outside, is_entry_outside, has_length, default_entry, entry, has_no_room, use_number, text_number, relocation_number, item_number, refused, entry_refused, room_refused, later_violation}
use Rattle.deck_model.specs.declared.cards.Sort.{Sort}
use Rattle.deck_model.specs.declared.cards.Sort.TheVariants.{Section, Private, Label, External, Weak}
use Rattle.deck_model.specs.declared.decks.Item.{Item}
use Rattle.deck_model.specs.declared.decks.Placed.{Placed}
use Rattle.deck_model.specs.declared.decks.Text.{Text}
use Rattle.deck_model.specs.declared.decks.Relocation.{Relocation}
use Rattle.deck_model.specs.declared.decks.Entry.{Entry}
use Rattle.deck_model.specs.declared.decks.Use.{Use}
use Rattle.deck_model.specs.declared.decks.DeckRefusal.{DeckRefusal}
use Rattle.deck_model.specs.declared.decks.DeckRefusal.TheVariants as refusal
use Rattle.deck_loader.specs.Listed.{WidthsFit, TextsKnown, TextsAreUsed}
use Rattle.deck_loader.specs.Written.{AreInside, ConstantsAreInside}
use Rattle.deck_loader.proofs.Cards.{none_case}

-- ---- a deck without a later violation

pub record Accepted (n : ℕ) (l : Listing) (ps : List Placed) : Type 0 where
  pub known : find (is_unknown l.items) l.uses ≡ None
  pub texts : find (is_text_outside ps) l.texts ≡ None
  pub constants : find (is_constant_outside ps) l.relocations ≡ None
  pub room : list_any (has_no_room n) ps ≡ false

pub refused_none : (r : ℕ → DeckRefusal) (o : Option ℕ) (more : Option DeckRefusal) → refused r o more ≡ None → (o ≡ None) × (more ≡ None)
refused_none r None more h = (refl, h)
refused_none r (Some n) more h = absurd (grind (arith, nat_tests))

pub entry_none : (o : Option ℕ) (more : Option DeckRefusal) → entry_refused o more ≡ None → more ≡ None
entry_none None more h = absurd (grind (arith, nat_tests))
entry_none (Some n) more h = h

room_none : (b : Bool) → room_refused b ≡ None → b ≡ false
room_none true h = absurd (grind (arith, nat_tests))
room_none false h = refl

no_use : (o : Option Use) → use_number o ≡ None → o ≡ None
no_use None h = refl
no_use (Some u) h = absurd (grind (arith, nat_tests))

no_text : (o : Option Text) → text_number o ≡ None → o ≡ None
no_text None h = refl
no_text (Some u) h = absurd (grind (arith, nat_tests))

no_relocation : (o : Option Relocation) → relocation_number o ≡ None → o ≡ None
no_relocation None h = refl
no_relocation (Some u) h = absurd (grind (arith, nat_tests))

pub accepted_of : (n : ℕ) (l : Listing) (ps : List Placed) → later_violation n l ps ≡ None → Accepted n l ps
unfolding later_violation
accepted_of n l ps h =
    let room : Option DeckRefusal = room_refused (list_any (has_no_room n) ps) in
    let unresolved : Option DeckRefusal = refused refusal.Unresolved (item_number (find (is_unresolved l.items) l.items)) room in
    let entries : Option DeckRefusal = entry_refused (entry ps l.entries) unresolved in
    let constants : Option DeckRefusal = refused refusal.RldOutside (relocation_number (find (is_constant_outside ps) l.relocations)) entries in
    let texts : Option DeckRefusal = refused refusal.TextOutside (text_number (find (is_text_outside ps) l.texts)) constants in
    let a = refused_none refusal.UnknownId (use_number (find (is_unknown l.items) l.uses)) texts h in
    let b = refused_none refusal.TextOutside (text_number (find (is_text_outside ps) l.texts)) constants a.1 in
    let c = refused_none refusal.RldOutside (relocation_number (find (is_constant_outside ps) l.relocations)) entries b.1 in
    let d = entry_none (entry ps l.entries) unresolved c.1 in
    let e = refused_none refusal.Unresolved (item_number (find (is_unresolved l.items) l.items)) room d in
    record {
      known = no_use (find (is_unknown l.items) l.uses) a.0;
      texts = no_text (find (is_text_outside ps) l.texts) b.0;
      constants = no_relocation (find (is_constant_outside ps) l.relocations) c.0;
      room = room_none (list_any (has_no_room n) ps) e.1;
    }

-- ---- a placed section ends inside the storage

either_false : (b c : Bool) → (b || c) ≡ false → (b ≡ false) × (c ≡ false)
either_false true c h = absurd (grind (arith, nat_tests))
either_false false c h = (refl, h)

room_case : (b : Bool) (x p : Placed) (r : Option Placed) (n : ℕ) → cond b (Some x) r ≡ Some p → has_no_room n x ≡ false → (r ≡ Some p → p.at + p.length ≤ n) → p.at + p.length ≤ n
room_case true x p r n e h more =
    let same : x ≡ p = grind (arith, nat_tests) in
    let P : Placed → Type 0 = λ y. y.at + y.length ≤ n in
    let fits : x.at + x.length ≤ n = grind (arith, nat_tests) in
    subst P same fits
room_case false x p r n e h more = more e

pub in_room : (q : Placed → Bool) (n : ℕ) (ps : List Placed) (p : Placed) → list_any (has_no_room n) ps ≡ false → find q ps ≡ Some p → p.at + p.length ≤ n
in_room q n [] p h e = absurd (grind (arith, nat_tests))
in_room q n (x ∷ ps) p h e =
    let f = either_false (has_no_room n x) (list_any (has_no_room n) ps) h in
    room_case (q x) x p (find q ps) n e f.0 (in_room q n ps p f.1)

-- ---- a section that is an item is placed

-- a section that was found is that of the ESDID, with its length
abbrev pub PlacedAs : List Text → ℕ → ℕ → Option Placed → Type 0
PlacedAs texts o d None = ⊥
PlacedAs texts o d (Some p) = (p.item.owner ≡ o) × (p.item.id ≡ d) × (p.length ≡ length_of texts p.item)

find_placed : (q : Placed → Bool) (sec : Bool) (p : Placed) (xs ys : List Placed) → find q (cond sec (p ∷ xs) ys) ≡ cond sec (cond (q p) (Some p) (find q xs)) (find q ys)
find_placed q true p xs ys = refl
find_placed q false p xs ys = refl

placed_step : (texts : List Text) (o d : ℕ) (i : Item) (s : Sort) (same : Bool) (fi : Option Item) (p : Placed) (f g : Option Placed) → i.item.sort ≡ s → (same ≡ true → PlacedAs texts o d (Some p)) → (is_section_found fi ≡ true → PlacedAs texts o d f) → (is_section_found fi ≡ true → PlacedAs texts o d g) → is_section_found (cond (not (is_label s) && same) (Some i) fi) ≡ true → PlacedAs texts o d (cond (is_section s) (cond same (Some p) f) g)
placed_step texts o d i Section true fi p f g e k a b h = k refl
placed_step texts o d i Section false fi p f g e k a b h = a h
placed_step texts o d i Private true fi p f g e k a b h = k refl
placed_step texts o d i Private false fi p f g e k a b h = a h
placed_step texts o d i Label same fi p f g e k a b h = b h
placed_step texts o d i External true fi p f g e k a b h = let z : false ≡ true = ap is_section (sym e) ∙ h in absurd (grind (arith, nat_tests))
placed_step texts o d i External false fi p f g e k a b h = b h
placed_step texts o d i Weak true fi p f g e k a b h = let z : false ≡ true = ap is_section (sym e) ∙ h in absurd (grind (arith, nat_tests))
placed_step texts o d i Weak false fi p f g e k a b h = b h

both_equal : (a b c d : ℕ) → (eqb a b && eqb c d) ≡ true → (a ≡ b) × (c ≡ d)
both_equal a b c d h = (grind (arith, nat_tests), grind (arith, nat_tests))

pub placed_for : (texts : List Text) (items : List Item) (from o d : ℕ) → is_section_found (find (has_id o d) items) ≡ true → PlacedAs texts o d (find (is_placed o d) (place from texts items))
placed_for texts [] from o d h = absurd (grind (arith, nat_tests))
placed_for texts (i ∷ is) from o d h =
    let p : Placed = record { item = i; length = length_of texts i; at = aligned from } in
    let xs = place (aligned from + length_of texts i) texts is in
    let ys = place from texts is in
    let same : Bool = eqb i.owner o && eqb i.id d in
    let P : Option Placed → Type 0 = λ r. PlacedAs texts o d r in
    subst P (sym (find_placed (is_placed o d) (is_section i.item.sort) p xs ys))
    (placed_step texts o d i i.item.sort same (find (has_id o d) is) p (find (is_placed o d) xs) (find (is_placed o d) ys) refl
    (λ e. let f = both_equal i.owner o i.id d e in (f.0, f.1, refl))
    (placed_for texts is (aligned from + length_of texts i) o d) (placed_for texts is from o d) h)

-- ---- texts

text_arith : (z : Bool) (a l p e at len n far : ℕ) → eqb e 0 ≡ z → (ltb a p || (not z && ltb e (a + l - p))) ≡ false → len ≡ cond z far e → a + l - p ≤ far → at + len ≤ n → at + (a - p) + l ≤ n
text_arith true a l p e at len n far k h m g r =
    let low : p ≤ a = grind (arith, nat_tests) in
    omega (arith, low, m, g, r)
text_arith false a l p e at len n far k h m g r =
    let low : p ≤ a = grind (arith, nat_tests) in
    let high : a + l - p ≤ e = grind (arith, nat_tests) in
    omega (arith, low, high, m, r)

text_fits : (n : ℕ) (all : List Text) (t : Text) (r : Option Placed) → PlacedAs all t.owner t.id r → ((p : Placed) → r ≡ Some p → p.at + p.length ≤ n) → (let p = or_nowhere r in ltb t.address p.item.item.address || (not (eqb p.item.item.extent 0) && ltb p.item.item.extent (t.address + length t.bytes.items - p.item.item.address))) ≡ false → ((s : Item) → text_end s t ≤ farthest s all) → (let p = or_nowhere r in p.at + (t.address - p.item.item.address)) + length t.bytes.items ≤ n
text_fits n all t None k room h far = absurd k
text_fits n all t (Some p) k room h far =
    let s = p.item in
    let mine : (eqb t.owner s.owner && eqb t.id s.id) ≡ true = let a = k.0 in let b = k.1 in grind (arith, nat_tests) in
    let end : t.address + length t.bytes.items - s.item.address ≤ farthest s all = let P : Bool → Type 0 = λ b. cond b (t.address + length t.bytes.items - s.item.address) 0 ≤ farthest s all in subst P mine (far s) in
    text_arith (eqb s.item.extent 0) t.address (length t.bytes.items) s.item.address s.item.extent p.at p.length n (farthest s all) refl h k.2 end (room p refl)

first_far : (a b c : ℕ) → max a b ≤ c → a ≤ c
first_far a b c h = omega (arith, h)

later_far : (a b c : ℕ) → max a b ≤ c → b ≤ c
later_far a b c h = omega (arith, h)

pub inside_texts : (n from : ℕ) (items : List Item) (all ts : List Text) → list_any (has_no_room n) (place from all items) ≡ false → ((s : Item) → farthest s ts ≤ farthest s all) → TextsKnown items ts → find (is_text_outside (place from all items)) ts ≡ None → AreInside (place from all items) n ts
unfolding section
inside_texts n from items all [] room far k h = tt
inside_texts n from items all (t ∷ ts) room far k h =
    let ps = place from all items in
    let f = none_case (is_text_outside ps t) t (find (is_text_outside ps) ts) h in (
      text_fits n all t (find (is_placed t.owner t.id) ps) (placed_for all items from t.owner t.id k.0) (λ p e. in_room (is_placed t.owner t.id) n ps p room e) f.0 (λ s. first_far (text_end s t) (farthest s ts) (farthest s all) (far s)),
      inside_texts n from items all ts room (λ s. later_far (text_end s t) (farthest s ts) (farthest s all) (far s)) k.1 f.1,
    )

-- ---- constants

constant_fits : (n a w : ℕ) (r : Option Placed) → 1 ≤ w → ((p : Placed) → r ≡ Some p → p.at + p.length ≤ n) → (let p = or_nowhere r in ltb a p.item.item.address || ltb p.length (a + w - p.item.item.address)) ≡ false → (let p = or_nowhere r in p.at + (a - p.item.item.address)) + w ≤ n
constant_fits n a w None k room h = absurd (grind (arith, nat_tests))
constant_fits n a w (Some p) k room h =
    let low : p.item.item.address ≤ a = grind (arith, nat_tests) in
    let high : a + w - p.item.item.address ≤ p.length = grind (arith, nat_tests) in
    let end = room p refl in
    omega (arith, low, high, end)

pub inside_constants : (n : ℕ) (ps : List Placed) (rs : List Relocation) → list_any (has_no_room n) ps ≡ false → WidthsFit rs → find (is_constant_outside ps) rs ≡ None → ConstantsAreInside ps n rs
unfolding section
inside_constants n ps [] room w h = tt
inside_constants n ps (r ∷ rs) room w h =
    let f = none_case (is_constant_outside ps r) r (find (is_constant_outside ps) rs) h in
    let width = w 0 r (omega arith) in (
      width.0,
      width.1,
      constant_fits n r.item.address r.item.width (find (is_placed r.owner r.item.place) ps) width.0 (λ p e. in_room (is_placed r.owner r.item.place) n ps p room e) f.0,
      inside_constants n ps rs room (λ k d l. w (suc k) d (omega arith)) f.1,
    )

-- ---- an accepted deck

pub texts_inside : (n o : ℕ) (l : Listing) (ps : List Placed) → ps ≡ places o l → TextsAreUsed l → later_violation n l ps ≡ None → AreInside ps n l.texts
unfolding places
texts_inside n o l ps e used h =
    let a = accepted_of n l ps h in
    let P : List Placed → Type 0 = λ qs. list_any (has_no_room n) qs ≡ false → find (is_text_outside qs) l.texts ≡ None → AreInside qs n l.texts in
    subst P (sym e) (λ room texts. inside_texts n o l.items l.texts l.texts room (λ s. omega arith) (used l.items a.known) texts) a.room a.texts

pub constants_inside : (n : ℕ) (l : Listing) (ps : List Placed) → WidthsFit l.relocations → later_violation n l ps ≡ None → ConstantsAreInside ps n l.relocations
constants_inside n l ps w h = let a = accepted_of n l ps h in inside_constants n ps l.relocations a.room w a.constants

-- ---- entry

passes_case : (b : Bool) (q : Placed → Bool) (x p : Placed) (r : Option Placed) → q x ≡ b → cond b (Some x) r ≡ Some p → (r ≡ Some p → q p ≡ true) → q p ≡ true
passes_case true q x p r k e more =
    let same : x ≡ p = grind (arith, nat_tests) in
    ap q (sym same) ∙ k
passes_case false q x p r k e more = more e

pub passes : (q : Placed → Bool) (ps : List Placed) (p : Placed) → find q ps ≡ Some p → q p ≡ true
passes q [] p e = absurd (grind (arith, nat_tests))
passes q (x ∷ ps) p e = passes_case (q x) q x p (find q ps) refl e (passes q ps p)

default_low : (n : ℕ) (ps : List Placed) (e : ℕ) (r : Option Placed) → list_any (has_no_room n) ps ≡ false → find has_length ps ≡ r → default_entry r ≡ Some e → e < n
default_low n ps e None room f h = absurd (grind (arith, nat_tests))
default_low n ps e (Some p) room f h =
    let some = passes has_length ps p f in
    let end = in_room has_length n ps p room f in
    let at : p.at ≡ e = grind (arith, nat_tests) in
    let long : 0 < p.length = grind (arith, nat_tests) in
    omega (arith, end, at, long)

entry_case : (n a e : ℕ) (r : Option Placed) (b : Bool) → ((p : Placed) → r ≡ Some p → p.at + p.length ≤ n) → (let p = or_nowhere r in ltb a p.item.item.address || leb p.length (a - p.item.item.address)) ≡ b → cond b None (Some (let p = or_nowhere r in p.at + (a - p.item.item.address))) ≡ Some e → e < n
entry_case n a e r true room h k = absurd (grind (arith, nat_tests))
entry_case n a e None false room h k = absurd (grind (arith, nat_tests))
entry_case n a e (Some p) false room h k =
    let low : p.item.item.address ≤ a = grind (arith, nat_tests) in
    let high : a - p.item.item.address < p.length = grind (arith, nat_tests) in
    let end = room p refl in
    let at : p.at + (a - p.item.item.address) ≡ e = grind (arith, nat_tests) in
    omega (arith, low, high, end, at)

pub entry_inside : (n : ℕ) (ps : List Placed) (es : List Entry) (e : ℕ) → list_any (has_no_room n) ps ≡ false → entry ps es ≡ Some e → e < n
unfolding section
entry_inside n ps [] e room h = default_low n ps e (find has_length ps) room refl h
entry_inside n ps (x ∷ es) e room h = entry_case n x.address e (find (is_placed x.owner x.id) ps) (is_entry_outside ps x) (λ p k. in_room (is_placed x.owner x.id) n ps p room k) refl h

pub entry_low : (n : ℕ) (l : Listing) (ps : List Placed) (e : ℕ) → later_violation n l ps ≡ None → entry ps l.entries ≡ Some e → e < n
entry_low n l ps e h k = entry_inside n ps l.entries e (accepted_of n l ps h).room k
