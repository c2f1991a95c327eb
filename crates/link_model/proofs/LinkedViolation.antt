-- The linked deck has no violation but want of room, exactly where the deck has it, and the same entry.
use Rattle.std.proofs.Common.{◌≡◌, ℕ, zero, suc, ◌+◌, ◌-◌, ◌*◌, ◌<◌, ◌≤◌, Bool, true, false, cond, not, leb, ltb, eqb, ◌&&◌, ◌||◌, List, [], ◌∷◌, ◌++◌, length, map, Option, Some, None, Ok, refl, sym, ◌∙◌, ap, subst, arith}
use Rattle.std.proofs.lemmas.Bool.Decides.{nat_tests}
use Rattle.std.specs.List.{find, list_any}
use Rattle.byteorder.specs.Endian.{big_number}
use Rattle.deck_model.specs.Deck.{Listing, is_label}
use Rattle.deck_model.specs.Image.{has_id, same_id, same_name, defines, names, name_of, first_doubled, is_unknown, is_section_found, is_item_found, is_unresolved, is_external, places, section, is_text_outside, is_constant_outside, entry, room_refused, later_violation, violation, bytes_from, image_byte, image_of, Image, or_zero, unless_refused}
use Rattle.deck_model.specs.declared.cards.EsdItem.{EsdItem}
use Rattle.deck_model.specs.declared.cards.RldItem.{RldItem}
use Rattle.deck_model.specs.declared.decks.Item.{Item}
use Rattle.deck_model.specs.declared.decks.Placed.{Placed}
use Rattle.deck_model.specs.declared.decks.Text.{Text}
use Rattle.deck_model.specs.declared.decks.Relocation.{Relocation}
use Rattle.deck_model.specs.declared.decks.Entry.{Entry}
use Rattle.deck_model.specs.declared.decks.Use.{Use}
use Rattle.deck_cards.specs.TextCards.{Run, closed, next_run, runs}
use Rattle.deck_loader.specs.Written.{ConstantsAreInside}
use Rattle.deck_loader.proofs.Cards.{none_case}
use Rattle.deck_loader.proofs.Text.{length-bytes_from}
use Rattle.link_model.specs.Linked.{whole_length, is_named, label_of, stands}
use Rattle.link_model.proofs.Relative.{Relative, by_origin, kept}
use Rattle.link_model.proofs.Moving.{relative, Known}
use Rattle.link_model.proofs.Links.{first_item, labels, LabelsAre, LaterItems, TextsAre, constant_item, constants_of, ConstantsAre, UsesAre, EntryIs, Links, Linkable, linked_runs, Fine}
use Rattle.link_model.proofs.LinkedBytes.{placed_one, one_item, one_found, one_places, sub_none, bytes_same}
use Rattle.link_model.proofs.Origins.{any_same, none_doubled, later_room, entry_at, deck_entry, deck_room}

-- ---- the linked deck: its ESDIDs and names

no_same : {X : Type 0} (xs : List X) → list_any (λ (x : X). false) xs ≡ false
no_same [] = refl
no_same (x ∷ xs) = no_same xs

label_sort : (ps : List Placed) (i : Item) (j : Item) → j.item ≡ label_of ps i → is_label j.item.sort ≡ true
label_sort ps i j h = ap (λ (e : EsdItem). is_label e.sort) h

ids_case : (b : Bool) (ps : List Placed) (i : Item) (is js pre : List Item) → ((qs pre : List Item) → LabelsAre (labels ps is) qs → first_doubled same_id pre qs ≡ None) → LabelsAre (cond b (label_of ps i ∷ labels ps is) (labels ps is)) js → first_doubled same_id pre js ≡ None
ids_case true ps i is [] pre ih h = absurd h
ids_case true ps i is (j ∷ js) pre ih h =
    let e : list_any (same_id j) pre ≡ false = any_same (same_id j) (λ (x : Item). false) pre (λ x. ap (λ b. not b && has_id j.owner j.id x) (label_sort ps i j h.0)) ∙ no_same pre in
    rw e (ih js (pre ++ j ∷ []) h.2)
ids_case false ps i is js pre ih h = ih js pre h

later_ids : (ps : List Placed) (is js pre : List Item) → LabelsAre (labels ps is) js → first_doubled same_id pre js ≡ None
later_ids ps [] [] pre h = refl
later_ids ps [] (j ∷ js) pre h = absurd h
later_ids ps (i ∷ is) js pre h = ids_case (is_named i) ps i is js pre (λ qs p k. later_ids ps is qs p k) h

linked_ids : (ps : List Placed) (n : ℕ) (is js : List Item) → LaterItems (labels ps is) n js → first_doubled same_id [] js ≡ None
linked_ids ps n is [] h = absurd h
linked_ids ps n is (j ∷ js) h = later_ids ps is js (j ∷ []) h.1

-- names that are defined before
abbrev SameNames : List Item → List Item → Type 0
SameNames js is = (q : ℕ) → list_any (defines q) js ≡ list_any (defines q) is

or_false : (x : Bool) → (x || false) ≡ x
or_false true = refl
or_false false = refl

or_assoc : (x y z : Bool) → (x || (y || z)) ≡ ((x || y) || z)
or_assoc true y z = refl
or_assoc false y z = refl

any_push : (p : Item → Bool) (xs : List Item) (x : Item) → list_any p (xs ++ x ∷ []) ≡ (list_any p xs || p x)
any_push p [] x = or_false (p x)
any_push p (y ∷ xs) x = ap (λ b. p y || b) (any_push p xs x) ∙ or_assoc (p y) (list_any p xs) (p x)

both_true : (b c : Bool) → (b && c) ≡ true → (b ≡ true) × (c ≡ true)
both_true true c h = (refl, h)
both_true false c h = absurd (grind (arith, nat_tests))

label_name : (ps : List Placed) (i j : Item) → j.item ≡ label_of ps i → name_of j ≡ name_of i
label_name ps i j h = ap (λ (e : EsdItem). big_number 8 e.name) h

pub label_defines : (ps : List Placed) (i j : Item) (q : ℕ) → j.item ≡ label_of ps i → is_named i ≡ true → defines q j ≡ defines q i
label_defines ps i j q h e =
    let s : names j.item.sort ≡ true = ap (λ (x : EsdItem). names x.sort) h in
    let n = label_name ps i j h in
    let t = both_true (names i.item.sort) (not (eqb (name_of i) 0x4040404040404040)) e in
    ap (λ b. b && (not (eqb (name_of j) 0x4040404040404040) && eqb (name_of j) q)) s
    ∙ (ap (λ x. not (eqb x 0x4040404040404040) && eqb x q) n
    ∙ ap (λ b. b && (not (eqb (name_of i) 0x4040404040404040) && eqb (name_of i) q)) (sym t.0))

pub unnamed_defines : (s b c : Bool) → (s && not b) ≡ false → (s && (not b && c)) ≡ false
unnamed_defines true true c h = refl
unnamed_defines true false c h = absurd (grind (arith, nat_tests))
unnamed_defines false b c h = refl

named_same : (s b : Bool) (f : Item → Bool) (x : Item) → (s && not b) ≡ true → (s && (not b && f x)) ≡ f x
named_same true true f x h = absurd (grind (arith, nat_tests))
named_same true false f x h = refl
named_same false b f x h = absurd (grind (arith, nat_tests))

label_named : (ps : List Placed) (i j : Item) → j.item ≡ label_of ps i → is_named i ≡ true → is_named j ≡ true
label_named ps i j h e =
    let s : names j.item.sort ≡ true = ap (λ (x : EsdItem). names x.sort) h in
    let t = both_true (names i.item.sort) (not (eqb (name_of i) 0x4040404040404040)) e in
    ap (λ b. b && not (eqb (name_of j) 0x4040404040404040)) s ∙ (ap (λ x. not (eqb x 0x4040404040404040)) (label_name ps i j h) ∙ t.1)

names_case : (b : Bool) (ps : List Placed) (i : Item) (is js pre qre : List Item) → is_named i ≡ b → SameNames qre pre
    → ((ks p q : List Item) → SameNames q p → first_doubled same_name p is ≡ None → LabelsAre (labels ps is) ks → first_doubled same_name q ks ≡ None)
    → cond (list_any (same_name i) pre) (Some i) (first_doubled same_name (pre ++ i ∷ []) is) ≡ None
    → LabelsAre (cond b (label_of ps i ∷ labels ps is) (labels ps is)) js → first_doubled same_name qre js ≡ None
names_case true ps i is [] pre qre e s ih d h = absurd h
names_case true ps i is (j ∷ js) pre qre e s ih d h =
    let n = none_case (list_any (same_name i) pre) i (first_doubled same_name (pre ++ i ∷ []) is) d in
    let q : ℕ = name_of i in
    let w = label_name ps i j h.0 in
    let one : (x : Item) → same_name i x ≡ defines q x = λ x. named_same (names i.item.sort) (eqb q 0x4040404040404040) (defines q) x e in
    let named : is_named j ≡ true = label_named ps i j h.0 e in
    let two : (x : Item) → same_name j x ≡ defines q x = λ x. named_same (names j.item.sort) (eqb (name_of j) 0x4040404040404040) (defines (name_of j)) x named ∙ ap (λ y. defines y x) w in
    let f : list_any (same_name j) qre ≡ false = any_same (same_name j) (defines q) qre two ∙ (s q ∙ (sym (any_same (same_name i) (defines q) pre one) ∙ n.0)) in
    let next : SameNames (qre ++ j ∷ []) (pre ++ i ∷ []) = λ y. any_push (defines y) qre j ∙ (ap (λ b. b || defines y j) (s y) ∙ (ap (λ b. list_any (defines y) pre || b) (label_defines ps i j y h.0 e) ∙ sym (any_push (defines y) pre i))) in
    rw f (ih js (pre ++ i ∷ []) (qre ++ j ∷ []) next n.1 h.2)
names_case false ps i is js pre qre e s ih d h =
    let n = none_case (list_any (same_name i) pre) i (first_doubled same_name (pre ++ i ∷ []) is) d in
    let next : SameNames qre (pre ++ i ∷ []) = λ y. s y ∙ (sym (or_false (list_any (defines y) pre)) ∙ (ap (λ b. list_any (defines y) pre || b) (sym (unnamed_defines (names i.item.sort) (eqb (name_of i) 0x4040404040404040) (eqb (name_of i) y) e)) ∙ sym (any_push (defines y) pre i))) in
    ih js (pre ++ i ∷ []) qre next n.1 h

later_names : (ps : List Placed) (is js pre qre : List Item) → SameNames qre pre → first_doubled same_name pre is ≡ None → LabelsAre (labels ps is) js → first_doubled same_name qre js ≡ None
later_names ps [] [] pre qre s d h = refl
later_names ps [] (j ∷ js) pre qre s d h = absurd h
later_names ps (i ∷ is) js pre qre s d h = names_case (is_named i) ps i is js pre qre refl s (λ ks p q. later_names ps is ks p q) d h

linked_names : (ps : List Placed) (n : ℕ) (is js : List Item) → first_doubled same_name [] is ≡ None → LaterItems (labels ps is) n js → first_doubled same_name [] js ≡ None
linked_names ps n is [] d h = absurd h
linked_names ps n is (j ∷ js) d h =
    let s : SameNames (j ∷ []) [] = λ q. ap (λ (i : Item). defines q i || false) h.0 in
    later_names ps is js [] (j ∷ []) s d h.1

-- ---- no ER

external_case : (b : Bool) (ps : List Placed) (all : List Item) (i : Item) (is js : List Item) → ((ks : List Item) → LabelsAre (labels ps is) ks → find (is_unresolved all) ks ≡ None) → LabelsAre (cond b (label_of ps i ∷ labels ps is) (labels ps is)) js → find (is_unresolved all) js ≡ None
external_case true ps all i is [] ih h = absurd h
external_case true ps all i is (j ∷ js) ih h =
    let e : is_external j.item.sort ≡ false = ap (λ (x : EsdItem). is_external x.sort) h.0 in
    rw e (ih js h.2)
external_case false ps all i is js ih h = ih js h

no_external : (ps : List Placed) (all is js : List Item) → LabelsAre (labels ps is) js → find (is_unresolved all) js ≡ None
no_external ps all [] [] h = refl
no_external ps all [] (j ∷ js) h = absurd h
no_external ps all (i ∷ is) js h = external_case (is_named i) ps all i is js (λ ks k. no_external ps all is ks k) h

linked_resolved : (ps : List Placed) (n : ℕ) (is js : List Item) → LaterItems (labels ps is) n js → find (is_unresolved js) js ≡ None
linked_resolved ps n is [] h = absurd h
linked_resolved ps n is (j ∷ js) h =
    let e : is_external j.item.sort ≡ false = ap (λ (i : Item). is_external i.item.sort) h.0 in
    rw e (no_external ps (j ∷ js) is js h.1)

-- ---- its uses

either : (b : Bool) → cond b false false ≡ false
either true = refl
either false = refl

use_known : (es : List EsdItem) (n : ℕ) (js : List Item) (any : Bool) (w d : ℕ) → LaterItems es n js → w ≡ 0 → d ≡ 1 → cond any (not (is_item_found (find (has_id w d) js))) (not (is_section_found (find (has_id w d) js))) ≡ false
use_known es n js any w d h e f =
    let s : find (has_id w d) js ≡ Some (first_item n) = ap (λ x. find (has_id x d) js) e ∙ (ap (λ x. find (has_id 0 x) js) f ∙ one_item es n js h) in
    ap (λ r. cond any (not (is_item_found r)) (not (is_section_found r))) s ∙ either any

linked_known : (es : List EsdItem) (n : ℕ) (js : List Item) (us : List Use) → LaterItems es n js → UsesAre us → find (is_unknown js) us ≡ None
linked_known es n js [] h u = refl
linked_known es n js (x ∷ us) h u = rw (use_known es n js x.any x.owner x.id h u.0 u.1) (linked_known es n js us h u.2)

-- ---- its texts

abbrev EndBelow : ℕ → List Run → Type 0
EndBelow n [] = Unit {0}
EndBelow n (r ∷ rs) = (r.at + length r.bytes ≤ n) × EndBelow n rs

closed_below : (f : ℕ → ℕ) (n at held : ℕ) (more : List Run) → at + held ≤ n → EndBelow n more → EndBelow n (closed f at held more)
closed_below f n at zero more h k = k
closed_below f n at (suc m) more h k = let e = length-bytes_from f at (suc m) in (omega (arith, e, h), k)

runs_case : (b c : Bool) (on : ℕ → Bool) (f : ℕ → ℕ) (n at held m : ℕ) → at + held + suc m ≤ n → ((p q : ℕ) → p + q + m ≤ n → EndBelow n (runs on f p q m)) → EndBelow n (next_run b c f at held (λ p q. runs on f p q m))
runs_case true true on f n at held m h ih = closed_below f n at held (runs on f (at + held) 1 m) (omega arith) (ih (at + held) 1 (omega arith))
runs_case true false on f n at held m h ih = ih at (held + 1) (omega arith)
runs_case false c on f n at held m h ih = closed_below f n at held (runs on f (at + held + 1) 0 m) (omega arith) (ih (at + held + 1) 0 (omega arith))

runs_below : (on : ℕ → Bool) (f : ℕ → ℕ) (n at held m : ℕ) → at + held + m ≤ n → EndBelow n (runs on f at held m)
runs_below on f n at held zero h = closed_below f n at held [] (omega arith) tt
runs_below on f n at held (suc m) h = runs_case (on (at + held)) (eqb held 56) on f n at held m h (λ p q k. runs_below on f n p q m k)

and_none : (b : Bool) → (b && false) ≡ false
and_none true = refl
and_none false = refl

text_in : (n o a w z x y : ℕ) → x + y ≤ n → a ≡ x → z ≡ y → (ltb a 0 || (not (eqb n 0) && ltb n (a + z - 0))) ≡ false
text_in n o a w z x y h e f =
    let l : ltb a 0 ≡ false = grind (arith, nat_tests) in
    let k : a + z - 0 ≤ n = omega (arith, h, e, f) in
    let m : ltb n (a + z - 0) ≡ false = grind (arith, nat_tests) in
    rw l (rw m (and_none (not (eqb n 0))))

linked_texts : (n o : ℕ) (rs : List Run) (ts : List Text) → TextsAre rs ts → EndBelow n rs → find (is_text_outside (placed_one n o ∷ [])) ts ≡ None
linked_texts n o [] [] h k = refl
linked_texts n o [] (t ∷ ts) h k = absurd h
linked_texts n o (r ∷ rs) [] h k = absurd h
linked_texts n o (r ∷ rs) (t ∷ ts) h k =
    let s : section (placed_one n o ∷ []) t.owner t.id ≡ placed_one n o = ap (λ w. section (placed_one n o ∷ []) w t.id) h.0 ∙ (ap (section (placed_one n o ∷ []) 0) h.1 ∙ one_found n o) in
    let e : is_text_outside (placed_one n o ∷ []) t ≡ false = ap (λ (p : Placed). ltb t.address p.item.item.address || (not (eqb p.item.item.extent 0) && ltb p.item.item.extent (t.address + length t.bytes.items - p.item.item.address))) s ∙ text_in n o t.address 0 (length t.bytes.items) r.at (length r.bytes) k.0 h.2 (ap length h.3) in
    rw e (linked_texts n o rs ts h.4 k.1)

-- ---- its constants

abbrev Below : ℕ → List Relative → Type 0
Below n [] = Unit {0}
Below n (r ∷ rs) = (r.at + r.width ≤ n) × Below n rs

below_of : (n : ℕ) (items : List Item) (ps : List Placed) (rs : List Relocation) → ConstantsAreInside ps n rs → Below n (map (relative items ps) rs)
below_of n items ps [] h = tt
below_of n items ps (r ∷ rs) h = (h.2, below_of n items ps rs h.3)

kept_below_case : (b : Bool) (n : ℕ) (r : Relative) (ks : List Relative) → r.at + r.width ≤ n → Below n ks → Below n (cond b (by_origin r ∷ ks) ks)
kept_below_case true n r ks h k = (h, k)
kept_below_case false n r ks h k = k

kept_below : (n : ℕ) (rs : List Relative) → Below n rs → Below n (kept rs)
kept_below n [] h = tt
kept_below n (r ∷ rs) h = kept_below_case r.moves n r (kept rs) h.0 (kept_below n rs h.1)

constant_in : (n a z x y : ℕ) → x + y ≤ n → a ≡ x → z ≡ y → (ltb a 0 || ltb n (a + z - 0)) ≡ false
constant_in n a z x y h e f =
    let l : ltb a 0 ≡ false = grind (arith, nat_tests) in
    let k : a + z - 0 ≤ n = omega (arith, h, e, f) in
    let m : ltb n (a + z - 0) ≡ false = grind (arith, nat_tests) in
    rw l m

linked_constants : (n o : ℕ) (rs : List Relative) (ss : List Relocation) → ConstantsAre rs ss → Below n rs → find (is_constant_outside (placed_one n o ∷ [])) ss ≡ None
linked_constants n o [] [] h k = refl
linked_constants n o [] (s ∷ ss) h k = absurd h
linked_constants n o (r ∷ rs) [] h k = absurd h
linked_constants n o (r ∷ rs) (s ∷ ss) h k =
    let ps = placed_one n o ∷ [] in
    let i = h.1 in
    let place : s.item.place ≡ 1 = ap (λ (x : RldItem). x.place) i in
    let address : s.item.address ≡ r.at = ap (λ (x : RldItem). x.address) i in
    let width : s.item.width ≡ r.width = ap (λ (x : RldItem). x.width) i in
    let p : section ps s.owner s.item.place ≡ placed_one n o = ap (λ w. section ps w s.item.place) h.0 ∙ (ap (section ps 0) place ∙ one_found n o) in
    let e : is_constant_outside ps s ≡ false = ap (λ (q : Placed). ltb s.item.address q.item.item.address || ltb q.length (s.item.address + s.item.width - q.item.item.address)) p ∙ constant_in n s.item.address s.item.width r.at r.width k.0 address width in
    rw e (linked_constants n o rs ss h.2 k.1)

-- ---- its entry

pub linked_entry : (n o e : ℕ) (xs : List Entry) → e < n → EntryIs e xs → entry (placed_one n o ∷ []) xs ≡ Some (o + e)
linked_entry n o e [] l h = absurd h
linked_entry n o e (x ∷ xs) l h =
    let ps = placed_one n o ∷ [] in
    let p : section ps x.owner x.id ≡ placed_one n o = ap (λ w. section ps w x.id) h.0 ∙ (ap (section ps 0) h.1 ∙ one_found n o) in
    let a : ltb e 0 ≡ false = grind (arith, nat_tests) in
    let b : leb n (e - 0) ≡ false = grind (arith, nat_tests) in
    ap (entry_at x.address) p ∙ (ap (λ y. entry_at y (placed_one n o)) h.2 ∙ rw a (rw b (ap (λ y. Some (o + y)) (sub_none e))))

-- ---- all

pub linked_room : (n o k : ℕ) (l j : Listing) (e : ℕ) → o ≡ 8 * k → o ≤ n → Linkable l → Fine l e → e < whole_length (places 0 l) → Links l j e → violation n j (places o j) ≡ room_refused (ltb n (o + whole_length (places 0 l)))
linked_room n o k l j e h s m f b t =
    let ps = places 0 l in
    let w : ℕ = whole_length ps in
    let one = placed_one w o ∷ [] in
    let es = labels ps l.items in
    let p : places o j ≡ one = one_places o k l j e h m.5 t in
    let x : entry one j.entries ≡ Some (o + e) = linked_entry w o e j.entries b t.entries in
    let texts = linked_texts w o (linked_runs l) j.texts t.texts (runs_below (stands l ps) (image_byte l ps) w 0 0 w (omega arith)) in
    let constants = linked_constants w o (kept (map (relative l.items ps) l.relocations)) j.relocations t.constants (kept_below w (map (relative l.items ps) l.relocations) (below_of w l.items ps l.relocations m.4)) in
    ap (violation n j) p
    ∙ (none_doubled j (later_violation n j one) (linked_ids ps w l.items j.items t.items) (linked_names ps w l.items j.items f.names t.items)
    ∙ (later_room n j one (o + e) (linked_known es w j.items j.uses t.items t.uses) texts constants x (linked_resolved ps w l.items j.items t.items)
    ∙ ap room_refused (or_false (ltb n (o + w)))))

pub images_same : (n o k : ℕ) (l j : Listing) (e : ℕ) → o ≡ 8 * k → o ≤ n → Linkable l → Fine l e → e < whole_length (places 0 l) → Known j → Links l j e → image_of o n (Ok j) ≡ image_of o n (Ok l)
images_same n o k l j e h s m f b kj t =
    let w : ℕ = whole_length (places 0 l) in
    let p : places o j ≡ placed_one w o ∷ [] = one_places o k l j e h m.5 t in
    let x : entry (places o j) j.entries ≡ Some (o + e) = ap (λ ps. entry ps j.entries) p ∙ linked_entry w o e j.entries b t.entries in
    let y : entry (places o l) l.entries ≡ Some (o + e) = deck_entry o k l e h f in
    let so : List ℕ → ℕ → Image = λ bs a. record { bytes = bs; entry = a } in
    ap (λ v. unless_refused v (so (bytes_from (image_byte j (places o j)) 0 n) (or_zero (entry (places o j) j.entries)))) (linked_room n o k l j e h s m f b t ∙ sym (deck_room n o k l e h s f))
    ∙ (ap (λ bs. unless_refused (violation n l (places o l)) (so bs (or_zero (entry (places o j) j.entries)))) (bytes_same o k n l j e h m kj t)
    ∙ ap (λ v. unless_refused (violation n l (places o l)) (so (bytes_from (image_byte l (places o l)) 0 n) (or_zero v))) (x ∙ sym y))
