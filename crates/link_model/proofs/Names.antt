-- Each name has the same load address in the deck and in the linked deck.
use Rattle.std.proofs.Common.{◌≡◌, ℕ, ◌+◌, ◌-◌, ◌*◌, ◌%◌, ◌<◌, ◌≤◌, Bool, true, false, cond, not, eqb, ltb, ◌&&◌, ◌||◌, List, [], ◌∷◌, map, Option, Some, None, Ok, refl, sym, ◌∙◌, ap, subst, arith}
use Rattle.std.proofs.lemmas.Bool.Decides.{nat_tests}
use Rattle.std.specs.List.{find}
use Rattle.deck_model.specs.Deck.{Listing, listing_of, is_label}
use Rattle.deck_model.specs.Image.{names, name_of, defines, is_item_found, place, places, section, load_address, defined_at}
use Rattle.deck_model.specs.declared.cards.EsdItem.{EsdItem}
use Rattle.deck_model.specs.declared.decks.Item.{Item}
use Rattle.deck_model.specs.declared.decks.Placed.{Placed}
use Rattle.deck_loader.proofs.Cards.{none_case}
use Rattle.link_model.proofs.Moving.{moved, ItemsKnown, Known}
use Rattle.link_model.specs.Linked.{is_named, name_place, whole_length, label_of}
use Rattle.link_model.proofs.Links.{first_item, labels, LabelsAre, LaterItems, Links, Fits}
use Rattle.link_model.specs.Link.{is_far_label}
use Rattle.link_model.specs.Loading.{found_address, listed_address, name_address}
use Rattle.link_model.specs.Linked.{linked_cards}
use Rattle.deck_cards.specs.NumberedCards.{numbered, deck_bytes}
use Rattle.link_model.proofs.LinkedBytes.{placed_one, one_found, one_places, sub_none}
use Rattle.link_model.proofs.Values.{name_moved}
use Rattle.link_model.proofs.Origins.{moved_places}
use Rattle.link_model.proofs.LinkedViolation.{label_defines, unnamed_defines}
use Rattle.link_model.proofs.Fitting.{far_case}
use Rattle.link_model.proofs.CardLists.{linked_lists}
use Rattle.link_model.proofs.WrittenCards.{linked_listing}

-- both define the name, the second as a label of the first, or none does
abbrev Alike : List Placed → Option Item → Option Item → Type 0
Alike ps None None = Unit {0}
Alike ps None (Some j) = ⊥
Alike ps (Some i) None = ⊥
Alike ps (Some i) (Some j) = (j.item ≡ label_of ps i) × (j.owner ≡ 0) × (is_named i ≡ true) × (is_far_label ps i ≡ false)

alike_case : (b c : Bool) (ps : List Placed) (i j : Item) (r s : Option Item) → c ≡ b → j.item ≡ label_of ps i → j.owner ≡ 0 → is_named i ≡ true → is_far_label ps i ≡ false → Alike ps r s → Alike ps (cond b (Some i) r) (cond c (Some j) s)
alike_case true c ps i j r s e a o n f h = subst (λ x. Alike ps (Some i) (cond x (Some j) s)) (sym e) (a, o, n, f)
alike_case false c ps i j r s e a o n f h = subst (λ x. Alike ps r (cond x (Some j) s)) (sym e) h

named_case : (b : Bool) (q : ℕ) (ps : List Placed) (i : Item) (is js : List Item) → is_named i ≡ b → is_far_label ps i ≡ false → ((ks : List Item) → LabelsAre (labels ps is) ks → Alike ps (find (defines q) is) (find (defines q) ks)) → LabelsAre (cond b (label_of ps i ∷ labels ps is) (labels ps is)) js → Alike ps (cond (defines q i) (Some i) (find (defines q) is)) (find (defines q) js)
named_case true q ps i is [] e f ih h = absurd h
named_case true q ps i is (j ∷ js) e f ih h = alike_case (defines q i) (defines q j) ps i j (find (defines q) is) (find (defines q) js) (label_defines ps i j q h.0 e) h.0 h.1 e f (ih js h.2)
named_case false q ps i is js e f ih h =
    let n : defines q i ≡ false = unnamed_defines (names i.item.sort) (eqb (name_of i) 0x4040404040404040) (eqb (name_of i) q) e in
    subst (λ x. Alike ps (cond x (Some i) (find (defines q) is)) (find (defines q) js)) (sym n) (ih js h)

all_alike : (q : ℕ) (ps : List Placed) (is js : List Item) → find (is_far_label ps) is ≡ None → LabelsAre (labels ps is) js → Alike ps (find (defines q) is) (find (defines q) js)
all_alike q ps [] [] f h = tt
all_alike q ps [] (j ∷ js) f h = absurd h
all_alike q ps (i ∷ is) js f h =
    let e = none_case (is_far_label ps i) i (find (is_far_label ps) is) f in
    named_case (is_named i) q ps i is js refl e.0 (λ ks k. all_alike q ps is ks e.1 k) h

names_alike : (q n : ℕ) (ps : List Placed) (is js : List Item) → find (is_far_label ps) is ≡ None → LaterItems (labels ps is) n js → Alike ps (find (defines q) is) (find (defines q) js)
names_alike q n ps is [] f h = absurd h
names_alike q n ps is (j ∷ js) f h =
    let e : defines q j ≡ false = ap (defines q) h.0 in
    subst (λ b. Alike ps (find (defines q) is) (cond b (Some j) (find (defines q) js))) (sym e) (all_alike q ps is js f h.1)

sum_case : (b : Bool) (o x : ℕ) → (b && (ltb x 4294967296 || ltb 4311744511 x)) ≡ false → (o + 4294967296 + cond b (x - 4294967296) x) % 4294967296 ≡ (x + o) % 4294967296
sum_case true o x h =
    let l : 4294967296 ≤ x = grind (arith, nat_tests) in
    let e : o + 4294967296 + (x - 4294967296) ≡ x + o = omega arith in
    ap (λ y. y % 4294967296) e
sum_case false o x h = omega arith

-- the load address of the label of a name
label_load : (n o : ℕ) (ps : List Placed) (i j : Item) → j.item ≡ label_of ps i → j.owner ≡ 0 → load_address (placed_one n o ∷ []) j ≡ o + 4294967296 + name_place ps i
label_load n o ps i j e f =
    let qs = placed_one n o ∷ [] in
    let s : is_label j.item.sort ≡ true = ap (λ (x : EsdItem). is_label x.sort) e in
    let x : j.item.extent ≡ 1 = ap (λ (k : EsdItem). k.extent) e in
    let a : j.item.address ≡ name_place ps i = ap (λ (k : EsdItem). k.address) e in
    let p : section qs j.owner j.item.extent ≡ placed_one n o = ap (λ w. section qs w j.item.extent) f ∙ (ap (section qs 0) x ∙ one_found n o) in
    ap (λ b. cond b (let q = section qs j.owner j.item.extent in q.at + 4294967296 + j.item.address - q.item.item.address) (section qs j.owner j.id).at) s
    ∙ (ap (λ (q : Placed). q.at + 4294967296 + j.item.address - q.item.item.address) p
    ∙ (sub_none (o + 4294967296 + j.item.address) ∙ ap (λ y. o + 4294967296 + y) a))

alike_load : (n o : ℕ) (ps : List Placed) (r s : Option Item) → Alike ps r s → defined_at (placed_one n o ∷ []) s % 4294967296 ≡ (defined_at ps r + cond (is_item_found r) o 0) % 4294967296
alike_load n o ps None None h = refl
alike_load n o ps None (Some j) h = absurd h
alike_load n o ps (Some i) None h = absurd h
alike_load n o ps (Some i) (Some j) h =
    ap (λ y. y % 4294967296) (label_load n o ps i j h.0 h.1)
    ∙ sum_case (is_label i.item.sort) o (load_address ps i) (far_case (is_label i.item.sort) (eqb (name_of i) 0x4040404040404040) (names i.item.sort) (ltb (load_address ps i) 4294967296 || ltb 4311744511 (load_address ps i)) h.2 h.3)

alike_found : (ps : List Placed) (r s : Option Item) → Alike ps r s → is_item_found s ≡ is_item_found r
alike_found ps None None h = refl
alike_found ps None (Some j) h = absurd h
alike_found ps (Some i) None h = absurd h
alike_found ps (Some i) (Some j) h = refl

pub same_names : (l j : Listing) (e q : ℕ) → Links l j e → find (is_far_label (places 0 l)) l.items ≡ None → is_item_found (find (defines q) j.items) ≡ is_item_found (find (defines q) l.items)
same_names l j e q t f = let ps = places 0 l in alike_found ps (find (defines q) l.items) (find (defines q) j.items) (names_alike q (whole_length ps) ps l.items j.items f t.items)

deck_name : (o k : ℕ) (l : Listing) (q : ℕ) → o ≡ 8 * k → Known l → defined_at (places o l) (find (defines q) l.items) ≡ defined_at (places 0 l) (find (defines q) l.items) + cond (is_item_found (find (defines q) l.items)) o 0
unfolding places
deck_name o k l q h n = ap (λ ps. defined_at ps (find (defines q) l.items)) (moved_places o k l h) ∙ name_moved o l.items l.texts q n.items

pub names_loaded : (o k : ℕ) (l j : Listing) (e q : ℕ) → o ≡ 8 * k → 0 < whole_length (places 0 l) → Known l → Links l j e → find (is_far_label (places 0 l)) l.items ≡ None → defined_at (places o j) (find (defines q) j.items) % 4294967296 ≡ defined_at (places o l) (find (defines q) l.items) % 4294967296
names_loaded o k l j e q h z n t f =
    let ps = places 0 l in
    let w : ℕ = whole_length ps in
    ap (λ qs. defined_at qs (find (defines q) j.items) % 4294967296) (one_places o k l j e h z t)
    ∙ (alike_load w o ps (find (defines q) l.items) (find (defines q) j.items) (names_alike q w ps l.items j.items f t.items)
    ∙ ap (λ y. y % 4294967296) (sym (deck_name o k l q h n)))

-- ---- where a name is loaded

found_same : (ps qs : List Placed) (r s : Option Item) → is_item_found s ≡ is_item_found r → defined_at qs s % 4294967296 ≡ defined_at ps r % 4294967296 → found_address qs s ≡ found_address ps r
found_same ps qs None None e h = refl
found_same ps qs None (Some j) e h = absurd (grind (arith, nat_tests))
found_same ps qs (Some i) None e h = absurd (grind (arith, nat_tests))
found_same ps qs (Some i) (Some j) e h = ap Some h

pub names_found : (o k q : ℕ) (l : Listing) (e : ℕ) → o ≡ 8 * k → Fits l e → find (is_far_label (places 0 l)) l.items ≡ None → name_address o q (deck_bytes 1 (linked_cards l e)) ≡ listed_address o q (Ok l)
unfolding name_address
names_found o k q l e h f n =
    let j = listing_of (numbered 1 0 (linked_cards l e)) in
    let t = linked_lists l e in
    ap (listed_address o q) (linked_listing l e f)
    ∙ found_same (places o l) (places o j) (find (defines q) l.items) (find (defines q) j.items) (same_names l j e q t n) (names_loaded o k l j e q h f.linkable.5 f.linkable.0 t n)
