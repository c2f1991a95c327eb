-- The linked deck has the image of the deck at each origin: the bytes.
use Rattle.std.proofs.Common.{◌≡◌, ℕ, zero, suc, ◌+◌, ◌-◌, ◌*◌, ◌<◌, ◌≤◌, Bool, true, false, cond, not, leb, ltb, eqb, ◌&&◌, ◌||◌, List, [], ◌∷◌, ◌++◌, length, get_or, map, reverse, Option, Some, None, refl, sym, ◌∙◌, append-nil, zero-add, ap, subst, arith, ◌⊎◌, inl, inr}
use Rattle.std.proofs.lemmas.Bool.Decides.{nat_tests}
use Rattle.std.proofs.lemmas.Bool.{cases_lt}
use Rattle.std.proofs.lemmas.Grind.{reverse_onto}
use Rattle.std.proofs.lemmas.List.{map-append}
use Rattle.std.specs.List.{find}
use Rattle.deck_model.specs.Deck.{Listing, is_label, is_section}
use Rattle.deck_model.specs.Image.{length_of, has_id, is_section_found, is_placed, aligned, place, places, section, or_nowhere, text_at, constant_at, text_byte, value, value_of, value_by, image_byte, bytes_from, relocated_byte}
use Rattle.deck_model.specs.declared.cards.EsdItem.{EsdItem}
use Rattle.deck_model.specs.declared.cards.RldItem.{RldItem}
use Rattle.deck_model.specs.declared.cards.Sort.TheVariants.{Section, Private, Label, External, Weak}
use Rattle.deck_model.specs.declared.decks.Item.{Item}
use Rattle.deck_model.specs.declared.decks.Placed.{Placed}
use Rattle.deck_model.specs.declared.decks.Text.{Text}
use Rattle.deck_model.specs.declared.decks.Relocation.{Relocation}
use Rattle.deck_loader.specs.Listed.{TextsKnown}
use Rattle.deck_loader.specs.Written.{AreInside, ConstantsAreInside}
use Rattle.deck_loader.proofs.Text.{bytes_from_same}
use Rattle.link_model.proofs.Relative.{Relative, whole, folded, late, by_origin, kept}
use Rattle.deck_cards.specs.TextCards.{Run, run_byte, reaches}
use Rattle.link_model.specs.Linked.{is_named, whole_length, label_of, moves, moves_found}
use Rattle.link_model.proofs.Moving.{relative, relatives, Known}
use Rattle.link_model.proofs.Links.{first_item, labels, LabelsAre, LaterItems, TextsAre, constant_item, constants_of, ConstantsAre, Links, Linkable, linked_runs}
use Rattle.link_model.proofs.Bytes.{same_byte}
use Rattle.link_model.proofs.Moved.{tests_moved, offset_moved}
use Rattle.link_model.proofs.Folded.{folds}
use Rattle.link_model.proofs.Values.{image_moved, image_low, image_folded, whole_same}
use Rattle.link_model.proofs.Standing.{runs_hold}

-- ---- the one section

labels_sort : (ps : List Placed) (b : Bool) (i : Item) (is : List Item) (js : List Item) → ((ks : List Item) → LabelsAre (labels ps is) ks → (from : ℕ) (texts : List Text) → place from texts ks ≡ []) → LabelsAre (cond b (label_of ps i ∷ labels ps is) (labels ps is)) js → (from : ℕ) (texts : List Text) → place from texts js ≡ []
labels_sort ps true i is [] ih h from texts = absurd h
labels_sort ps true i is (j ∷ js) ih h from texts =
    let s : is_section j.item.sort ≡ false = ap (λ (e : EsdItem). is_section e.sort) h.0 in
    rw s (ih js h.2 from texts)
labels_sort ps false i is js ih h from texts = ih js h from texts

labels_unplaced : (ps : List Placed) (is js : List Item) → LabelsAre (labels ps is) js → (from : ℕ) (texts : List Text) → place from texts js ≡ []
labels_unplaced ps [] [] h from texts = refl
labels_unplaced ps [] (j ∷ js) h from texts = absurd h
labels_unplaced ps (i ∷ is) js h from texts = labels_sort ps (is_named i) i is js (λ ks k. labels_unplaced ps is ks k) h from texts

abbrev pub placed_one : ℕ → ℕ → Placed
placed_one n o = record { item = first_item n; length = n; at = o }

one_length : (n : ℕ) (texts : List Text) → 0 < n → length_of texts (first_item n) ≡ n
one_length n texts h = let e : eqb n 0 ≡ false = grind (arith, nat_tests) in rw e refl

pub one_placed : (o k n : ℕ) (ps : List Placed) (is : List Item) (texts : List Text) (js : List Item) → o ≡ 8 * k → 0 < n → LaterItems (labels ps is) n js → place o texts js ≡ placed_one n o ∷ []
one_placed o k n ps is texts [] e h l = absurd l
one_placed o k n ps is texts (j ∷ js) e h l =
    let a : aligned o ≡ o = omega (arith, e) in
    let m = one_length n texts h in
    ap (λ (i : Item). place o texts (i ∷ js)) l.0
    ∙ (ap (λ qs. record { item = first_item n; length = length_of texts (first_item n); at = aligned o } ∷ qs) (labels_unplaced ps is js l.1 (aligned o + length_of texts (first_item n)) texts)
    ∙ (ap (λ x. record { item = first_item n; length = x; at = aligned o } ∷ []) m
    ∙ ap (λ x. record { item = first_item n; length = n; at = x } ∷ []) a))

pub one_found : (n o : ℕ) → section (placed_one n o ∷ []) 0 1 ≡ placed_one n o
unfolding section
one_found n o = refl

pub sub_none : (x : ℕ) → x - 0 ≡ x
sub_none x = omega arith

one_at : (n o : ℕ) (t : Text) (x : ℕ) → t.owner ≡ 0 → t.id ≡ 1 → t.address ≡ x → text_at (placed_one n o ∷ []) t ≡ o + x
one_at n o t x e f g =
    let ps = placed_one n o ∷ [] in
    let s : section ps t.owner t.id ≡ placed_one n o = ap (λ w. section ps w t.id) e ∙ (ap (section ps 0) f ∙ one_found n o) in
    ap (λ (p : Placed). p.at + (t.address - p.item.item.address)) s ∙ (ap (λ y. o + y) (sub_none t.address) ∙ ap (λ y. o + y) g)

-- ---- text

pub texts_run : (n o : ℕ) (rs : List Run) (ts : List Text) (a before : ℕ) → TextsAre rs ts → text_byte (placed_one n o ∷ []) ts (o + a) before ≡ run_byte rs a before
texts_run n o [] [] a before h = refl
texts_run n o [] (t ∷ ts) a before h = absurd h
texts_run n o (r ∷ rs) [] a before h = absurd h
texts_run n o (r ∷ rs) (t ∷ ts) a before h =
    let ps = placed_one n o ∷ [] in
    let at : text_at ps t ≡ o + r.at = one_at n o t r.at h.0 h.1 h.2 in
    ap (λ x. text_byte ps ts (o + a) (cond (leb x (o + a) && ltb (o + a) (x + length t.bytes.items)) (get_or t.bytes.items (o + a - x) 0) before)) at
    ∙ (ap (λ ys. text_byte ps ts (o + a) (cond (leb (o + r.at) (o + a) && ltb (o + a) (o + r.at + length ys)) (get_or ys (o + a - (o + r.at)) 0) before)) h.3
    ∙ (ap (λ b. text_byte ps ts (o + a) (cond b (get_or r.bytes (o + a - (o + r.at)) 0) before)) (tests_moved o r.at (length r.bytes) a)
    ∙ (ap (λ x. text_byte ps ts (o + a) (cond (reaches r.at (length r.bytes) a) (get_or r.bytes x 0) before)) (offset_moved o r.at a)
    ∙ texts_run n o rs ts a (cond (reaches r.at (length r.bytes) a) (get_or r.bytes (a - r.at) 0) before) h.4)))

-- ---- constants

late_case : (b : Bool) (o : ℕ) (r : Relative) (rs : List Relative) (f : ℕ → ℕ) → ((a : ℕ) → late o rs f a ≡ whole o (kept rs) f a) → (a : ℕ) → cond b (relocated_byte r.at r.width r.minus (o + 4294967296) (late o rs f)) (late o rs f) a ≡ whole o (cond b (by_origin r ∷ kept rs) (kept rs)) f a
late_case true o r rs f ih a =
    let e : o + 4294967296 ≡ 4294967296 + o = omega arith in
    ap (λ v. relocated_byte r.at r.width r.minus v (late o rs f) a) e
    ∙ same_byte r.at r.width r.minus (4294967296 + o) (late o rs f) (whole o (kept rs) f) ih a
late_case false o r rs f ih a = ih a

late_kept : (o : ℕ) (rs : List Relative) (f : ℕ → ℕ) (a : ℕ) → late o rs f a ≡ whole o (kept rs) f a
late_kept o [] f a = refl
late_kept o (r ∷ rs) f a = late_case r.moves o r rs f (λ b. late_kept o rs f b) a

-- a relocation of the linked deck, by itself
one_constant : (n o : ℕ) (s : Relocation) (x : ℕ) → s.owner ≡ 0 → s.item.place ≡ 1 → s.item.address ≡ x → constant_at (placed_one n o ∷ []) s ≡ o + x
one_constant n o s x e f g =
    let ps = placed_one n o ∷ [] in
    let p : section ps s.owner s.item.place ≡ placed_one n o = ap (λ w. section ps w s.item.place) e ∙ (ap (section ps 0) f ∙ one_found n o) in
    ap (λ (q : Placed). q.at + (s.item.address - q.item.item.address)) p ∙ (ap (λ y. o + y) (sub_none s.item.address) ∙ ap (λ y. o + y) g)

pub one_item : (es : List EsdItem) (n : ℕ) (js : List Item) → LaterItems es n js → find (has_id 0 1) js ≡ Some (first_item n)
one_item es n [] h = absurd h
one_item es n (j ∷ js) h = ap (λ (i : Item). find (has_id 0 1) (i ∷ js)) h.0

one_target : (es : List EsdItem) (n : ℕ) (js : List Item) (s : Relocation) → LaterItems es n js → s.owner ≡ 0 → s.item.target ≡ 1 → find (has_id s.owner s.item.target) js ≡ Some (first_item n)
one_target es n js s h e f = ap (λ w. find (has_id w s.item.target) js) e ∙ (ap (λ d. find (has_id 0 d) js) f ∙ one_item es n js h)

one_value : (es : List EsdItem) (n o : ℕ) (js : List Item) (s : Relocation) → LaterItems es n js → s.owner ≡ 0 → s.item.target ≡ 1 → value js (placed_one n o ∷ []) s ≡ o + 4294967296
one_value es n o js s h e f =
    let ps = placed_one n o ∷ [] in
    let z : o + 4294967296 - 0 ≡ o + 4294967296 = omega arith in
    ap (value_of js ps) (one_target es n js s h e f) ∙ (ap (λ (p : Placed). p.at + 4294967296 - 0) (one_found n o) ∙ z)

one_moves : (es : List EsdItem) (n : ℕ) (js : List Item) (s : Relocation) → LaterItems es n js → s.owner ≡ 0 → s.item.target ≡ 1 → moves js s ≡ true
one_moves es n js s h e f = ap (moves_found js) (one_target es n js s h e f)

abbrev AllKept : List Relative → Type 0
AllKept [] = Unit {0}
AllKept (r ∷ rs) = (r.value ≡ 4294967296) × (r.moves ≡ true) × AllKept rs

-- the relocations of the linked deck are those that are kept
relatives_are : (es : List EsdItem) (n : ℕ) (js : List Item) (rs : List Relative) (ss : List Relocation) → LaterItems es n js → ConstantsAre rs ss → AllKept rs → map (relative js (placed_one n 0 ∷ [])) ss ≡ rs
relatives_are es n js [] [] h c k = refl
relatives_are es n js [] (s ∷ ss) h c k = absurd c
relatives_are es n js (r ∷ rs) [] h c k = absurd c
relatives_are es n js (r ∷ rs) (s ∷ ss) h c k =
    let ps = placed_one n 0 ∷ [] in
    let i = c.1 in
    let target : s.item.target ≡ 1 = ap (λ (x : RldItem). x.target) i in
    let place : s.item.place ≡ 1 = ap (λ (x : RldItem). x.place) i in
    let address : s.item.address ≡ r.at = ap (λ (x : RldItem). x.address) i in
    let z : 0 + r.at ≡ r.at = omega arith in
    let so : ℕ → RldItem → ℕ → Bool → Relative = λ a x v b. record { at = a; width = x.width; minus = x.minus; v_type = x.v_type; value = v; moves = b } in
    ap (λ a. so a s.item (value js ps s) (moves js s) ∷ map (relative js ps) ss) (one_constant n 0 s r.at c.0 place address ∙ z)
    ∙ (ap (λ x. so r.at x (value js ps s) (moves js s) ∷ map (relative js ps) ss) i
    ∙ (ap (λ v. so r.at (constant_item r) v (moves js s) ∷ map (relative js ps) ss) (one_value es n 0 js s h c.0 target ∙ sym k.0)
    ∙ (ap (λ b. so r.at (constant_item r) r.value b ∷ map (relative js ps) ss) (one_moves es n js s h c.0 target ∙ sym k.1)
    ∙ ap (λ xs. r ∷ xs) (relatives_are es n js rs ss h c.2 k.2))))

kept_case : (b : Bool) (r : Relative) (rs : List Relative) → AllKept (kept rs) → AllKept (cond b (by_origin r ∷ kept rs) (kept rs))
kept_case true r rs h = (refl, refl, h)
kept_case false r rs h = h

all_kept : (rs : List Relative) → AllKept (kept rs)
all_kept [] = tt
all_kept (r ∷ rs) = kept_case r.moves r rs (all_kept rs)

-- ---- the last first

map_reverse : (f : Relocation → Relative) (rs : List Relocation) → map f (reverse rs) ≡ reverse (map f rs)
map_reverse f [] = refl
map_reverse f (r ∷ rs) = ap (map f) (reverse_onto rs r []) ∙ (map-append f (reverse rs) (r ∷ []) ∙ (ap (λ xs. xs ++ f r ∷ []) (map_reverse f rs) ∙ sym (reverse_onto (map f rs) (f r) [])))

kept_append_case : (b : Bool) (r : Relative) (rs ss : List Relative) → kept (rs ++ ss) ≡ kept rs ++ kept ss → cond b (by_origin r ∷ kept (rs ++ ss)) (kept (rs ++ ss)) ≡ cond b (by_origin r ∷ kept rs) (kept rs) ++ kept ss
kept_append_case true r rs ss h = ap (λ xs. by_origin r ∷ xs) h
kept_append_case false r rs ss h = h

kept_last : (b : Bool) (r : Relative) (ks : List Relative) → reverse ks ++ cond b (by_origin r ∷ []) [] ≡ reverse (cond b (by_origin r ∷ ks) ks)
kept_last true r ks = sym (reverse_onto ks (by_origin r) [])
kept_last false r ks = append-nil (reverse ks)

kept_append : (rs ss : List Relative) → kept (rs ++ ss) ≡ kept rs ++ kept ss
kept_append [] ss = refl
kept_append (r ∷ rs) ss = kept_append_case r.moves r rs ss (kept_append rs ss)

kept_reverse : (rs : List Relative) → kept (reverse rs) ≡ reverse (kept rs)
kept_reverse [] = refl
kept_reverse (r ∷ rs) = ap kept (reverse_onto rs r []) ∙ (kept_append (reverse rs) (r ∷ []) ∙ (ap (λ xs. xs ++ kept (r ∷ [])) (kept_reverse rs) ∙ kept_last r.moves r (kept rs)))

-- ---- the bytes

pub one_places : (o k : ℕ) (l j : Listing) (e : ℕ) → o ≡ 8 * k → 0 < whole_length (places 0 l) → Links l j e → places o j ≡ placed_one (whole_length (places 0 l)) o ∷ []
unfolding places
one_places o k l j e h z t = one_placed o k (whole_length (place 0 l.texts l.items)) (place 0 l.texts l.items) l.items j.texts j.items h z t.items

relatives_kept : (l j : Listing) (e : ℕ) → 0 < whole_length (places 0 l) → Links l j e → relatives j (places 0 j) ≡ kept (relatives l (places 0 l))
relatives_kept l j e z t =
    let ps = places 0 l in
    let n : ℕ = whole_length ps in
    let f = relative l.items ps in
    let p : places 0 j ≡ placed_one n 0 ∷ [] = one_places 0 0 l j e refl z t in
    ap (λ qs. map (relative j.items qs) (reverse j.relocations)) p
    ∙ (map_reverse (relative j.items (placed_one n 0 ∷ [])) j.relocations
    ∙ (ap reverse (relatives_are (labels ps l.items) n j.items (kept (map f l.relocations)) j.relocations t.items t.constants (all_kept (map f l.relocations)))
    ∙ (sym (kept_reverse (map f l.relocations)) ∙ ap kept (sym (map_reverse f l.relocations)))))

pub bytes_above : (o k : ℕ) (l j : Listing) (e a : ℕ) → o ≡ 8 * k → Linkable l → Known j → Links l j e → image_byte j (places o j) (o + a) ≡ image_byte l (places o l) (o + a)
bytes_above o k l j e a h m kj t =
    let ps = places 0 l in
    let n : ℕ = whole_length ps in
    let rs = relatives l ps in
    let text : (b : ℕ) → text_byte (places 0 j) j.texts b 0 ≡ folded rs (λ c. text_byte ps l.texts c 0) b =
    λ b. ap (λ qs. text_byte qs j.texts b 0) (one_places 0 0 l j e refl m.5 t)
    ∙ (ap (λ x. text_byte (placed_one n 0 ∷ []) j.texts x 0) (sym (zero-add b))
    ∙ (texts_run n 0 (linked_runs l) j.texts b 0 t.texts
    ∙ (runs_hold l n b m.3 m.4 ∙ image_folded l b))) in
    image_moved o k j a h kj
    ∙ (ap (λ qs. whole o qs (λ b. text_byte (places 0 j) j.texts b 0) a) (relatives_kept l j e m.5 t)
    ∙ (whole_same o (kept rs) (λ b. text_byte (places 0 j) j.texts b 0) (folded rs (λ c. text_byte ps l.texts c 0)) text a
    ∙ (sym (late_kept o rs (folded rs (λ c. text_byte ps l.texts c 0)) a)
    ∙ (sym (folds o rs (λ c. text_byte ps l.texts c 0) m.2 m.1 a) ∙ sym (image_moved o k l a h m.0)))))

bytes_case : (o k : ℕ) (l j : Listing) (e a : ℕ) → o ≡ 8 * k → Linkable l → Known j → Links l j e → (a < o) ⊎ (o ≤ a) → image_byte j (places o j) a ≡ image_byte l (places o l) a
bytes_case o k l j e a h m kj t (inl low) = image_low o k j a h low kj ∙ sym (image_low o k l a h low m.0)
bytes_case o k l j e a h m kj t (inr high) =
    let s : o + (a - o) ≡ a = omega arith in
    subst (λ x. image_byte j (places o j) x ≡ image_byte l (places o l) x) s (bytes_above o k l j e (a - o) h m kj t)

pub bytes_same : (o k size : ℕ) (l j : Listing) (e : ℕ) → o ≡ 8 * k → Linkable l → Known j → Links l j e → bytes_from (image_byte j (places o j)) 0 size ≡ bytes_from (image_byte l (places o l)) 0 size
bytes_same o k size l j e h m kj t = bytes_from_same (image_byte j (places o j)) (image_byte l (places o l)) 0 size (λ a x y. bytes_case o k l j e a h m kj t (cases_lt a o))
