-- Looking up by the first place of a key is looking up in the list.
use Rattle.std.proofs.Common.{◌≡◌, ◌≢◌, ℕ, suc, ◌+◌, ◌*◌, ◌<◌, Bool, true, false, cond, not, eqb, ◌&&◌, List, [], ◌∷◌, ◌++◌, length, get_or, map, Option, Some, None, refl, sym, ◌∙◌, ap, arith, append_assoc, length-append, All}
use Rattle.std.proofs.lemmas.Bool.Decides.{nat_tests}
use Rattle.std.specs.List.{find, slice_get}
use Rattle.deck_model.specs.Deck.{is_label}
use Rattle.deck_model.specs.Image.{has_id, defines, name_of, names, blank_name, is_placed}
use Rattle.deck_model.specs.declared.decks.Item.{Item}
use Rattle.deck_model.specs.declared.decks.Placed.{Placed}
use Rattle.deck_loader.specs.Keys.{is_key, first_at, item_key, at_place}
use Rattle.deck_loader.specs.ItemKeys.{id_key, name_key, placed_key}

pub get_seam : {X : Type 0} → (pre : List X) (x : X) (xs : List X) → slice_get (pre ++ x ∷ xs) (length pre) ≡ Some x
get_seam [] x xs = refl
get_seam (p ∷ pre) x xs = get_seam pre x xs

pub found_or : {X : Type 0} → (whole : List X) (b : Bool) (n : ℕ) (x : X) (o : Option ℕ) (r : Option X) → slice_get whole n ≡ Some x → at_place whole o ≡ r → at_place whole (cond b (Some n) o) ≡ cond b (Some x) r
found_or whole true n x o r h k = h
found_or whole false n x o r h k = k

pub place_found : {X : Type 0} → (p : X → Bool) (key : X → Option ℕ) (q : ℕ) (pre xs : List X) → ((k : ℕ) (d : X) → k < length xs → is_key q (key (get_or xs k d)) ≡ p (get_or xs k d)) → at_place (pre ++ xs) (first_at q (length pre) (map key xs)) ≡ find p xs
place_found p key q pre [] same = refl
place_found {X} p key q pre (x ∷ xs) same =
    let whole : (pre ++ x ∷ []) ++ xs ≡ pre ++ x ∷ xs = append_assoc pre (x ∷ []) xs in
    let n : length (pre ++ x ∷ []) ≡ length pre + 1 = length-append pre (x ∷ []) in
    let r = place_found p key q (pre ++ x ∷ []) xs (λ k d h. same (suc k) d (omega arith)) in
    let tail : at_place (pre ++ x ∷ xs) (first_at q (length pre + 1) (map key xs)) ≡ find p xs =
    ap (λ w. at_place w (first_at q (length pre + 1) (map key xs))) (sym whole) ∙ (ap (λ m. at_place ((pre ++ x ∷ []) ++ xs) (first_at q m (map key xs))) (sym n) ∙ r) in
    found_or (pre ++ x ∷ xs) (is_key q (key x)) (length pre) x (first_at q (length pre + 1) (map key xs)) (find p xs) (get_seam pre x xs) tail
    ∙ ap (λ b. cond b (Some x) (find p xs)) (same 0 x (omega arith))

-- ---- ESDIDs

one_case : (a b c d : ℕ) (x y : Bool) → b < 4294967296 → d < 4294967296 → eqb a c ≡ x → eqb b d ≡ y → eqb (a * 4294967296 + b) (c * 4294967296 + d) ≡ (x && y)
one_case a b c d true true h k e f =
    let s : a ≡ c = grind (arith, nat_tests) in
    let t : b ≡ d = grind (arith, nat_tests) in
    let u : a * 4294967296 + b ≡ c * 4294967296 + d = omega (arith, s, t) in
    grind (arith, nat_tests, u)
one_case a b c d true false h k e f =
    let s : a ≡ c = grind (arith, nat_tests) in
    let t : b ≢ d = grind (arith, nat_tests) in
    let u : a * 4294967296 + b ≢ c * 4294967296 + d = omega (arith, s, t) in
    grind (arith, nat_tests, u)
one_case a b c d false y h k e f =
    let s : a ≢ c = grind (arith, nat_tests) in
    let u : a * 4294967296 + b ≢ c * 4294967296 + d = omega (arith, s, h, k) in
    grind (arith, nat_tests, u)

pub one_number : (a b c d : ℕ) → b < 4294967296 → d < 4294967296 → eqb (a * 4294967296 + b) (c * 4294967296 + d) ≡ (eqb a c && eqb b d)
one_number a b c d h k = one_case a b c d (eqb a c) (eqb b d) h k refl refl

pub id_key_is : (label : Bool) (a b c d : ℕ) → b < 4294967296 → d < 4294967296 → is_key (c * 4294967296 + d) (cond label None (Some (a * 4294967296 + b))) ≡ (not label && (eqb a c && eqb b d))
id_key_is true a b c d h k = refl
id_key_is false a b c d h k = one_number a b c d h k

pub item_found : (items : List Item) (owner id : ℕ) → id < 4294967296 → All (λ (i : Item). i.id < 4294967296) items → at_place items (first_at (item_key owner id) 0 (map id_key items)) ≡ find (has_id owner id) items
item_found items owner id h all = place_found (has_id owner id) id_key (item_key owner id) [] items (λ k d l. let i = get_or items k d in id_key_is (is_label i.item.sort) i.owner i.id owner id (all k d l) h)

-- ---- names

pub name_key_is : (named blank : Bool) (n q : ℕ) → is_key q (cond named (cond blank None (Some n)) None) ≡ (named && (not blank && eqb n q))
name_key_is true true n q = refl
name_key_is true false n q = refl
name_key_is false blank n q = refl

pub name_found : (items : List Item) (name : ℕ) → at_place items (first_at name 0 (map name_key items)) ≡ find (defines name) items
name_found items name = place_found (defines name) name_key name [] items (λ k d l. let i = get_or items k d in name_key_is (names i.item.sort) (eqb (name_of i) blank_name) (name_of i) name)

-- ---- sections

pub section_found : (placed : List Placed) (owner id : ℕ) → id < 4294967296 → All (λ (p : Placed). p.item.id < 4294967296) placed → at_place placed (first_at (item_key owner id) 0 (map placed_key placed)) ≡ find (is_placed owner id) placed
section_found placed owner id h all = place_found (is_placed owner id) placed_key (item_key owner id) [] placed (λ k d l. let p = get_or placed k d in one_number p.item.owner p.item.id owner id (all k d l) h)
