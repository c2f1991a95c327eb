-- A deck at an origin has each byte of the deck at 0 at its place above the origin.
use Rattle.std.proofs.Common.{◌≡◌, ℕ, zero, suc, ◌+◌, ◌-◌, ◌*◌, ◌/◌, ◌<◌, ◌≤◌, Bool, true, false, cond, not, leb, ltb, eqb, ◌&&◌, List, [], ◌∷◌, ◌++◌, length, get_or, map, reverse, Option, Some, None, refl, sym, ◌∙◌, ap, subst, arith, add-zero, add_assoc}
use Rattle.std.proofs.lemmas.Bool.Decides.{nat_tests}
use Rattle.std.specs.List.{find}
use Rattle.deck_model.specs.Deck.{Listing, is_label, is_section}
use Rattle.deck_model.specs.Image.{has_id, defines, name_of, names, is_section_found, is_item_found, is_placed, aligned, length_of, place, places, section, or_nowhere, text_at, constant_at, text_byte, load_address, defined_at, value_by, value_of, value, relocated_byte, byte_after, image_byte}
use Rattle.deck_model.specs.declared.cards.Sort.{Sort}
use Rattle.deck_model.specs.declared.cards.Sort.TheVariants.{Section, Private, Label, External, Weak}
use Rattle.deck_model.specs.declared.decks.Item.{Item}
use Rattle.deck_model.specs.declared.decks.Placed.{Placed}
use Rattle.deck_model.specs.declared.decks.Text.{Text}
use Rattle.deck_model.specs.declared.decks.Relocation.{Relocation}
use Rattle.deck_loader.specs.Listed.{TextsKnown}
use Rattle.deck_loader.proofs.Inside.{PlacedAs, placed_for}
use Rattle.link_model.proofs.Moving.{moved, LabelKnown, ItemsKnown}

-- ---- sections

aligned_moved : (o k n : ℕ) → o ≡ 8 * k → aligned (o + n) ≡ o + aligned n
aligned_moved o k n e = omega (arith, e)

place_case : (b : Bool) (o : ℕ) (p q : Placed) (xs ys xs' ys' : List Placed) → q ≡ moved o p → xs' ≡ map (moved o) xs → ys' ≡ map (moved o) ys → cond b (q ∷ xs') ys' ≡ map (moved o) (cond b (p ∷ xs) ys)
place_case true o p q xs ys xs' ys' e f g = ap (λ z. z ∷ xs') e ∙ ap (λ zs. moved o p ∷ zs) f
place_case false o p q xs ys xs' ys' e f g = g

pub place_moved : (o k from : ℕ) (texts : List Text) (items : List Item) → o ≡ 8 * k → place (o + from) texts items ≡ map (moved o) (place from texts items)
place_moved o k from texts [] e = refl
place_moved o k from texts (i ∷ is) e =
    let n : ℕ = length_of texts i in
    let p : Placed = record { item = i; length = n; at = aligned from } in
    let at : aligned (o + from) ≡ o + aligned from = aligned_moved o k from e in
    let next : aligned (o + from) + n ≡ o + (aligned from + n) = omega (arith, at) in
    place_case (is_section i.item.sort) o p (record p { at = aligned (o + from) }) (place (aligned from + n) texts is) (place from texts is) (place (aligned (o + from) + n) texts is) (place (o + from) texts is)
    (ap (λ a. record p { at = a }) at)
    (ap (λ a. place a texts is) next ∙ place_moved o k (aligned from + n) texts is e)
    (place_moved o k from texts is e)

abbrev pub moved_found : ℕ → Option Placed → Option Placed
moved_found o None = None
moved_found o (Some p) = Some (moved o p)

found_case : (b : Bool) (o : ℕ) (p : Placed) (r s : Option Placed) → r ≡ moved_found o s → cond b (Some (moved o p)) r ≡ moved_found o (cond b (Some p) s)
found_case true o p r s e = refl
found_case false o p r s e = e

pub find_moved : (o : ℕ) (q : Placed → Bool) (ps : List Placed) → ((p : Placed) → q (moved o p) ≡ q p) → find q (map (moved o) ps) ≡ moved_found o (find q ps)
find_moved o q [] h = refl
find_moved o q (p ∷ ps) h =
    ap (λ b. cond b (Some (moved o p)) (find q (map (moved o) ps))) (h p)
    ∙ found_case (q p) o p (find q (map (moved o) ps)) (find q ps) (find_moved o q ps h)

-- a section is there
abbrev pub Is : Option Placed → Type 0
Is None = ⊥
Is (Some p) = Unit {0}

abbrev pub Has : List Placed → ℕ → ℕ → Type 0
Has ps owner id = Is (find (is_placed owner id) ps)

or_moved : (o : ℕ) (r : Option Placed) → Is r → or_nowhere (moved_found o r) ≡ moved o (or_nowhere r)
or_moved o None h = absurd h
or_moved o (Some p) h = refl

pub section_moved : (o : ℕ) (ps : List Placed) (owner id : ℕ) → Has ps owner id → section (map (moved o) ps) owner id ≡ moved o (section ps owner id)
unfolding section
section_moved o ps owner id h = ap or_nowhere (find_moved o (is_placed owner id) ps (λ p. refl)) ∙ or_moved o (find (is_placed owner id) ps) h

is_of : (texts : List Text) (o d : ℕ) (r : Option Placed) → PlacedAs texts o d r → Is r
is_of texts o d None h = absurd h
is_of texts o d (Some p) h = tt

pub has_of : (texts : List Text) (items : List Item) (from o d : ℕ) → is_section_found (find (has_id o d) items) ≡ true → Has (place from texts items) o d
has_of texts items from o d h = is_of texts o d (find (is_placed o d) (place from texts items)) (placed_for texts items from o d h)

-- ---- texts

le_case : (b : Bool) (o x y : ℕ) → leb x y ≡ b → leb (o + x) (o + y) ≡ b
le_case true o x y e = let h : x ≤ y = grind (arith, nat_tests) in let k : o + x ≤ o + y = omega arith in grind (arith, nat_tests)
le_case false o x y e = let h : y < x = grind (arith, nat_tests) in let k : o + y < o + x = omega arith in grind (arith, nat_tests)

lt_case : (b : Bool) (o x y : ℕ) → ltb x y ≡ b → ltb (o + x) (o + y) ≡ b
lt_case true o x y e = let h : x < y = grind (arith, nat_tests) in let k : o + x < o + y = omega arith in grind (arith, nat_tests)
lt_case false o x y e = let h : y ≤ x = grind (arith, nat_tests) in let k : o + y ≤ o + x = omega arith in grind (arith, nat_tests)

pub le_moved : (o x y : ℕ) → leb (o + x) (o + y) ≡ leb x y
le_moved o x y = le_case (leb x y) o x y refl

pub lt_moved : (o x y : ℕ) → ltb (o + x) (o + y) ≡ ltb x y
lt_moved o x y = lt_case (ltb x y) o x y refl

le_low : (o at a : ℕ) → a < o → leb (o + at) a ≡ false
le_low o at a h = let n : a < o + at = omega arith in grind (arith, nat_tests)

pub tests_moved : (o at n a : ℕ) → (leb (o + at) (o + a) && ltb (o + a) (o + at + n)) ≡ (leb at a && ltb a (at + n))
tests_moved o at n a =
    let p : leb (o + at) (o + a) ≡ leb at a = le_moved o at a in
    let e : o + at + n ≡ o + (at + n) = omega arith in
    let q : ltb (o + a) (o + at + n) ≡ ltb a (at + n) = ap (ltb (o + a)) e ∙ lt_moved o a (at + n) in
    ap (λ b. b && ltb (o + a) (o + at + n)) p ∙ ap (λ b. leb at a && b) q

pub offset_moved : (o at a : ℕ) → o + a - (o + at) ≡ a - at
offset_moved o at a = omega arith

tests_low : (o at n a : ℕ) → a < o → (leb (o + at) a && ltb a (o + at + n)) ≡ false
tests_low o at n a h = ap (λ b. b && ltb a (o + at + n)) (le_low o at a h)

text_at_moved : (o : ℕ) (ps : List Placed) (t : Text) → Has ps t.owner t.id → text_at (map (moved o) ps) t ≡ o + text_at ps t
text_at_moved o ps t h =
    let p = section ps t.owner t.id in
    let e = section_moved o ps t.owner t.id h in
    ap (λ (q : Placed). q.at + (t.address - q.item.item.address)) e ∙ add_assoc o p.at (t.address - p.item.item.address)

pub text_moved : (o : ℕ) (all : List Text) (items : List Item) (ts : List Text) (a b : ℕ) → TextsKnown items ts → text_byte (map (moved o) (place 0 all items)) ts (o + a) b ≡ text_byte (place 0 all items) ts a b
text_moved o all items [] a b h = refl
text_moved o all items (t ∷ ts) a b h =
    let ps = place 0 all items in
    let n : ℕ = length t.bytes.items in
    let at : ℕ = text_at ps t in
    ap (λ x. text_byte (map (moved o) ps) ts (o + a) (cond (leb x (o + a) && ltb (o + a) (x + n)) (get_or t.bytes.items (o + a - x) 0) b)) (text_at_moved o ps t (has_of all items 0 t.owner t.id h.0))
    ∙ (ap (λ c. text_byte (map (moved o) ps) ts (o + a) (cond c (get_or t.bytes.items (o + a - (o + at)) 0) b)) (tests_moved o at n a)
    ∙ (ap (λ k. text_byte (map (moved o) ps) ts (o + a) (cond (leb at a && ltb a (at + n)) (get_or t.bytes.items k 0) b)) (offset_moved o at a)
    ∙ text_moved o all items ts a (cond (leb at a && ltb a (at + n)) (get_or t.bytes.items (a - at) 0) b) h.1))

pub text_low : (o : ℕ) (all : List Text) (items : List Item) (ts : List Text) (a b : ℕ) → a < o → TextsKnown items ts → text_byte (map (moved o) (place 0 all items)) ts a b ≡ b
text_low o all items [] a b l h = refl
text_low o all items (t ∷ ts) a b l h =
    let ps = place 0 all items in
    let n : ℕ = length t.bytes.items in
    let at : ℕ = text_at ps t in
    ap (λ x. text_byte (map (moved o) ps) ts a (cond (leb x a && ltb a (x + n)) (get_or t.bytes.items (a - x) 0) b)) (text_at_moved o ps t (has_of all items 0 t.owner t.id h.0))
    ∙ (ap (λ c. text_byte (map (moved o) ps) ts a (cond c (get_or t.bytes.items (a - (o + at)) 0) b)) (tests_low o at n a l)
    ∙ text_low o all items ts a b l h.1)

-- ---- values

-- a value with the part that moves
abbrev at_origin : ℕ → ℕ → Bool → ℕ
at_origin o v b = v + cond b o 0

pub minus_moved : (o at a : ℕ) → a ≤ 4294967296 → o + at + 4294967296 - a ≡ at + 4294967296 - a + o
minus_moved o at a h = omega (arith, h)

pub label_moved : (o at x a : ℕ) → a ≤ 4294967296 → o + at + 4294967296 + x - a ≡ at + 4294967296 + x - a + o
label_moved o at x a h = omega (arith, h)

-- a found item is one of the list, with what is known of each
abbrev pub OfFound : (Item → Type 0) → Option Item → Type 0
OfFound P None = Unit {0}
OfFound P (Some i) = P i

abbrev pub KnownItem : List Item → Item → Type 0
KnownItem items i = LabelKnown items (is_label i.item.sort) i × (i.item.address ≤ 4294967296)

known_case : (all : List Item) (b : Bool) (i : Item) (r : Option Item) → KnownItem all i → OfFound (KnownItem all) r → OfFound (KnownItem all) (cond b (Some i) r)
known_case all true i r h k = h
known_case all false i r h k = k

pub found_known : (all is : List Item) (q : Item → Bool) → ItemsKnown all is → OfFound (KnownItem all) (find q is)
found_known all [] q h = tt
found_known all (i ∷ is) q h = known_case all (q i) i (find q is) (h.0, h.1) (found_known all is q h.2)

-- the section at each place has an item whose address is known
abbrev LowAt : Option Placed → Type 0
LowAt None = Unit {0}
LowAt (Some p) = p.item.item.address ≤ 4294967296

low_case : (s b : Bool) (p : Placed) (xs ys : List Placed) (q : Placed → Bool) → q p ≡ b → p.item.item.address ≤ 4294967296 → LowAt (find q xs) → LowAt (find q ys) → LowAt (find q (cond s (p ∷ xs) ys))
low_case true true p xs ys q e h k m = subst (λ c. LowAt (cond c (Some p) (find q xs))) (sym e) h
low_case true false p xs ys q e h k m = subst (λ c. LowAt (cond c (Some p) (find q xs))) (sym e) k
low_case false b p xs ys q e h k m = m

low_at : (all is : List Item) (texts : List Text) (from : ℕ) (q : Placed → Bool) → ItemsKnown all is → LowAt (find q (place from texts is))
low_at all [] texts from q h = tt
low_at all (i ∷ is) texts from q h =
    let n : ℕ = length_of texts i in
    let p : Placed = record { item = i; length = n; at = aligned from } in
    low_case (is_section i.item.sort) (q p) p (place (aligned from + n) texts is) (place from texts is) q refl h.1 (low_at all is texts (aligned from + n) q h.2) (low_at all is texts from q h.2)

low_or : (r : Option Placed) → LowAt r → (or_nowhere r).item.item.address ≤ 4294967296
low_or None h = omega arith
low_or (Some p) h = h

pub section_low : (all is : List Item) (texts : List Text) (from owner id : ℕ) → ItemsKnown all is → (section (place from texts is) owner id).item.item.address ≤ 4294967296
unfolding section
section_low all is texts from owner id h = low_or (find (is_placed owner id) (place from texts is)) (low_at all is texts from (is_placed owner id) h)

-- an item of the list that is a section is placed
is_case : (b : Bool) (p : Placed) (r : Option Placed) → Is r → Is (cond b (Some p) r)
is_case true p r h = tt
is_case false p r h = h

is_placed_case : (s : Bool) (p : Placed) (xs ys : List Placed) (q : Placed → Bool) → Is (find q xs) → Is (find q ys) → Is (find q (cond s (p ∷ xs) ys))
is_placed_case true p xs ys q h k = is_case (q p) p (find q xs) h
is_placed_case false p xs ys q h k = k

itself : (p : Placed) → is_placed p.item.owner p.item.id p ≡ true
itself p = grind (arith, nat_tests)

placed_item : (i : Item) (p : Placed) (xs ys : List Placed) → p.item ≡ i → is_section i.item.sort ≡ true → Is (find (is_placed i.owner i.id) (cond (is_section i.item.sort) (p ∷ xs) ys))
placed_item i p xs ys e h =
    let t : is_placed i.owner i.id p ≡ true = subst (λ (j : Item). is_placed j.owner j.id p ≡ true) e (itself p) in
    subst (λ b. Is (find (is_placed i.owner i.id) (cond b (p ∷ xs) ys))) (sym h)
    (subst (λ b. Is (cond b (Some p) (find (is_placed i.owner i.id) xs))) (sym t) tt)

abbrev pub IsPlacedIn : List Placed → Option Item → Type 0
IsPlacedIn ps None = Unit {0}
IsPlacedIn ps (Some j) = is_section j.item.sort ≡ true → Has ps j.owner j.id

later_item : (s : Bool) (p : Placed) (xs ys : List Placed) (r : Option Item) → IsPlacedIn xs r → IsPlacedIn ys r → IsPlacedIn (cond s (p ∷ xs) ys) r
later_item s p xs ys None h k = tt
later_item s p xs ys (Some j) h k = λ e. is_placed_case s p xs ys (is_placed j.owner j.id) (h e) (k e)

first_item : (b : Bool) (i : Item) (p : Placed) (xs ys : List Placed) (r : Option Item) → p.item ≡ i → IsPlacedIn xs r → IsPlacedIn ys r → IsPlacedIn (cond (is_section i.item.sort) (p ∷ xs) ys) (cond b (Some i) r)
first_item true i p xs ys r e h k = λ s. placed_item i p xs ys e s
first_item false i p xs ys r e h k = later_item (is_section i.item.sort) p xs ys r h k

pub found_placed : (items : List Item) (texts : List Text) (from : ℕ) (q : Item → Bool) → IsPlacedIn (place from texts items) (find q items)
found_placed [] texts from q = tt
found_placed (i ∷ is) texts from q =
    let n : ℕ = length_of texts i in
    let p : Placed = record { item = i; length = n; at = aligned from } in
    first_item (q i) i p (place (aligned from + n) texts is) (place from texts is) (find q is) refl (found_placed is texts (aligned from + n) q) (found_placed is texts from q)
