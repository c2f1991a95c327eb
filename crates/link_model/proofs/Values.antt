-- The value of each relocation at an origin, and the bytes after all of them.
use Rattle.std.proofs.Common.{◌≡◌, ℕ, zero, suc, ◌+◌, ◌-◌, ◌*◌, ◌<◌, ◌≤◌, Bool, true, false, cond, not, leb, ltb, eqb, ◌&&◌, List, [], ◌∷◌, ◌++◌, length, get_or, map, reverse, inl, inr, Option, Some, None, refl, sym, ◌∙◌, ap, subst, arith, add-zero, add_assoc}
use Rattle.std.proofs.lemmas.Bool.Decides.{nat_tests}
use Rattle.std.proofs.lemmas.Grind.{reverse_onto}
use Rattle.std.specs.List.{find}
use Rattle.byteorder.specs.Endian.{big_number, big_bytes}
use Rattle.deck_model.specs.Deck.{Listing, is_label, is_section}
use Rattle.deck_model.specs.Image.{has_id, defines, name_of, names, is_section_found, is_item_found, is_placed, place, places, section, constant_at, text_byte, load_address, defined_at, value_by, value_of, value, added, bytes_from, relocated_byte, byte_after, image_byte}
use Rattle.deck_model.specs.declared.cards.Sort.{Sort}
use Rattle.deck_model.specs.declared.cards.Sort.TheVariants.{Section, Private, Label, External, Weak}
use Rattle.deck_model.specs.declared.decks.Item.{Item}
use Rattle.deck_model.specs.declared.decks.Placed.{Placed}
use Rattle.deck_model.specs.declared.decks.Text.{Text}
use Rattle.deck_model.specs.declared.decks.Relocation.{Relocation}
use Rattle.deck_loader.proofs.Text.{bytes_from_same}
use Rattle.link_model.proofs.Relative.{Relative, whole, folded}
use Rattle.link_model.specs.Linked.{moves_by, moves_found, moves}
use Rattle.link_model.proofs.Moving.{moved, relative, relatives, ConstantsKnown, LabelKnown, ItemsKnown, Known}
use Rattle.link_model.proofs.Bytes.{same_byte, one_is, covers, constant, new_byte, is_outside}
use Rattle.link_model.proofs.Moved.{Is, Has, OfFound, KnownItem, IsPlacedIn, found_known, found_placed, section_low, section_moved, has_of, place_moved, text_moved, text_low, minus_moved, label_moved, tests_moved, offset_moved}

-- ---- values

section_value : (o : ℕ) (ps : List Placed) (i : Item) → i.item.address ≤ 4294967296 → Has ps i.owner i.id → (section (map (moved o) ps) i.owner i.id).at + 4294967296 - i.item.address ≡ (section ps i.owner i.id).at + 4294967296 - i.item.address + o
section_value o ps i l h =
    ap (λ (p : Placed). p.at + 4294967296 - i.item.address) (section_moved o ps i.owner i.id h)
    ∙ minus_moved o (section ps i.owner i.id).at i.item.address l

swap_add : (a b : ℕ) → a + b ≡ b + a
swap_add a b = omega arith

label_case : (b : Bool) (o : ℕ) (ps : List Placed) (j : Item) → (b ≡ true → Has ps j.owner j.item.extent) → (b ≡ false → Has ps j.owner j.id) → (section ps j.owner j.item.extent).item.item.address ≤ 4294967296
    → cond b (let p = section (map (moved o) ps) j.owner j.item.extent in p.at + 4294967296 + j.item.address - p.item.item.address) (section (map (moved o) ps) j.owner j.id).at
    ≡ cond b (let p = section ps j.owner j.item.extent in p.at + 4294967296 + j.item.address - p.item.item.address) (section ps j.owner j.id).at + o
label_case true o ps j h k l =
    let p = section ps j.owner j.item.extent in
    ap (λ (q : Placed). q.at + 4294967296 + j.item.address - q.item.item.address) (section_moved o ps j.owner j.item.extent (h refl))
    ∙ label_moved o p.at j.item.address p.item.item.address l
label_case false o ps j h k l =
    ap (λ (q : Placed). q.at) (section_moved o ps j.owner j.id (k refl)) ∙ swap_add o (section ps j.owner j.id).at

label_has : (b : Bool) (items : List Item) (texts : List Text) (j : Item) → LabelKnown items b j → b ≡ true → Has (place 0 texts items) j.owner j.item.extent
label_has true items texts j h e = has_of texts items 0 j.owner j.item.extent h
label_has false items texts j h e = absurd (grind (arith, nat_tests))

-- an item that defines a name and is no label is a section
named_section : (s : Sort) (b : Bool) → (names s && b) ≡ true → is_label s ≡ false → is_section s ≡ true
named_section Section b h e = refl
named_section Private b h e = refl
named_section Label b h e = absurd (grind (arith, nat_tests))
named_section External b h e = absurd (grind (arith, nat_tests))
named_section Weak b h e = absurd (grind (arith, nat_tests))

abbrev Passes : (Item → Bool) → Option Item → Type 0
Passes q None = Unit {0}
Passes q (Some i) = q i ≡ true

passes_case : (b : Bool) (q : Item → Bool) (i : Item) (r : Option Item) → q i ≡ b → Passes q r → Passes q (cond b (Some i) r)
passes_case true q i r e h = e
passes_case false q i r e h = h

found_passes : (q : Item → Bool) (is : List Item) → Passes q (find q is)
found_passes q [] = tt
found_passes q (i ∷ is) = passes_case (q i) q i (find q is) refl (found_passes q is)

load_moved : (o : ℕ) (items : List Item) (texts : List Text) (name : ℕ) (j : Item) → ItemsKnown items items → KnownItem items j → defines name j ≡ true → (is_section j.item.sort ≡ true → Has (place 0 texts items) j.owner j.id) → load_address (map (moved o) (place 0 texts items)) j ≡ load_address (place 0 texts items) j + o
load_moved o items texts name j k h d p =
    label_case (is_label j.item.sort) o (place 0 texts items) j (label_has (is_label j.item.sort) items texts j h.0)
    (λ e. p (named_section j.item.sort (not (eqb (name_of j) 0x4040404040404040) && eqb (name_of j) name) d e))
    (section_low items items texts 0 j.owner j.item.extent k)

defined_moved : (o : ℕ) (items : List Item) (texts : List Text) (name : ℕ) (r : Option Item) → ItemsKnown items items → OfFound (KnownItem items) r → Passes (defines name) r → IsPlacedIn (place 0 texts items) r → defined_at (map (moved o) (place 0 texts items)) r ≡ defined_at (place 0 texts items) r + cond (is_item_found r) o 0
defined_moved o items texts name None k h d p = refl
defined_moved o items texts name (Some j) k h d p = load_moved o items texts name j k h d p

pub name_moved : (o : ℕ) (items : List Item) (texts : List Text) (name : ℕ) → ItemsKnown items items → defined_at (map (moved o) (place 0 texts items)) (find (defines name) items) ≡ defined_at (place 0 texts items) (find (defines name) items) + cond (is_item_found (find (defines name) items)) o 0
name_moved o items texts name k = defined_moved o items texts name (find (defines name) items) k (found_known items items (defines name) k) (found_passes (defines name) items) (found_placed items texts 0 (defines name))

by_moved : (o : ℕ) (items : List Item) (texts : List Text) (s : Sort) (i : Item) → ItemsKnown items items → i.item.address ≤ 4294967296 → (is_section s ≡ true → Has (place 0 texts items) i.owner i.id) → value_by items (map (moved o) (place 0 texts items)) s i ≡ value_by items (place 0 texts items) s i + cond (moves_by items s i) o 0
by_moved o items texts Section i k l p = section_value o (place 0 texts items) i l (p refl)
by_moved o items texts Private i k l p = section_value o (place 0 texts items) i l (p refl)
by_moved o items texts Label i k l p = refl
by_moved o items texts External i k l p = name_moved o items texts (name_of i) k
by_moved o items texts Weak i k l p = name_moved o items texts (name_of i) k

of_moved : (o : ℕ) (items : List Item) (texts : List Text) (r : Option Item) → ItemsKnown items items → OfFound (KnownItem items) r → IsPlacedIn (place 0 texts items) r → value_of items (map (moved o) (place 0 texts items)) r ≡ value_of items (place 0 texts items) r + cond (moves_found items r) o 0
of_moved o items texts None k h p = refl
of_moved o items texts (Some i) k h p = by_moved o items texts i.item.sort i k h.1 p

pub value_moved : (o : ℕ) (items : List Item) (texts : List Text) (r : Relocation) → ItemsKnown items items → value items (map (moved o) (place 0 texts items)) r ≡ value items (place 0 texts items) r + cond (moves items r) o 0
value_moved o items texts r k =
    let q : Item → Bool = has_id r.owner r.item.target in
    of_moved o items texts (find q items) k (found_known items items q k) (found_placed items texts 0 q)

constant_moved : (o : ℕ) (ps : List Placed) (r : Relocation) → Has ps r.owner r.item.place → constant_at (map (moved o) ps) r ≡ o + constant_at ps r
constant_moved o ps r h =
    let p = section ps r.owner r.item.place in
    ap (λ (q : Placed). q.at + (r.item.address - q.item.item.address)) (section_moved o ps r.owner r.item.place h)
    ∙ add_assoc o p.at (r.item.address - p.item.item.address)

-- ---- one relocation at an origin

bytes_moved : (o at n : ℕ) (f : ℕ → ℕ) → bytes_from f (o + at) n ≡ bytes_from (λ b. f (o + b)) at n
bytes_moved o at zero f = refl
bytes_moved o at (suc n) f =
    let e : o + at + 1 ≡ o + (at + 1) = omega arith in
    ap (λ x. f (o + at) ∷ bytes_from f x n) e ∙ ap (λ xs. f (o + at) ∷ xs) (bytes_moved o (at + 1) n f)

covers_moved : (o at w a : ℕ) → covers (o + at) w (o + a) ≡ covers at w a
unfolding covers
covers_moved o at w a = tests_moved o at w a

pub one_moved : (o at w : ℕ) (m : Bool) (v : ℕ) (f : ℕ → ℕ) (a : ℕ) → relocated_byte (o + at) w m v f (o + a) ≡ relocated_byte at w m v (λ b. f (o + b)) a
one_moved o at w m v f a =
    let g = λ (b : ℕ). f (o + b) in
    one_is (o + at) w m v f (o + a)
    ∙ (ap (λ bs. cond (covers (o + at) w (o + a)) (new_byte (o + at) w (added m w v (big_number w bs)) (o + a)) (f (o + a))) (bytes_moved o at w f)
    ∙ (ap (λ c. cond c (new_byte (o + at) w (added m w v (constant g at w)) (o + a)) (f (o + a))) (covers_moved o at w a)
    ∙ (ap (λ k. cond (covers at w a) (get_or (big_bytes w (added m w v (constant g at w))) k 0) (f (o + a))) (offset_moved o at a)
    ∙ sym (one_is at w m v g a))))

one_low : (o at w : ℕ) (m : Bool) (v : ℕ) (f : ℕ → ℕ) (a : ℕ) → a < o → relocated_byte (o + at) w m v f a ≡ f a
one_low o at w m v f a h =
    one_is (o + at) w m v f a
    ∙ ap (λ c. cond c (new_byte (o + at) w (added m w v (constant f (o + at) w)) a) (f a)) (is_outside (o + at) w a (inl (omega arith)))

-- ---- all of them

pub after_moved : (o : ℕ) (items : List Item) (texts : List Text) (rs : List Relocation) (f : ℕ → ℕ) (a : ℕ) → ItemsKnown items items → ConstantsKnown items rs → byte_after items (map (moved o) (place 0 texts items)) rs f (o + a) ≡ whole o (map (relative items (place 0 texts items)) rs) (λ b. f (o + b)) a
after_moved o items texts [] f a k h = refl
after_moved o items texts (r ∷ rs) f a k h =
    let ps = place 0 texts items in
    let qs = map (moved o) ps in
    let w : ℕ = r.item.width in
    let m : Bool = r.item.minus in
    let v : ℕ = value items ps r + cond (moves items r) o 0 in
    let before = byte_after items qs rs f in
    ap (λ x. relocated_byte x w m (value items qs r) before (o + a)) (constant_moved o ps r (has_of texts items 0 r.owner r.item.place h.0))
    ∙ (ap (λ x. relocated_byte (o + constant_at ps r) w m x before (o + a)) (value_moved o items texts r k)
    ∙ (one_moved o (constant_at ps r) w m v before a
    ∙ same_byte (constant_at ps r) w m v (λ b. before (o + b)) (whole o (map (relative items ps) rs) (λ b. f (o + b))) (λ b. after_moved o items texts rs f b k h.1) a))

pub after_low : (o : ℕ) (items : List Item) (texts : List Text) (rs : List Relocation) (f : ℕ → ℕ) (a : ℕ) → a < o → ItemsKnown items items → ConstantsKnown items rs → byte_after items (map (moved o) (place 0 texts items)) rs f a ≡ f a
after_low o items texts [] f a l k h = refl
after_low o items texts (r ∷ rs) f a l k h =
    let ps = place 0 texts items in
    let qs = map (moved o) ps in
    let w : ℕ = r.item.width in
    let m : Bool = r.item.minus in
    let before = byte_after items qs rs f in
    ap (λ x. relocated_byte x w m (value items qs r) before a) (constant_moved o ps r (has_of texts items 0 r.owner r.item.place h.0))
    ∙ (one_low o (constant_at ps r) w m (value items qs r) before a l ∙ after_low o items texts rs f a l k h.1)

-- at origin 0 they are folded
pub after_folded : (items : List Item) (ps : List Placed) (rs : List Relocation) (f : ℕ → ℕ) (a : ℕ) → byte_after items ps rs f a ≡ folded (map (relative items ps) rs) f a
after_folded items ps [] f a = refl
after_folded items ps (r ∷ rs) f a = same_byte (constant_at ps r) r.item.width r.item.minus (value items ps r) (byte_after items ps rs f) (folded (map (relative items ps) rs) f) (λ b. after_folded items ps rs f b) a

-- ---- known constants, the last first

known_append : (items : List Item) (rs ss : List Relocation) → ConstantsKnown items rs → ConstantsKnown items ss → ConstantsKnown items (rs ++ ss)
known_append items [] ss h k = k
known_append items (r ∷ rs) ss h k = (h.0, known_append items rs ss h.1 k)

known_reverse : (items : List Item) (rs : List Relocation) → ConstantsKnown items rs → ConstantsKnown items (reverse rs)
known_reverse items [] h = tt
known_reverse items (r ∷ rs) h = subst (λ xs. ConstantsKnown items xs) (sym (reverse_onto rs r [])) (known_append items (reverse rs) (r ∷ []) (known_reverse items rs h.1) (h.0, tt))

pub whole_same : (o : ℕ) (rs : List Relative) (f g : ℕ → ℕ) → ((a : ℕ) → f a ≡ g a) → (a : ℕ) → whole o rs f a ≡ whole o rs g a
whole_same o [] f g h a = h a
whole_same o (r ∷ rs) f g h a = same_byte r.at r.width r.minus (r.value + cond r.moves o 0) (whole o rs f) (whole o rs g) (whole_same o rs f g h) a

-- ---- the image of a deck at an origin

pub image_moved : (o k : ℕ) (l : Listing) (a : ℕ) → o ≡ 8 * k → Known l → image_byte l (places o l) (o + a) ≡ whole o (relatives l (places 0 l)) (λ b. text_byte (places 0 l) l.texts b 0) a
unfolding places
image_moved o k l a e h =
    let ps = place 0 l.texts l.items in
    let rs = reverse l.relocations in
    let z : o + 0 ≡ o = omega arith in
    let p : place o l.texts l.items ≡ map (moved o) ps = ap (λ x. place x l.texts l.items) (sym z) ∙ place_moved o k 0 l.texts l.items e in
    ap (λ qs. image_byte l qs (o + a)) p
    ∙ (after_moved o l.items l.texts rs (λ b. text_byte (map (moved o) ps) l.texts b 0) a h.items (known_reverse l.items l.relocations h.constants)
    ∙ whole_same o (map (relative l.items ps) rs) (λ b. text_byte (map (moved o) ps) l.texts (o + b) 0) (λ b. text_byte ps l.texts b 0) (λ b. text_moved o l.texts l.items l.texts b 0 h.texts) a)

pub image_low : (o k : ℕ) (l : Listing) (a : ℕ) → o ≡ 8 * k → a < o → Known l → image_byte l (places o l) a ≡ 0
unfolding places
image_low o k l a e low h =
    let ps = place 0 l.texts l.items in
    let rs = reverse l.relocations in
    let z : o + 0 ≡ o = omega arith in
    let p : place o l.texts l.items ≡ map (moved o) ps = ap (λ x. place x l.texts l.items) (sym z) ∙ place_moved o k 0 l.texts l.items e in
    ap (λ qs. image_byte l qs a) p
    ∙ (after_low o l.items l.texts rs (λ b. text_byte (map (moved o) ps) l.texts b 0) a low h.items (known_reverse l.items l.relocations h.constants)
    ∙ text_low o l.texts l.items l.texts a 0 low h.texts)

pub image_folded : (l : Listing) (a : ℕ) → image_byte l (places 0 l) a ≡ folded (relatives l (places 0 l)) (λ b. text_byte (places 0 l) l.texts b 0) a
image_folded l a = after_folded l.items (places 0 l) (reverse l.relocations) (λ b. text_byte (places 0 l) l.texts b 0) a
