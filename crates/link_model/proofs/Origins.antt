-- The violations, the room and the entry of a deck at an origin.
use Rattle.std.proofs.Common.{◌≡◌, ℕ, ◌+◌, ◌-◌, ◌*◌, ◌<◌, ◌≤◌, max, Bool, true, false, cond, not, leb, ltb, eqb, ◌&&◌, ◌||◌, List, [], ◌∷◌, length, map, Option, Some, None, refl, sym, ◌∙◌, ap, arith}
use Rattle.std.proofs.lemmas.Bool.Decides.{nat_tests}
use Rattle.std.specs.List.{find, list_any}
use Rattle.deck_model.specs.Deck.{Listing}
use Rattle.deck_model.specs.Image.{same_id, same_name, first_doubled, is_unknown, is_unresolved, is_placed, place, places, section, or_nowhere, is_text_outside, is_constant_outside, has_length, default_entry, entry, has_no_room, use_number, text_number, relocation_number, item_number, refused, entry_refused, room_refused, later_violation, doubled_violation, violation}
use Rattle.deck_model.specs.declared.decks.Item.{Item}
use Rattle.deck_model.specs.declared.decks.Placed.{Placed}
use Rattle.deck_model.specs.declared.decks.Text.{Text}
use Rattle.deck_model.specs.declared.decks.Relocation.{Relocation}
use Rattle.deck_model.specs.declared.decks.Entry.{Entry}
use Rattle.deck_model.specs.declared.decks.DeckRefusal.{DeckRefusal}
use Rattle.deck_model.specs.declared.decks.DeckRefusal.TheVariants as refusal
use Rattle.link_model.specs.Linked.{whole_length}
use Rattle.link_model.proofs.Moving.{moved}
use Rattle.link_model.proofs.Links.{Fine}
use Rattle.link_model.proofs.Moved.{lt_moved, place_moved, find_moved, moved_found}

-- ---- in general

pub find_same : {X : Type 0} (p q : X → Bool) (xs : List X) → ((x : X) → p x ≡ q x) → find p xs ≡ find q xs
find_same p q [] h = refl
find_same p q (x ∷ xs) h = ap (λ b. cond b (Some x) (find p xs)) (h x) ∙ ap (λ r. cond (q x) (Some x) r) (find_same p q xs h)

pub any_same : {X : Type 0} (p q : X → Bool) (xs : List X) → ((x : X) → p x ≡ q x) → list_any p xs ≡ list_any q xs
any_same p q [] h = refl
any_same p q (x ∷ xs) h = ap (λ b. b || list_any p xs) (h x) ∙ ap (λ b. q x || b) (any_same p q xs h)

pub later_room : (n : ℕ) (l : Listing) (ps : List Placed) (e : ℕ) → find (is_unknown l.items) l.uses ≡ None → find (is_text_outside ps) l.texts ≡ None → find (is_constant_outside ps) l.relocations ≡ None → entry ps l.entries ≡ Some e → find (is_unresolved l.items) l.items ≡ None → later_violation n l ps ≡ room_refused (list_any (has_no_room n) ps)
unfolding later_violation
later_room n l ps e a b c d f = rw a (rw b (rw c (rw d (rw f refl))))

pub none_doubled : (l : Listing) (more : Option DeckRefusal) → first_doubled same_id [] l.items ≡ None → first_doubled same_name [] l.items ≡ None → doubled_violation l more ≡ more
none_doubled l more a b = rw a (rw b refl)

-- ---- a section at another origin has the same length and address

with_found : {X : Type 0} (g : Placed → X) (o : ℕ) (r : Option Placed) → ((p : Placed) → g (moved o p) ≡ g p) → g (or_nowhere (moved_found o r)) ≡ g (or_nowhere r)
with_found g o None h = refl
with_found g o (Some p) h = h p

section_by : {X : Type 0} (g : Placed → X) (o : ℕ) (ps : List Placed) (w d : ℕ) → ((p : Placed) → g (moved o p) ≡ g p) → g (section (map (moved o) ps) w d) ≡ g (section ps w d)
unfolding section
section_by g o ps w d h = ap (λ r. g (or_nowhere r)) (find_moved o (is_placed w d) ps (λ p. refl)) ∙ with_found g o (find (is_placed w d) ps) h

text_outside_moved : (o : ℕ) (ps : List Placed) (t : Text) → is_text_outside (map (moved o) ps) t ≡ is_text_outside ps t
text_outside_moved o ps t = section_by (λ (p : Placed). ltb t.address p.item.item.address || (not (eqb p.item.item.extent 0) && ltb p.item.item.extent (t.address + length t.bytes.items - p.item.item.address))) o ps t.owner t.id (λ p. refl)

constant_outside_moved : (o : ℕ) (ps : List Placed) (r : Relocation) → is_constant_outside (map (moved o) ps) r ≡ is_constant_outside ps r
constant_outside_moved o ps r = section_by (λ (p : Placed). ltb r.item.address p.item.item.address || ltb p.length (r.item.address + r.item.width - p.item.item.address)) o ps r.owner r.item.place (λ p. refl)

-- ---- entry

abbrev more_by : ℕ → Option ℕ → Option ℕ
more_by o None = None
more_by o (Some e) = Some (o + e)

default_moved : (o : ℕ) (r : Option Placed) → default_entry (moved_found o r) ≡ more_by o (default_entry r)
default_moved o None = refl
default_moved o (Some p) = refl

abbrev pub entry_at : ℕ → Placed → Option ℕ
entry_at a p = cond (ltb a p.item.item.address || leb p.length (a - p.item.item.address)) None (Some (p.at + (a - p.item.item.address)))

always : (b : Bool) (x : ℕ) → (b || leb 0 x) ≡ true
always true x = refl
always false x = grind (arith, nat_tests)

nowhere_none : (a : ℕ) → entry_at a (or_nowhere None) ≡ None
nowhere_none a = ap (λ b. cond b None (Some (0 + (a - 0)))) (always (ltb a 0) (a - 0))

entry_case : (b : Bool) (o x y : ℕ) → x ≡ o + y → cond b None (Some x) ≡ more_by o (cond b None (Some y))
entry_case true o x y e = refl
entry_case false o x y e = ap Some e

entry_found : (o a : ℕ) (r : Option Placed) → entry_at a (or_nowhere (moved_found o r)) ≡ more_by o (entry_at a (or_nowhere r))
entry_found o a None = nowhere_none a ∙ sym (ap (more_by o) (nowhere_none a))
entry_found o a (Some p) =
    let e : o + p.at + (a - p.item.item.address) ≡ o + (p.at + (a - p.item.item.address)) = omega arith in
    entry_case (ltb a p.item.item.address || leb p.length (a - p.item.item.address)) o (o + p.at + (a - p.item.item.address)) (p.at + (a - p.item.item.address)) e

entry_moved : (o : ℕ) (ps : List Placed) (es : List Entry) → entry (map (moved o) ps) es ≡ more_by o (entry ps es)
unfolding section
entry_moved o ps [] = ap default_entry (find_moved o has_length ps (λ p. refl)) ∙ default_moved o (find has_length ps)
entry_moved o ps (e ∷ es) = ap (λ r. entry_at e.address (or_nowhere r)) (find_moved o (is_placed e.owner e.id) ps (λ p. refl)) ∙ entry_found o e.address (find (is_placed e.owner e.id) ps)

-- ---- room

lt_max_case : (b c : Bool) (n x y : ℕ) → ltb n x ≡ b → ltb n y ≡ c → ltb n (max x y) ≡ (b || c)
lt_max_case true c n x y e f = let h : n < x = grind (arith, nat_tests) in let k : n < max x y = omega (arith, h) in grind (arith, nat_tests)
lt_max_case false true n x y e f = let h : n < y = grind (arith, nat_tests) in let k : n < max x y = omega (arith, h) in grind (arith, nat_tests)
lt_max_case false false n x y e f = let h : x ≤ n = grind (arith, nat_tests) in let g : y ≤ n = grind (arith, nat_tests) in let k : max x y ≤ n = omega (arith, h, g) in grind (arith, nat_tests)

room_moved : (n o : ℕ) (ps : List Placed) → o ≤ n → list_any (has_no_room n) (map (moved o) ps) ≡ ltb n (o + whole_length ps)
room_moved n o [] h = let k : o + 0 ≤ n = omega arith in grind (arith, nat_tests)
room_moved n o (p ∷ ps) h =
    let x : ℕ = o + p.at + p.length in
    let y : ℕ = o + whole_length ps in
    let e : max x y ≡ o + max (p.at + p.length) (whole_length ps) = omega arith in
    ap (λ b. ltb n x || b) (room_moved n o ps h)
    ∙ (sym (lt_max_case (ltb n x) (ltb n y) n x y refl refl) ∙ ap (ltb n) e)

-- ---- the deck at an origin

pub moved_places : (o k : ℕ) (l : Listing) → o ≡ 8 * k → places o l ≡ map (moved o) (places 0 l)
unfolding places
moved_places o k l h = let z : o + 0 ≡ o = omega arith in ap (λ x. place x l.texts l.items) (sym z) ∙ place_moved o k 0 l.texts l.items h

pub deck_entry : (o k : ℕ) (l : Listing) (e : ℕ) → o ≡ 8 * k → Fine l e → entry (places o l) l.entries ≡ Some (o + e)
deck_entry o k l e h f = ap (λ ps. entry ps l.entries) (moved_places o k l h) ∙ (entry_moved o (places 0 l) l.entries ∙ ap (more_by o) f.entry)

pub deck_room : (n o k : ℕ) (l : Listing) (e : ℕ) → o ≡ 8 * k → o ≤ n → Fine l e → violation n l (places o l) ≡ room_refused (ltb n (o + whole_length (places 0 l)))
deck_room n o k l e h s f =
    let ps = places 0 l in
    let p = moved_places o k l h in
    let qs = map (moved o) ps in
    let t : find (is_text_outside qs) l.texts ≡ None = find_same (is_text_outside qs) (is_text_outside ps) l.texts (text_outside_moved o ps) ∙ f.texts in
    let c : find (is_constant_outside qs) l.relocations ≡ None = find_same (is_constant_outside qs) (is_constant_outside ps) l.relocations (constant_outside_moved o ps) ∙ f.constants in
    let x : entry qs l.entries ≡ Some (o + e) = entry_moved o ps l.entries ∙ ap (more_by o) f.entry in
    ap (violation n l) p
    ∙ (none_doubled l (later_violation n l qs) f.ids f.names
    ∙ (later_room n l qs (o + e) f.known t c x f.resolved ∙ ap room_refused (room_moved n o ps s)))

-- the violations of a deck do not depend on the origin, where the room does not
refused_moved : (o : ℕ) (r : Option ℕ) (more : Option DeckRefusal) → entry_refused (more_by o r) more ≡ entry_refused r more
refused_moved o None more = refl
refused_moved o (Some e) more = refl

any_moved : (o n : ℕ) (ps : List Placed) → list_any (has_no_room (o + n)) (map (moved o) ps) ≡ list_any (has_no_room n) ps
any_moved o n [] = refl
any_moved o n (p ∷ ps) =
    let e : o + p.at + p.length ≡ o + (p.at + p.length) = omega arith in
    ap (λ x. ltb (o + n) x || list_any (has_no_room (o + n)) (map (moved o) ps)) e
    ∙ (ap (λ b. b || list_any (has_no_room (o + n)) (map (moved o) ps)) (lt_moved o n (p.at + p.length))
    ∙ ap (λ b. ltb n (p.at + p.length) || b) (any_moved o n ps))

later_moved : (o n : ℕ) (l : Listing) (ps : List Placed) → later_violation (o + n) l (map (moved o) ps) ≡ later_violation n l ps
unfolding later_violation
later_moved o n l ps =
    let qs = map (moved o) ps in
    let un : Option Item = find (is_unresolved l.items) l.items in
    let so : Option Text → Option Relocation → Option ℕ → Bool → Option DeckRefusal = λ t c e r.
    refused refusal.UnknownId (use_number (find (is_unknown l.items) l.uses))
    (refused refusal.TextOutside (text_number t)
    (refused refusal.RldOutside (relocation_number c)
    (entry_refused e (refused refusal.Unresolved (item_number un) (room_refused r))))) in
    let t = find_same (is_text_outside qs) (is_text_outside ps) l.texts (text_outside_moved o ps) in
    let c = find_same (is_constant_outside qs) (is_constant_outside ps) l.relocations (constant_outside_moved o ps) in
    let x : Option Text = find (is_text_outside ps) l.texts in
    let y : Option Relocation = find (is_constant_outside ps) l.relocations in
    ap (λ z. so z (find (is_constant_outside qs) l.relocations) (entry qs l.entries) (list_any (has_no_room (o + n)) qs)) t
    ∙ (ap (λ z. so x z (entry qs l.entries) (list_any (has_no_room (o + n)) qs)) c
    ∙ (ap (λ z. so x y z (list_any (has_no_room (o + n)) qs)) (entry_moved o ps l.entries)
    ∙ (ap (λ z. so x y (more_by o (entry ps l.entries)) z) (any_moved o n ps)
    ∙ ap (λ z. refused refusal.UnknownId (use_number (find (is_unknown l.items) l.uses)) (refused refusal.TextOutside (text_number x) (refused refusal.RldOutside (relocation_number y) z))) (refused_moved o (entry ps l.entries) (refused refusal.Unresolved (item_number un) (room_refused (list_any (has_no_room n) ps)))))))

pub later_at : (o k n : ℕ) (l : Listing) → o ≡ 8 * k → later_violation (o + n) l (places o l) ≡ later_violation n l (places 0 l)
later_at o k n l h = ap (λ qs. later_violation (o + n) l qs) (moved_places o k l h) ∙ later_moved o n l (places 0 l)

pub violation_moved : (o k n : ℕ) (l : Listing) → o ≡ 8 * k → violation (o + n) l (places o l) ≡ violation n l (places 0 l)
violation_moved o k n l h = ap (λ qs. violation (o + n) l qs) (moved_places o k l h) ∙ ap (doubled_violation l) (later_moved o n l (places 0 l))
