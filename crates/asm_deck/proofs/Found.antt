-- The items of the deck are found by their ESDIDs and by their names.
use Rattle.std.proofs.Common.{◌≡◌, ◌≢◌, ℕ, zero, suc, ◌+◌, ◌-◌, ◌*◌, ◌%◌, ◌^◌, ◌<◌, ◌≤◌, Bool, true, false, cond, not, leb, ltb, eqb, ◌&&◌, ◌||◌, List, [], ◌∷◌, ◌++◌, length, get_or, Option, Some, None, refl, sym, ◌∙◌, ap, subst, arith, append-nil}
use Rattle.std.proofs.lemmas.Bool.Decides.{nat_tests}
use Rattle.std.specs.List.{find, list_any}
use Rattle.byteorder.specs.Endian.{big_bytes, big_number}
use Rattle.byteorder.specs.Numbers.{big_from-bytes}
use Rattle.deck_model.specs.Image.{has_id, defines}
use Rattle.deck_model.specs.declared.decks.Item.{Item}
use Rattle.asm_model.specs.Section.{SectionBytes}
use Rattle.asm_deck.specs.LoadedSections.{no_section, is_named, name_place}
use Rattle.asm_deck.specs.Accepted.{NameFits, NamesFit}
use Rattle.asm_deck.proofs.Items.{section_items, external_items, item_for, outer_for}

-- ---- by their ESDIDs

same_id : (id : ℕ) → eqb (id + 0) id ≡ true
same_id id = grind (arith, nat_tests)

pub is_id : (id d : ℕ) → d ≡ id + 0 → eqb id d ≡ true
is_id id d h = grind (arith, nat_tests)

pub other_id : (id d : ℕ) → id + 1 ≤ d → eqb id d ≡ false
other_id id d h = grind (arith, nat_tests)

pub section_at : (id k : ℕ) (ss : List SectionBytes) (rest : List Item) → k < length ss → find (has_id 0 (id + k)) (section_items id ss ++ rest) ≡ Some (item_for (id + k) (get_or ss k no_section))
section_at id k [] rest l = absurd (omega arith)
section_at id zero (s ∷ ss) rest l =
    let z : id + 0 ≡ id = omega arith in
    ap (λ b. cond b (Some (item_for id s)) (find (has_id 0 (id + 0)) (section_items (id + 1) ss ++ rest))) (is_id id (id + 0) refl)
    ∙ ap (λ d. Some (item_for d s)) (sym z)
section_at id (suc k) (s ∷ ss) rest l =
    let e : id + 1 + k ≡ id + suc k = omega arith in
    ap (λ b. cond b (Some (item_for id s)) (find (has_id 0 (id + suc k)) (section_items (id + 1) ss ++ rest))) (other_id id (id + suc k) (omega arith))
    ∙ subst (λ d. find (has_id 0 d) (section_items (id + 1) ss ++ rest) ≡ Some (item_for d (get_or ss k no_section))) e (section_at (id + 1) k ss rest (omega arith))

pub sections_past : (id d : ℕ) (ss : List SectionBytes) (rest : List Item) → id + length ss ≤ d → find (has_id 0 d) (section_items id ss ++ rest) ≡ find (has_id 0 d) rest
sections_past id d [] rest h = refl
sections_past id d (s ∷ ss) rest h =
    ap (λ b. cond b (Some (item_for id s)) (find (has_id 0 d) (section_items (id + 1) ss ++ rest))) (other_id id d (omega arith))
    ∙ sections_past (id + 1) d ss rest (omega arith)

pub external_at : (id k : ℕ) (ms : List ℕ) → k < length ms → find (has_id 0 (id + k)) (external_items id ms) ≡ Some (outer_for (id + k) (get_or ms k 0))
external_at id k [] l = absurd (omega arith)
external_at id zero (m ∷ ms) l =
    let z : id + 0 ≡ id = omega arith in
    ap (λ b. cond b (Some (outer_for id m)) (find (has_id 0 (id + 0)) (external_items (id + 1) ms))) (is_id id (id + 0) refl)
    ∙ ap (λ d. Some (outer_for d m)) (sym z)
external_at id (suc k) (m ∷ ms) l =
    let e : id + 1 + k ≡ id + suc k = omega arith in
    ap (λ b. cond b (Some (outer_for id m)) (find (has_id 0 (id + suc k)) (external_items (id + 1) ms))) (other_id id (id + suc k) (omega arith))
    ∙ subst (λ d. find (has_id 0 d) (external_items (id + 1) ms) ≡ Some (outer_for d (get_or ms k 0))) e (external_at (id + 1) k ms (omega arith))

-- ---- and by their names

pub name_is : (q : ℕ) → q < 18446744073709551616 → big_number 8 (big_bytes 8 q) ≡ q
name_is q h =
    let e : big_number 8 (big_bytes 8 q) ≡ q % 256 ^ 8 = ap (big_number 8) (sym (append-nil (big_bytes 8 q))) ∙ big_from-bytes 8 q [] in
    let m : q % 18446744073709551616 ≡ q = omega (arith, h) in
    e ∙ m

pub defines_is : (q id : ℕ) (s : SectionBytes) → NameFits s.name → defines q (item_for id s) ≡ eqb s.name q
defines_is q id s f =
    let n = name_is s.name f.0 in
    let b : eqb s.name 0x4040404040404040 ≡ false = let x = f.1 in grind (arith, nat_tests) in
    ap (λ x. not (eqb x 0x4040404040404040) && eqb x q) n ∙ ap (λ c. not c && eqb s.name q) b

named_case : (b : Bool) (id q : ℕ) (s : SectionBytes) (ss : List SectionBytes) (rest : List Item) → (list_any (λ (x : SectionBytes). eqb x.name q) ss ≡ true → find (defines q) (section_items (id + 1) ss ++ rest) ≡ Some (item_for (id + 1 + name_place q ss) (get_or ss (name_place q ss) no_section))) → (b || is_named q ss) ≡ true → cond b (Some (item_for id s)) (find (defines q) (section_items (id + 1) ss ++ rest)) ≡ Some (item_for (id + cond b 0 (name_place q ss + 1)) (get_or (s ∷ ss) (cond b 0 (name_place q ss + 1)) no_section))
named_case true id q s ss rest ih h = let z : id ≡ id + 0 = omega arith in ap (λ d. Some (item_for d s)) z
named_case false id q s ss rest ih h =
    let e : id + 1 + name_place q ss ≡ id + (name_place q ss + 1) = omega arith in
    let f : suc (name_place q ss) ≡ name_place q ss + 1 = omega arith in
    ih h ∙ (ap (λ d. Some (item_for d (get_or ss (name_place q ss) no_section))) e
    ∙ ap (λ k. Some (item_for (id + (name_place q ss + 1)) (get_or (s ∷ ss) k no_section))) f)

pub named_at : (id q : ℕ) (ss : List SectionBytes) (rest : List Item) → NamesFit ss → is_named q ss ≡ true → find (defines q) (section_items id ss ++ rest) ≡ Some (item_for (id + name_place q ss) (get_or ss (name_place q ss) no_section))
named_at id q [] rest f h = absurd (grind (arith, nat_tests))
named_at id q (s ∷ ss) rest f h =
    ap (λ b. cond b (Some (item_for id s)) (find (defines q) (section_items (id + 1) ss ++ rest))) (defines_is q id s f.0)
    ∙ named_case (eqb s.name q) id q s ss rest (λ k. named_at (id + 1) q ss rest f.1 k) h

inside_case : (b c : Bool) (n p : ℕ) → (c ≡ true → p < n) → (b || c) ≡ true → cond b 0 (p + 1) < suc n
inside_case true c n p h e = omega arith
inside_case false c n p h e = let k = h e in omega (arith, k)

pub name_inside : (q : ℕ) (ss : List SectionBytes) → is_named q ss ≡ true → name_place q ss < length ss
name_inside q [] h = absurd (grind (arith, nat_tests))
name_inside q (s ∷ ss) h = inside_case (eqb s.name q) (is_named q ss) (length ss) (name_place q ss) (name_inside q ss) h

pub one_less : (d : ℕ) → 1 ≤ d → 1 + (d - 1) ≡ d
one_less d h = omega arith
