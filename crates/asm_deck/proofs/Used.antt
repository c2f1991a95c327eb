-- No ESDID and no name stands twice, and each that is used is there.
use Rattle.std.proofs.Common.{◌≡◌, ◌≢◌, ℕ, zero, suc, ◌+◌, ◌-◌, ◌*◌, ◌<◌, ◌≤◌, Bool, true, false, cond, not, leb, ltb, eqb, ◌&&◌, ◌||◌, List, [], ◌∷◌, ◌++◌, length, get_or, Option, Some, None, refl, sym, ◌∙◌, ap, subst, arith, inl, inr}
use Rattle.std.proofs.lemmas.Bool.Decides.{nat_tests}
use Rattle.std.proofs.lemmas.Bool.{cases_lt}
use Rattle.std.specs.List.{find, list_any}
use Rattle.deck_model.specs.Deck.{is_label}
use Rattle.deck_model.specs.Image.{has_id, same_id, same_name, defines, first_doubled, is_unknown, is_item_found, is_section_found, is_unresolved}
use Rattle.deck_model.specs.declared.decks.Item.{Item}
use Rattle.deck_model.specs.declared.decks.Use.{Use}
use Rattle.asm_model.specs.Section.{SectionBytes}
use Rattle.asm_deck.specs.LoadedSections.{no_section, is_named}
use Rattle.asm_deck.specs.Accepted.{NameFits, NamesFit, NamesDiffer, ExternalsNamed}
use Rattle.asm_deck.proofs.Items.{item_for, outer_for, section_items, external_items, all_items, UseFits, UsesFit}
use Rattle.asm_deck.proofs.Found.{section_at, sections_past, external_at, name_is, defines_is, named_at, one_less}

pub none_found : {X : Type 0} (p : X → Bool) (x : X) (xs : List X) → p x ≡ false → find p xs ≡ None → find p (x ∷ xs) ≡ None
none_found p x xs h k = ap (λ b. cond b (Some x) (find p xs)) h ∙ k

-- ---- ESDIDs

abbrev Counted : ℕ → List Item → Type 0
Counted id [] = Unit {0}
Counted id (i ∷ is) = (i.id ≡ id) × Counted (id + 1) is

pub externals_counted : (id : ℕ) (ms : List ℕ) → Counted id (external_items id ms)
externals_counted id [] = tt
externals_counted id (m ∷ ms) = (refl, externals_counted (id + 1) ms)

pub items_counted : (id : ℕ) (ss : List SectionBytes) (is : List Item) → Counted (id + length ss) is → Counted id (section_items id ss ++ is)
items_counted id [] is h = let z : id + 0 ≡ id = omega arith in subst (λ k. Counted k is) z h
items_counted id (s ∷ ss) is h = let z : id + suc (length ss) ≡ id + 1 + length ss = omega arith in (refl, items_counted (id + 1) ss is (subst (λ k. Counted k is) z h))

abbrev IdsBelow : ℕ → List Item → Type 0
IdsBelow k [] = Unit {0}
IdsBelow k (i ∷ is) = (i.id < k) × IdsBelow k is

ids_push : (k : ℕ) (is : List Item) (i : Item) → IdsBelow k is → i.id ≡ k → IdsBelow (k + 1) (is ++ i ∷ [])
ids_push k [] i h e = (omega (arith, e), tt)
ids_push k (j ∷ is) i h e = let a = h.0 in (omega (arith, a), ids_push k is i h.1 e)

not_same : (a b c : Bool) (x y : ℕ) → x < y → (a && (b && (c && eqb x y))) ≡ false
not_same true true true x y h = grind (arith, nat_tests)
not_same true true false x y h = refl
not_same true false c x y h = refl
not_same false b c x y h = refl

none_same : (k : ℕ) (i : Item) (earlier : List Item) → i.id ≡ k → IdsBelow k earlier → list_any (same_id i) earlier ≡ false
none_same k i [] e h = refl
none_same k i (j ∷ js) e h =
    let a = h.0 in
    ap (λ b. b || list_any (same_id i) js) (not_same (not (is_label i.item.sort)) (not (is_label j.item.sort)) (eqb j.owner i.owner) j.id i.id (omega (arith, a, e)))
    ∙ none_same k i js e h.1

pub ids_differ : (id : ℕ) (earlier is : List Item) → Counted id is → IdsBelow id earlier → first_doubled same_id earlier is ≡ None
ids_differ id earlier [] c h = refl
ids_differ id earlier (i ∷ is) c h =
    ap (λ b. cond b (Some i) (first_doubled same_id (earlier ++ i ∷ []) is)) (none_same id i earlier c.0 h)
    ∙ ids_differ (id + 1) (earlier ++ i ∷ []) is c.1 (ids_push id earlier i h c.0)

-- ---- names

or_none : (b : Bool) → (b || false) ≡ b
or_none true = refl
or_none false = refl

or_more : (a b c : Bool) → (a || (b || c)) ≡ ((a || b) || c)
or_more true b c = refl
or_more false b c = refl

pub and_none : (b : Bool) → (b && false) ≡ false
and_none true = refl
and_none false = refl

any_push : {X : Type 0} (p : X → Bool) (xs : List X) (x : X) → list_any p (xs ++ x ∷ []) ≡ (list_any p xs || p x)
any_push p [] x = or_none (p x)
any_push p (y ∷ ys) x = ap (λ b. p y || b) (any_push p ys x) ∙ or_more (p y) (list_any p ys) (p x)

never : {X : Type 0} (xs : List X) → list_any (λ x. false) xs ≡ false
never [] = refl
never (x ∷ xs) = never xs

externals_differ : (earlier : List Item) (id : ℕ) (ms : List ℕ) → first_doubled same_name earlier (external_items id ms) ≡ None
externals_differ earlier id [] = refl
externals_differ earlier id (m ∷ ms) =
    ap (λ b. cond b (Some (outer_for id m)) (first_doubled same_name (earlier ++ outer_for id m ∷ []) (external_items (id + 1) ms))) (never earlier)
    ∙ externals_differ (earlier ++ outer_for id m ∷ []) (id + 1) ms

named_any : (id : ℕ) (s : SectionBytes) (earlier : List Item) → NameFits s.name → list_any (same_name (item_for id s)) earlier ≡ list_any (defines s.name) earlier
named_any id s earlier f =
    let b : eqb s.name 0x4040404040404040 ≡ false = let x = f.1 in grind (arith, nat_tests) in
    ap (λ x. list_any (λ (j : Item). not (eqb x 0x4040404040404040) && defines x j) earlier) (name_is s.name f.0)
    ∙ ap (λ c. list_any (λ (j : Item). not c && defines s.name j) earlier) b

pub names_differ : (id j : ℕ) (pre ss : List SectionBytes) (ms : List ℕ) (earlier : List Item) → NamesFit ss → NamesDiffer pre ss → ((q : ℕ) → list_any (defines q) earlier ≡ is_named q pre) → first_doubled same_name earlier (section_items id ss ++ external_items j ms) ≡ None
names_differ id j pre [] ms earlier f d h = externals_differ earlier j ms
names_differ id j pre (s ∷ ss) ms earlier f d h =
    let i = item_for id s in
    let e : list_any (same_name i) earlier ≡ false = named_any id s earlier f.0 ∙ (h s.name ∙ d.0) in
    ap (λ b. cond b (Some i) (first_doubled same_name (earlier ++ i ∷ []) (section_items (id + 1) ss ++ external_items j ms))) e
    ∙ names_differ (id + 1) j (pre ++ s ∷ []) ss ms (earlier ++ i ∷ []) f.1 d.1 (λ q.
    any_push (defines q) earlier i ∙ (ap (λ b. b || defines q i) (h q) ∙ (ap (λ b. is_named q pre || b) (defines_is q id s f.0)
    ∙ sym (any_push (λ (x : SectionBytes). eqb x.name q) pre s))))

-- ---- uses

section_known : (ss : List SectionBytes) (ms : List ℕ) (d : ℕ) → 1 ≤ d → d ≤ length ss → (x : SectionBytes) × (find (has_id 0 d) (all_items ss ms) ≡ Some (item_for d x))
section_known ss ms d a b =
    let x = get_or ss (d - 1) no_section in
    (x, subst (λ y. find (has_id 0 y) (all_items ss ms) ≡ Some (item_for y x)) (one_less d a) (section_at 1 (d - 1) ss (external_items (1 + length ss) ms) (omega arith)))

outer_known : (ss : List SectionBytes) (ms : List ℕ) (d : ℕ) → 1 + length ss ≤ d → d < 1 + length ss + length ms → find (has_id 0 d) (all_items ss ms) ≡ Some (outer_for d (get_or ms (d - (1 + length ss)) 0))
outer_known ss ms d a b =
    let k : ℕ = d - (1 + length ss) in
    let e : 1 + length ss + k ≡ d = omega (arith, a) in
    sections_past 1 d ss (external_items (1 + length ss) ms) a
    ∙ subst (λ y. find (has_id 0 y) (external_items (1 + length ss) ms) ≡ Some (outer_for y (get_or ms k 0))) e (external_at (1 + length ss) k ms (omega (arith, a, b)))

item_known : (ss : List SectionBytes) (ms : List ℕ) (d : ℕ) → 1 ≤ d → d < 1 + length ss + length ms → is_item_found (find (has_id 0 d) (all_items ss ms)) ≡ true
item_known ss ms d a b =
    elim (cases_lt (length ss) d) [
      | inl l ↦ ap is_item_found (outer_known ss ms d (omega arith) b)
      | inr g ↦ ap is_item_found (section_known ss ms d a g).1
    ]

use_known : (any : Bool) (ss : List SectionBytes) (ms : List ℕ) (w d : ℕ) → w ≡ 0 → UseFits any (length ss) (length ms) d → cond any (not (is_item_found (find (has_id w d) (all_items ss ms)))) (not (is_section_found (find (has_id w d) (all_items ss ms)))) ≡ false
use_known true ss ms w d e h = ap (λ y. not (is_item_found (find (has_id y d) (all_items ss ms)))) e ∙ ap not (item_known ss ms d h.0 h.1)
use_known false ss ms w d e h = ap (λ y. not (is_section_found (find (has_id y d) (all_items ss ms)))) e ∙ ap (λ r. not (is_section_found r)) (section_known ss ms d h.0 h.1).1

pub uses_known : (ss : List SectionBytes) (ms : List ℕ) (us : List Use) → UsesFit (length ss) (length ms) us → find (is_unknown (all_items ss ms)) us ≡ None
uses_known ss ms [] h = refl
uses_known ss ms (u ∷ us) h = none_found (is_unknown (all_items ss ms)) u us (use_known u.any ss ms u.owner u.id h.0 h.1) (uses_known ss ms us h.2)

-- ---- external names are defined

pub outers_resolved : (ss : List SectionBytes) (ms all : List ℕ) (id : ℕ) → NamesFit ss → ExternalsNamed ss ms → find (is_unresolved (all_items ss all)) (external_items id ms) ≡ None
outers_resolved ss [] all id n f = refl
outers_resolved ss (m ∷ ms) all id n f =
    let e : is_unresolved (all_items ss all) (outer_for id m) ≡ false =
    ap (λ q. not (is_item_found (find (defines q) (all_items ss all)))) (name_is m f.0.0)
    ∙ ap (λ r. not (is_item_found r)) (named_at 1 m ss (external_items (1 + length ss) all) n f.1) in
    none_found (is_unresolved (all_items ss all)) (outer_for id m) (external_items (id + 1) ms) e (outers_resolved ss ms all (id + 1) n f.2)

pub sections_resolved : (all : List Item) (id : ℕ) (ss : List SectionBytes) (is : List Item) → find (is_unresolved all) is ≡ None → find (is_unresolved all) (section_items id ss ++ is) ≡ None
sections_resolved all id [] is h = h
sections_resolved all id (s ∷ ss) is h = sections_resolved all (id + 1) ss is h
