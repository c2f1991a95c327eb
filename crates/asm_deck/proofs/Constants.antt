-- Each constant has the load address that it names added; other bytes stay.
use Rattle.std.proofs.Common.{◌≡◌, ◌≢◌, ℕ, zero, suc, ◌+◌, ◌-◌, ◌*◌, ◌%◌, ◌<◌, ◌≤◌, Bool, true, false, cond, List, [], ◌∷◌, ◌++◌, length, get_or, reverse, Option, Some, None, refl, sym, ◌∙◌, ap, subst, arith, ◌⊎◌, inl, inr}
use Rattle.std.proofs.lemmas.Grind.{reverse_onto}
use Rattle.std.specs.List.{find}
use Rattle.deck_model.specs.Image.{section, has_id, defines, defined_at, value, value_of, constant_at, byte_after, relocated_byte}
use Rattle.deck_model.specs.declared.decks.Placed.{Placed}
use Rattle.deck_model.specs.declared.decks.Item.{Item}
use Rattle.deck_model.specs.declared.decks.Relocation.{Relocation}
use Rattle.deck_model.specs.declared.cards.RldItem.{RldItem}
use Rattle.asm_model.specs.Section.{SectionBytes}
use Rattle.asm_model.specs.declared.program.Constant.{Constant}
use Rattle.asm_deck.specs.AssembledCards.{constant_item}
use Rattle.asm_deck.specs.LoadedSections.{load_at, no_section, external_name, name_place, target_by, target_of, constant_place}
use Rattle.asm_deck.specs.Accepted.{NamesFit, TargetFits, ConstantFits, ConstantsFit}
use Rattle.asm_deck.specs.AssembledImage.{word_at, ConstantsMoved, IsOutside}
use Rattle.asm_deck.proofs.Items.{item_for, outer_for, section_items, external_items, all_items, ConstantsAre, AreFound}
use Rattle.asm_deck.proofs.Places.{found_at}
use Rattle.asm_deck.proofs.Found.{section_at, sections_past, external_at, name_is, named_at, name_inside, one_less}
use Rattle.asm_deck.proofs.SectionText.{sub_none}
use Rattle.asm_deck.proofs.Relocated.{moved_word, word_moved, byte_kept, word_kept}

-- ---- the value of a relocation: the load address, where 2^32 may be added

abbrev ValueIs : ℕ → ℕ → Type 0
ValueIs v l = (v ≡ l) ⊎ (v ≡ l + 4294967296)

section_value : (ps : List Placed) (o : ℕ) (ss : List SectionBytes) (ms : List ℕ) (d : ℕ) → AreFound ps 1 o ss → 1 ≤ d → d ≤ length ss → value_of (all_items ss ms) ps (find (has_id 0 d) (all_items ss ms)) ≡ load_at o ss (d - 1) + 4294967296
section_value ps o ss ms d s a b =
    let k : ℕ = d - 1 in
    let e = one_less d a in
    let x = get_or ss k no_section in
    let f : find (has_id 0 d) (all_items ss ms) ≡ Some (item_for d x) = subst (λ y. find (has_id 0 y) (all_items ss ms) ≡ Some (item_for y x)) e (section_at 1 k ss (external_items (1 + length ss) ms) (omega arith)) in
    let at : (section ps 0 d).at ≡ load_at o ss k = ap (λ y. (section ps 0 y).at) (sym e) ∙ (found_at ps 1 o ss k s (omega arith)).0 in
    ap (value_of (all_items ss ms) ps) f ∙ (sub_none ((section ps 0 d).at + 4294967296) ∙ ap (λ y. y + 4294967296) at)

outer_value : (ps : List Placed) (o : ℕ) (ss : List SectionBytes) (ms : List ℕ) (d : ℕ) → AreFound ps 1 o ss → NamesFit ss → TargetFits true ss ms d → value_of (all_items ss ms) ps (find (has_id 0 d) (all_items ss ms)) ≡ load_at o ss (target_by true ss ms d)
outer_value ps o ss ms d s n t =
    let k : ℕ = d - (1 + length ss) in
    let q : ℕ = get_or ms k 0 in
    let p : ℕ = name_place q ss in
    let a = t.0 in
    let b = t.1 in
    let e : 1 + length ss + k ≡ d = omega (arith, a) in
    let items = all_items ss ms in
    let outer : find (has_id 0 d) (external_items (1 + length ss) ms) ≡ Some (outer_for d q) = subst (λ y. find (has_id 0 y) (external_items (1 + length ss) ms) ≡ Some (outer_for y q)) e (external_at (1 + length ss) k ms (omega (arith, a, b))) in
    let f : find (has_id 0 d) items ≡ Some (outer_for d q) = sections_past 1 d ss (external_items (1 + length ss) ms) a ∙ outer in
    let at : (section ps 0 (1 + p)).at ≡ load_at o ss p = (found_at ps 1 o ss p s (name_inside q ss t.3)).0 in
    ap (value_of items ps) f
    ∙ (ap (λ y. defined_at ps (find (defines y) items)) (name_is q t.2.0)
    ∙ (ap (defined_at ps) (named_at 1 q ss (external_items (1 + length ss) ms) n t.3) ∙ at))

value_case : (b : Bool) (ps : List Placed) (o : ℕ) (ss : List SectionBytes) (ms : List ℕ) (d : ℕ) → AreFound ps 1 o ss → NamesFit ss → TargetFits b ss ms d → ValueIs (value_of (all_items ss ms) ps (find (has_id 0 d) (all_items ss ms))) (load_at o ss (target_by b ss ms d))
value_case true ps o ss ms d s n t = inl (outer_value ps o ss ms d s n t)
value_case false ps o ss ms d s n t = inr (section_value ps o ss ms d s t.0 t.1)

-- ---- one relocation

constant_is : (ps : List Placed) (o : ℕ) (ss : List SectionBytes) (ms : List ℕ) (c : Constant) (r : Relocation) → AreFound ps 1 o ss → ConstantFits ss ms c → r.owner ≡ 0 → r.item ≡ constant_item c → constant_at ps r ≡ constant_place o ss c
constant_is ps o ss ms c r s f w i =
    let a = f.0 in
    let b = f.1 in
    let k : ℕ = c.section - 1 in
    let h = found_at ps 1 o ss k s (omega (arith, a, b)) in
    let e : 1 + k ≡ c.section = one_less c.section a in
    let p : section ps r.owner r.item.place ≡ section ps 0 (1 + k) = ap (λ y. section ps y r.item.place) w ∙ (ap (λ (x : RldItem). section ps 0 x.place) i ∙ ap (section ps 0) (sym e)) in
    ap (λ (y : Placed). y.at + (r.item.address - y.item.item.address)) p
    ∙ (ap (λ y. y + (r.item.address - (section ps 0 (1 + k)).item.item.address)) h.0
    ∙ (ap (λ y. load_at o ss k + (r.item.address - y)) h.1
    ∙ (ap (λ y. load_at o ss k + y) (sub_none r.item.address) ∙ ap (λ (x : RldItem). load_at o ss k + x.address) i)))

value_is : (ps : List Placed) (o : ℕ) (ss : List SectionBytes) (ms : List ℕ) (c : Constant) (r : Relocation) → AreFound ps 1 o ss → NamesFit ss → ConstantFits ss ms c → r.owner ≡ 0 → r.item ≡ constant_item c → ValueIs (value (all_items ss ms) ps r) (load_at o ss (target_of ss ms c))
value_is ps o ss ms c r s n f w i =
    let items = all_items ss ms in
    let v : value items ps r ≡ value_of items ps (find (has_id 0 c.target) items) = ap (λ y. value_of items ps (find (has_id y r.item.target) items)) w ∙ ap (λ (x : RldItem). value_of items ps (find (has_id 0 x.target) items)) i in
    subst (λ y. ValueIs y (load_at o ss (target_of ss ms c))) (sym v) (value_case c.external ps o ss ms c.target s n f.3)

abbrev relocated : List Item → List Placed → Relocation → (ℕ → ℕ) → ℕ → ℕ
relocated items ps r f = relocated_byte (constant_at ps r) r.item.width r.item.minus (value items ps r) f

-- a constant of the program is a word to which its value is added
as_word : (ps : List Placed) (o : ℕ) (ss : List SectionBytes) (ms : List ℕ) (c : Constant) (r : Relocation) (f : ℕ → ℕ) → AreFound ps 1 o ss → ConstantFits ss ms c → r.owner ≡ 0 → r.item ≡ constant_item c → relocated (all_items ss ms) ps r f ≡ moved_word (constant_place o ss c) (value (all_items ss ms) ps r) f
as_word ps o ss ms c r f s t w i =
    let v : ℕ = value (all_items ss ms) ps r in
    ap (λ at. relocated_byte at r.item.width r.item.minus v f) (constant_is ps o ss ms c r s t w i)
    ∙ ap (λ (x : RldItem). relocated_byte (constant_place o ss c) x.width x.minus v f) i

-- ---- all relocations, the first of them first

abbrev after : List Item → List Placed → List Relocation → (ℕ → ℕ) → ℕ → ℕ
after items ps [] f = f
after items ps (r ∷ rs) f = after items ps rs (relocated items ps r f)

after_last : (items : List Item) (ps : List Placed) (rs : List Relocation) (r : Relocation) (f : ℕ → ℕ) → byte_after items ps (rs ++ r ∷ []) f ≡ byte_after items ps rs (relocated items ps r f)
after_last items ps [] r f = refl
after_last items ps (x ∷ xs) r f = ap (relocated_byte (constant_at ps x) x.item.width x.item.minus (value items ps x)) (after_last items ps xs r f)

after_is : (items : List Item) (ps : List Placed) (rs : List Relocation) (f : ℕ → ℕ) → byte_after items ps (reverse rs) f ≡ after items ps rs f
after_is items ps [] f = refl
after_is items ps (r ∷ rs) f =
    ap (λ xs. byte_after items ps xs f) (reverse_onto rs r [])
    ∙ (after_last items ps (reverse rs) r f ∙ after_is items ps rs (relocated items ps r f))

-- ---- what no constant reaches

one_outside : (ps : List Placed) (o : ℕ) (ss : List SectionBytes) (ms : List ℕ) (c : Constant) (r : Relocation) (f : ℕ → ℕ) (a : ℕ) → AreFound ps 1 o ss → ConstantFits ss ms c → r.owner ≡ 0 → r.item ≡ constant_item c → (a < constant_place o ss c) ⊎ (constant_place o ss c + 4 ≤ a) → relocated (all_items ss ms) ps r f a ≡ f a
one_outside ps o ss ms c r f a s t w i h =
    ap (λ g. g a) (as_word ps o ss ms c r f s t w i) ∙ byte_kept (constant_place o ss c) (value (all_items ss ms) ps r) f a h

outside_after : (ps : List Placed) (o : ℕ) (ss : List SectionBytes) (ms : List ℕ) (cs : List Constant) (rs : List Relocation) (f : ℕ → ℕ) (a : ℕ) → AreFound ps 1 o ss → ConstantsFit ss ms cs → ConstantsAre cs rs → IsOutside o ss a cs → after (all_items ss ms) ps rs f a ≡ f a
outside_after ps o ss ms [] [] f a s t h k = refl
outside_after ps o ss ms [] (r ∷ rs) f a s t h k = absurd h
outside_after ps o ss ms (c ∷ cs) [] f a s t h k = absurd h
outside_after ps o ss ms (c ∷ cs) (r ∷ rs) f a s t h k =
    outside_after ps o ss ms cs rs (relocated (all_items ss ms) ps r f) a s t.1 h.2 k.1
    ∙ one_outside ps o ss ms c r f a s t.0 h.0 h.1 k.0

-- ---- constants that share no byte

abbrev pub ApartFrom : ℕ → List SectionBytes → ℕ → List Constant → Type 0
ApartFrom o ss at [] = Unit {0}
ApartFrom o ss at (d ∷ ds) = ((at + 4 ≤ constant_place o ss d) ⊎ (constant_place o ss d + 4 ≤ at)) × ApartFrom o ss at ds

abbrev pub AllApart : ℕ → List SectionBytes → List Constant → Type 0
AllApart o ss [] = Unit {0}
AllApart o ss (c ∷ cs) = ApartFrom o ss (constant_place o ss c) cs × AllApart o ss cs

word_after : (ps : List Placed) (o : ℕ) (ss : List SectionBytes) (ms : List ℕ) (at : ℕ) (cs : List Constant) (rs : List Relocation) (f : ℕ → ℕ) → AreFound ps 1 o ss → ConstantsFit ss ms cs → ConstantsAre cs rs → ApartFrom o ss at cs → word_at (after (all_items ss ms) ps rs f) at ≡ word_at f at
word_after ps o ss ms at [] [] f s t h k = refl
word_after ps o ss ms at [] (r ∷ rs) f s t h k = absurd h
word_after ps o ss ms at (c ∷ cs) [] f s t h k = absurd h
word_after ps o ss ms at (c ∷ cs) (r ∷ rs) f s t h k =
    word_after ps o ss ms at cs rs (relocated (all_items ss ms) ps r f) s t.1 h.2 k.1
    ∙ (ap (λ g. word_at g at) (as_word ps o ss ms c r f s t.0 h.0 h.1)
    ∙ word_kept at (constant_place o ss c) (value (all_items ss ms) ps r) f k.0)

turned : (a b : ℕ) → (a + 4 ≤ b) ⊎ (b + 4 ≤ a) → (b + 4 ≤ a) ⊎ (a + 4 ≤ b)
turned a b (inl h) = inr h
turned a b (inr h) = inl h

-- a word that is moved leaves what the later ones were
moved_before : (g f : ℕ → ℕ) (at v o : ℕ) (ss : List SectionBytes) (ms : List ℕ) (cs : List Constant) → ApartFrom o ss at cs → ConstantsMoved g (moved_word at v f) o ss ms cs → ConstantsMoved g f o ss ms cs
moved_before g f at v o ss ms [] a h = tt
moved_before g f at v o ss ms (c ∷ cs) a h =
    let p : ℕ = constant_place o ss c in (
      h.0 ∙ ap (λ x. (x + load_at o ss (target_of ss ms c)) % 4294967296) (word_kept p at v f (turned at p a.0)),
      moved_before g f at v o ss ms cs a.1 h.1,
    )

sum_by : (n v l : ℕ) → ValueIs v l → (n + v) % 4294967296 ≡ (n + l) % 4294967296
sum_by n v l (inl h) = ap (λ y. (n + y) % 4294967296) h
sum_by n v l (inr h) = omega (arith, h)

moved_after : (ps : List Placed) (o : ℕ) (ss : List SectionBytes) (ms : List ℕ) (cs : List Constant) (rs : List Relocation) (f : ℕ → ℕ) → AreFound ps 1 o ss → NamesFit ss → ConstantsFit ss ms cs → AllApart o ss cs → ConstantsAre cs rs → ConstantsMoved (after (all_items ss ms) ps rs f) f o ss ms cs
moved_after ps o ss ms [] [] f s n t a h = tt
moved_after ps o ss ms [] (r ∷ rs) f s n t a h = absurd h
moved_after ps o ss ms (c ∷ cs) [] f s n t a h = absurd h
moved_after ps o ss ms (c ∷ cs) (r ∷ rs) f s n t a h =
    let items = all_items ss ms in
    let p : ℕ = constant_place o ss c in
    let v : ℕ = value items ps r in
    let e : relocated items ps r f ≡ moved_word p v f = as_word ps o ss ms c r f s t.0 h.0 h.1 in
    let g = after items ps rs (relocated items ps r f) in (
      word_after ps o ss ms p cs rs (relocated items ps r f) s t.1 h.2 a.0
          ∙ (ap (λ x. word_at x p) e ∙ (word_moved p v f ∙ sum_by (word_at f p) v (load_at o ss (target_of ss ms c)) (value_is ps o ss ms c r s n t.0 h.0 h.1))),
      moved_before g f p v o ss ms cs a.0 (subst (λ x. ConstantsMoved g x o ss ms cs) e (moved_after ps o ss ms cs rs (relocated items ps r f) s n t.1 a.1 h.2)),
    )

-- ---- as the image has them

pub constants_moved : (ps : List Placed) (o : ℕ) (ss : List SectionBytes) (ms : List ℕ) (cs : List Constant) (rs : List Relocation) (f : ℕ → ℕ) → AreFound ps 1 o ss → NamesFit ss → ConstantsFit ss ms cs → AllApart o ss cs → ConstantsAre cs rs → ConstantsMoved (byte_after (all_items ss ms) ps (reverse rs) f) f o ss ms cs
constants_moved ps o ss ms cs rs f s n t a h = subst (λ g. ConstantsMoved g f o ss ms cs) (sym (after_is (all_items ss ms) ps rs f)) (moved_after ps o ss ms cs rs f s n t a h)

pub others_stay : (ps : List Placed) (o : ℕ) (ss : List SectionBytes) (ms : List ℕ) (cs : List Constant) (rs : List Relocation) (f : ℕ → ℕ) (a : ℕ) → AreFound ps 1 o ss → ConstantsFit ss ms cs → ConstantsAre cs rs → IsOutside o ss a cs → byte_after (all_items ss ms) ps (reverse rs) f a ≡ f a
others_stay ps o ss ms cs rs f a s t h k = ap (λ g. g a) (after_is (all_items ss ms) ps rs f) ∙ outside_after ps o ss ms cs rs f a s t h k
