-- Text, constants and the entry lie inside their sections.
use Rattle.std.proofs.Common.{◌≡◌, ℕ, zero, suc, ◌+◌, ◌-◌, ◌*◌, ◌<◌, ◌≤◌, Bool, true, false, cond, not, leb, ltb, eqb, ◌&&◌, ◌||◌, List, [], ◌∷◌, ◌++◌, length, get_or, Option, Some, None, refl, sym, ◌∙◌, ap, subst, arith}
use Rattle.std.proofs.lemmas.Bool.Decides.{nat_tests}
use Rattle.std.specs.List.{find, list_any}
use Rattle.deck_model.specs.Image.{section, aligned, is_text_outside, is_constant_outside, has_length, default_entry, entry}
use Rattle.deck_model.specs.declared.cards.RldItem.{RldItem}
use Rattle.deck_model.specs.declared.decks.Placed.{Placed}
use Rattle.deck_model.specs.declared.decks.Text.{Text}
use Rattle.deck_model.specs.declared.decks.Relocation.{Relocation}
use Rattle.deck_model.specs.declared.decks.Entry.{Entry}
use Rattle.deck_cards.specs.TextCards.{Run}
use Rattle.asm_model.specs.Section.{SectionBytes}
use Rattle.asm_model.specs.declared.program.Constant.{Constant}
use Rattle.asm_model.specs.declared.program.Defined.{Defined}
use Rattle.asm_deck.specs.AssembledCards.{section_runs}
use Rattle.asm_deck.specs.LoadedSections.{load_at, no_section, section_bytes, is_full, first_full, entry_at}
use Rattle.asm_deck.specs.Accepted.{ConstantFits, ConstantsFit, EntryFits}
use Rattle.asm_deck.proofs.Items.{Piece, pieces, all_pieces, TextsAre, ConstantsAre, EntryIs, item_for, placed_one, placed_from, AreFound}
use Rattle.asm_deck.proofs.Runs.{RunsFit, section_fit, AllOf, pieces_of}
use Rattle.asm_deck.proofs.Places.{IsAt, found_at}
use Rattle.asm_deck.proofs.Found.{one_less}
use Rattle.asm_deck.proofs.SectionText.{sub_none}
use Rattle.asm_deck.proofs.Used.{none_found, and_none}

-- ---- text

abbrev InsideOf : ℕ → List Piece → Type 0
InsideOf n [] = Unit {0}
InsideOf n (c ∷ cs) = (c.at + length c.bytes ≤ n) × InsideOf n cs

runs_inside : (n id : ℕ) (rs : List Run) → RunsFit n rs → InsideOf n (pieces id rs)
runs_inside n id [] h = tt
runs_inside n id (r ∷ rs) h = (h.2, runs_inside n id rs h.3)

section_inside : (id : ℕ) (s : SectionBytes) → InsideOf (length s.bytes) (pieces id (section_runs s))
section_inside id s = runs_inside (length s.bytes) id (section_runs s) (section_fit s)

abbrev text_out : ℕ → ℕ → ℕ → ℕ → Bool
text_out x n address len = ltb address x || (not (eqb n 0) && ltb n (address + len - x))

text_in : (n at len : ℕ) → at + len ≤ n → text_out 0 n at len ≡ false
text_in n at len h =
    let a : ltb at 0 ≡ false = grind (arith, nat_tests) in
    let k : at + len - 0 ≤ n = omega arith in
    let b : ltb n (at + len - 0) ≡ false = grind (arith, nat_tests) in
    rw a (ap (λ c. not (eqb n 0) && c) b ∙ and_none (not (eqb n 0)))

texts_inside : (ps : List Placed) (id o n : ℕ) (cs ds : List Piece) (ts : List Text) → IsAt ps id o n → AllOf id cs → InsideOf n cs → TextsAre (cs ++ ds) ts → (us : List Text) × ((find (is_text_outside ps) us ≡ None → find (is_text_outside ps) ts ≡ None) × TextsAre ds us)
texts_inside ps id o n [] ds ts p h i k = (ts, ((λ e. e), k))
texts_inside ps id o n (c ∷ cs) ds [] p h i k = absurd k
texts_inside ps id o n (c ∷ cs) ds (t ∷ ts) p h i k =
    let e : section ps t.owner t.id ≡ section ps 0 id = ap (λ y. section ps y t.id) k.0 ∙ ap (section ps 0) (k.1 ∙ h.0) in
    let f : is_text_outside ps t ≡ false =
    ap (λ (q : Placed). text_out q.item.item.address q.item.item.extent t.address (length t.bytes.items)) e
    ∙ (ap (λ y. text_out y (section ps 0 id).item.item.extent t.address (length t.bytes.items)) p.1
    ∙ (ap (λ y. text_out 0 y t.address (length t.bytes.items)) p.3
    ∙ (ap (λ y. text_out 0 n y (length t.bytes.items)) k.2
    ∙ (ap (λ ys. text_out 0 n c.at (length ys)) k.3 ∙ text_in n c.at (length c.bytes) i.0)))) in
    let r = texts_inside ps id o n cs ds ts p h.1 i.1 k.4 in
    (r.0, ((λ g. none_found (is_text_outside ps) t ts f (r.1.0 g)), r.1.1))

pub all_inside : (ps : List Placed) (id from : ℕ) (ss : List SectionBytes) (ts : List Text) → AreFound ps id from ss → TextsAre (all_pieces id ss) ts → find (is_text_outside ps) ts ≡ None
all_inside ps id from [] [] s k = refl
all_inside ps id from [] (t ∷ ts) s k = absurd k
all_inside ps id from (x ∷ ss) ts s k =
    let cs = pieces id (section_runs x) in
    let e = s.0 in
    let p : IsAt ps id (aligned from) (length x.bytes) = (ap (λ (q : Placed). q.at) e, ap (λ (q : Placed). q.item.item.address) e, ap (λ (q : Placed). q.length) e, ap (λ (q : Placed). q.item.item.extent) e) in
    let r = texts_inside ps id (aligned from) (length x.bytes) cs (all_pieces (id + 1) ss) ts p (pieces_of id (section_runs x)) (section_inside id x) k in
    r.1.0 (all_inside ps (id + 1) (aligned from + length x.bytes) ss r.0 s.1 r.1.1)

-- ---- constants

abbrev constant_out : ℕ → ℕ → ℕ → ℕ → Bool
constant_out x n address width = ltb address x || ltb n (address + width - x)

constant_in : (n at : ℕ) → at + 4 ≤ n → constant_out 0 n at 4 ≡ false
constant_in n at h =
    let a : ltb at 0 ≡ false = grind (arith, nat_tests) in
    let k : at + 4 - 0 ≤ n = omega arith in
    let b : ltb n (at + 4 - 0) ≡ false = grind (arith, nat_tests) in
    rw a b

pub constants_inside : (ps : List Placed) (o : ℕ) (ss : List SectionBytes) (ms : List ℕ) (cs : List Constant) (rs : List Relocation) → AreFound ps 1 o ss → ConstantsFit ss ms cs → ConstantsAre cs rs → find (is_constant_outside ps) rs ≡ None
constants_inside ps o ss ms [] [] s f k = refl
constants_inside ps o ss ms [] (r ∷ rs) s f k = absurd k
constants_inside ps o ss ms (c ∷ cs) [] s f k = absurd k
constants_inside ps o ss ms (c ∷ cs) (r ∷ rs) s f k =
    let a = f.0.0 in
    let b = f.0.1 in
    let p = found_at ps 1 o ss (c.section - 1) s (omega (arith, a, b)) in
    let n : ℕ = length (section_bytes ss (c.section - 1)) in
    let e : section ps r.owner r.item.place ≡ section ps 0 (1 + (c.section - 1)) = ap (λ y. section ps y r.item.place) k.0 ∙ (ap (λ (x : RldItem). section ps 0 x.place) k.1 ∙ ap (section ps 0) (sym (one_less c.section a))) in
    let g : is_constant_outside ps r ≡ false =
    ap (λ (q : Placed). constant_out q.item.item.address q.length r.item.address r.item.width) e
    ∙ (ap (λ y. constant_out y (section ps 0 (1 + (c.section - 1))).length r.item.address r.item.width) p.1
    ∙ (ap (λ y. constant_out 0 y r.item.address r.item.width) p.2
    ∙ (ap (λ (x : RldItem). constant_out 0 n x.address x.width) k.1 ∙ constant_in n c.offset f.0.2))) in
    none_found (is_constant_outside ps) r rs g (constants_inside ps o ss ms cs rs s f.1 k.2)

-- ---- entry

full_case : (b : Bool) (p : Placed) (n : ℕ) (r : Option Placed) → (b ≡ false → default_entry r ≡ Some n) → default_entry (cond b (Some p) r) ≡ Some (cond b p.at n)
full_case true p n r h = refl
full_case false p n r h = h refl

some_left : (b c : Bool) → (b || c) ≡ true → b ≡ false → c ≡ true
some_left true c h e = absurd (grind (arith, nat_tests))
some_left false c h e = h

first_entry : (id from : ℕ) (ss : List SectionBytes) → list_any is_full ss ≡ true → default_entry (find has_length (placed_from id from ss)) ≡ Some (first_full from ss)
first_entry id from [] h = absurd (grind (arith, nat_tests))
first_entry id from (s ∷ ss) h =
    let p : Placed = record { item = item_for id s; length = length s.bytes; at = aligned from } in
    full_case (is_full s) p (first_full (aligned from + length s.bytes) ss) (find has_length (placed_from (id + 1) (aligned from + length s.bytes) ss)) (λ e. first_entry (id + 1) (aligned from + length s.bytes) ss (some_left (is_full s) (list_any is_full ss) h e))

abbrev entry_by : ℕ → ℕ → ℕ → ℕ → Option ℕ
entry_by at x n address = cond (ltb address x || leb n (address - x)) None (Some (at + (address - x)))

entry_in : (at n address : ℕ) → address < n → entry_by at 0 n address ≡ Some (at + address)
entry_in at n address h =
    let a : ltb address 0 ≡ false = grind (arith, nat_tests) in
    let z = sub_none address in
    let b : leb n address ≡ false = grind (arith, nat_tests) in
    ap (λ y. cond (ltb address 0 || leb n y) None (Some (at + y))) z ∙ rw a (rw b refl)

pub entry_is : (ps : List Placed) (o : ℕ) (ss : List SectionBytes) (e : Option Defined) (es : List Entry) → ps ≡ placed_from 1 o ss → AreFound ps 1 o ss → list_any is_full ss ≡ true → EntryFits ss e → EntryIs e es → entry ps es ≡ Some (entry_at o ss e)
entry_is ps o ss None [] q s u f h = ap (λ y. default_entry (find has_length y)) q ∙ first_entry 1 o ss u
entry_is ps o ss None (x ∷ xs) q s u f h = absurd h
entry_is ps o ss (Some d) [] q s u f h = absurd h
entry_is ps o ss (Some d) (x ∷ xs) q s u f h =
    let a = f.0 in
    let b = f.1 in
    let k : ℕ = d.section - 1 in
    let p = found_at ps 1 o ss k s (omega (arith, a, b)) in
    let n : ℕ = length (section_bytes ss k) in
    let e : section ps x.owner x.id ≡ section ps 0 (1 + k) = ap (λ y. section ps y x.id) h.0 ∙ ap (section ps 0) (h.1 ∙ sym (one_less d.section a)) in
    ap (λ (y : Placed). entry_by y.at y.item.item.address y.length x.address) e
    ∙ (ap (λ y. entry_by y (section ps 0 (1 + k)).item.item.address (section ps 0 (1 + k)).length x.address) p.0
    ∙ (ap (λ y. entry_by (load_at o ss k) y (section ps 0 (1 + k)).length x.address) p.1
    ∙ (ap (λ y. entry_by (load_at o ss k) 0 y x.address) p.2
    ∙ (ap (λ y. entry_by (load_at o ss k) 0 n y) h.2 ∙ entry_in (load_at o ss k) n d.offset f.2))))
