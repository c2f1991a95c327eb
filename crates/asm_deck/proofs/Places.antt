-- The sections of the deck at their places.
use Rattle.std.proofs.Common.{◌≡◌, ℕ, zero, suc, ◌+◌, ◌-◌, ◌*◌, ◌<◌, ◌≤◌, max, Bool, true, false, cond, leb, ltb, eqb, ◌&&◌, ◌||◌, List, [], ◌∷◌, ◌++◌, length, get_or, Option, Some, None, refl, sym, ◌∙◌, ap, subst, arith, append_assoc}
use Rattle.std.proofs.lemmas.Bool.Decides.{nat_tests}
use Rattle.std.specs.List.{find}
use Rattle.deck_model.specs.Image.{section, or_nowhere, aligned, is_placed, place, length_of, farthest, text_end}
use Rattle.deck_model.specs.declared.decks.Placed.{Placed}
use Rattle.deck_model.specs.declared.decks.Item.{Item}
use Rattle.deck_model.specs.declared.decks.Text.{Text}
use Rattle.asm_model.specs.Section.{SectionBytes}
use Rattle.asm_deck.specs.AssembledCards.{section_runs}
use Rattle.asm_deck.specs.LoadedSections.{load_at, section_bytes}
use Rattle.asm_deck.proofs.Items.{Piece, pieces, all_pieces, TextsAre, item_for, section_items, external_items, placed_one, placed_from, AreFound}
use Rattle.asm_deck.proofs.Runs.{AllOf, pieces_of}

-- ---- an empty section has no text

abbrev NoneOf : ℕ → List Piece → Type 0
NoneOf k [] = Unit {0}
NoneOf k (c ∷ cs) = (eqb c.id k ≡ false) × NoneOf k cs

none_append : (k : ℕ) (cs ds : List Piece) → NoneOf k cs → NoneOf k ds → NoneOf k (cs ++ ds)
none_append k [] ds h g = g
none_append k (c ∷ cs) ds h g = (h.0, none_append k cs ds h.1 g)

none_other : (k id : ℕ) (cs : List Piece) → AllOf id cs → eqb id k ≡ false → NoneOf k cs
none_other k id [] h e = tt
none_other k id (c ∷ cs) h e = (ap (λ x. eqb x k) h.0 ∙ e, none_other k id cs h.1 e)

differ : (k id : ℕ) → k < id → eqb id k ≡ false
differ k id h = grind (arith, nat_tests)

none_above : (k id : ℕ) (ss : List SectionBytes) → k < id → NoneOf k (all_pieces id ss)
none_above k id [] h = tt
none_above k id (s ∷ ss) h = none_append k (pieces id (section_runs s)) (all_pieces (id + 1) ss) (none_other k id (pieces id (section_runs s)) (pieces_of id (section_runs s)) (differ k id h)) (none_above k (id + 1) ss (omega arith))

both_none : (b c : Bool) (x : ℕ) → c ≡ false → cond (b && c) x 0 ≡ 0
both_none true c x h = ap (λ d. cond d x 0) h
both_none false c x h = refl

end_none : (s : Item) (t : Text) (k : ℕ) → t.id ≡ k → eqb k s.id ≡ false → text_end s t ≡ 0
end_none s t k d h = both_none (eqb t.owner s.owner) (eqb t.id s.id) (t.address + length t.bytes.items - s.item.address) (ap (λ x. eqb x s.id) d ∙ h)

farthest_none : (s : Item) (cs : List Piece) (ts : List Text) → TextsAre cs ts → NoneOf s.id cs → farthest s ts ≡ 0
farthest_none s [] [] h n = refl
farthest_none s [] (t ∷ ts) h n = absurd h
farthest_none s (c ∷ cs) [] h n = absurd h
farthest_none s (c ∷ cs) (t ∷ ts) h n = ap (λ x. max x (farthest s ts)) (end_none s t c.id h.1 n.0) ∙ ap (λ x. max 0 x) (farthest_none s cs ts h.4 n.1)

-- ---- each section has the length of its bytes

abbrev Lengths : ℕ → List SectionBytes → List Text → Type 0
Lengths id [] ts = Unit {0}
Lengths id (s ∷ ss) ts = (length_of ts (item_for id s) ≡ length s.bytes) × Lengths (id + 1) ss ts

length_case : (n f : ℕ) → (n ≡ 0 → f ≡ 0) → cond (eqb n 0) f n ≡ n
length_case zero f h = h refl
length_case (suc n) f h = let e : eqb (suc n) 0 ≡ false = grind (arith, nat_tests) in ap (λ b. cond b f (suc n)) e

none_empty : (id : ℕ) (name : ℕ) (xs : List ℕ) → length xs ≡ 0 → NoneOf id (pieces id (section_runs (record { name = name; bytes = xs })))
none_empty id name [] e = tt
none_empty id name (x ∷ xs) e = absurd (omega (arith, e))

below : (k id : ℕ) → id + 1 ≤ k → eqb id k ≡ false
below k id h = grind (arith, nat_tests)

none_at : (id : ℕ) (pre : List Piece) (s : SectionBytes) (ss : List SectionBytes) → ((k : ℕ) → id ≤ k → NoneOf k pre) → length s.bytes ≡ 0 → NoneOf id (pre ++ all_pieces id (s ∷ ss))
none_at id pre s ss h e = none_append id pre (pieces id (section_runs s) ++ all_pieces (id + 1) ss) (h id (omega arith)) (none_append id (pieces id (section_runs s)) (all_pieces (id + 1) ss) (none_empty id s.name s.bytes e) (none_above id (id + 1) ss (omega arith)))

lengths_are : (id : ℕ) (pre : List Piece) (ss : List SectionBytes) (ts : List Text) → ((k : ℕ) → id ≤ k → NoneOf k pre) → TextsAre (pre ++ all_pieces id ss) ts → Lengths id ss ts
lengths_are id pre [] ts h c = tt
lengths_are id pre (s ∷ ss) ts h c =
    let cs = pieces id (section_runs s) in
    let a : (pre ++ cs) ++ all_pieces (id + 1) ss ≡ pre ++ (cs ++ all_pieces (id + 1) ss) = append_assoc pre cs (all_pieces (id + 1) ss) in (
      length_case (length s.bytes) (farthest (item_for id s) ts) (λ e. farthest_none (item_for id s) (pre ++ all_pieces id (s ∷ ss)) ts c (none_at id pre s ss h e)),
      lengths_are (id + 1) (pre ++ cs) ss ts (λ k l. none_append k pre cs (h k (omega arith)) (none_other k id cs (pieces_of id (section_runs s)) (below k id l))) (subst (λ ds. TextsAre ds ts) (sym a) c),
    )

-- ---- places

externals_unplaced : (from id : ℕ) (texts : List Text) (ms : List ℕ) → place from texts (external_items id ms) ≡ []
externals_unplaced from id texts [] = refl
externals_unplaced from id texts (m ∷ ms) = externals_unplaced from (id + 1) texts ms

place_is : (from id j : ℕ) (texts : List Text) (ss : List SectionBytes) (ms : List ℕ) → Lengths id ss texts → place from texts (section_items id ss ++ external_items j ms) ≡ placed_from id from ss
place_is from id j texts [] ms h = externals_unplaced from j texts ms
place_is from id j texts (s ∷ ss) ms h =
    ap (λ n. record { item = item_for id s; length = n; at = aligned from } ∷ place (aligned from + n) texts (section_items (id + 1) ss ++ external_items j ms)) h.0
    ∙ ap (λ ps. placed_one id from s ∷ ps) (place_is (aligned from + length s.bytes) (id + 1) j texts ss ms h.1)

pub places_are : (from : ℕ) (texts : List Text) (ss : List SectionBytes) (ms : List ℕ) → TextsAre (all_pieces 1 ss) texts → place from texts (section_items 1 ss ++ external_items (1 + length ss) ms) ≡ placed_from 1 from ss
places_are from texts ss ms h = place_is from 1 (1 + length ss) texts ss ms (lengths_are 1 [] ss texts (λ k l. tt) h)

-- ---- sections are found

same_id : (id : ℕ) → eqb id id ≡ true
same_id id = grind (arith, nat_tests)

above : (id d : ℕ) → id + 1 ≤ d → eqb id d ≡ false
above id d h = grind (arith, nat_tests)

plus_zero : (n : ℕ) → n + 0 ≡ n
plus_zero n = omega arith

found_from : (ps : List Placed) (id from : ℕ) (ss : List SectionBytes) → ((d : ℕ) → id ≤ d → find (is_placed 0 d) ps ≡ find (is_placed 0 d) (placed_from id from ss)) → AreFound ps id from ss
unfolding section
found_from ps id from [] h = tt
found_from ps id from (s ∷ ss) h =
    let rest = placed_from (id + 1) (aligned from + length s.bytes) ss in
    let p : Placed = placed_one id from s in (
      ap or_nowhere (h id (omega arith) ∙ ap (λ b. cond b (Some p) (find (is_placed 0 id) rest)) (same_id id)),
      found_from ps (id + 1) (aligned from + length s.bytes) ss (λ d l. h d (omega arith) ∙ ap (λ b. cond b (Some p) (find (is_placed 0 d) rest)) (above id d l)),
    )

pub are_found : (from : ℕ) (ss : List SectionBytes) → AreFound (placed_from 1 from ss) 1 from ss
are_found from ss = found_from (placed_from 1 from ss) 1 from ss (λ d l. refl)

-- the section at a place of the list
abbrev pub IsAt : List Placed → ℕ → ℕ → ℕ → Type 0
IsAt ps d at n = ((section ps 0 d).at ≡ at) × ((section ps 0 d).item.item.address ≡ 0) × ((section ps 0 d).length ≡ n) × ((section ps 0 d).item.item.extent ≡ n)

pub found_at : (ps : List Placed) (id from : ℕ) (ss : List SectionBytes) (k : ℕ) → AreFound ps id from ss → k < length ss → IsAt ps (id + k) (load_at from ss k) (length (section_bytes ss k))
found_at ps id from [] k h l = absurd (omega arith)
found_at ps id from (s ∷ ss) zero h l =
    let e : section ps 0 (id + 0) ≡ section ps 0 id = ap (section ps 0) (plus_zero id) in
    let f = e ∙ h.0 in (
      ap (λ (p : Placed). p.at) f,
      ap (λ (p : Placed). p.item.item.address) f,
      ap (λ (p : Placed). p.length) f,
      ap (λ (p : Placed). p.item.item.extent) f,
    )
found_at ps id from (s ∷ ss) (suc k) h l =
    let e : id + 1 + k ≡ id + suc k = omega arith in
    subst (λ d. IsAt ps d (load_at (aligned from + length s.bytes) ss k) (length (section_bytes ss k))) e (found_at ps (id + 1) (aligned from + length s.bytes) ss k h.1 (omega arith))
