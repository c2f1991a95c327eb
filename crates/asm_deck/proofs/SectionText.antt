-- The text of the sections.
use Rattle.std.proofs.Common.{◌≡◌, ℕ, zero, suc, ◌+◌, ◌-◌, ◌*◌, ◌<◌, ◌≤◌, Bool, true, false, cond, leb, ltb, eqb, ◌&&◌, ◌||◌, List, [], ◌∷◌, ◌++◌, length, get_or, refl, sym, ◌∙◌, ap, subst, arith, inl, inr}
use Rattle.std.proofs.lemmas.Bool.Decides.{nat_tests}
use Rattle.std.proofs.lemmas.Bool.{cases_lt}
use Rattle.deck_model.specs.Image.{section, aligned, text_at, text_byte}
use Rattle.deck_model.specs.declared.decks.Placed.{Placed}
use Rattle.deck_model.specs.declared.decks.Text.{Text}
use Rattle.deck_cards.specs.TextCards.{Run, reaches, run_byte}
use Rattle.deck_cards.proofs.RunBytes.{reach_in, reach_true, reach_below, reach_above, runs_hold}
use Rattle.asm_model.specs.Section.{SectionBytes}
use Rattle.asm_deck.specs.AssembledCards.{everywhere, section_runs}
use Rattle.asm_deck.specs.AssembledImage.{HoldsSections}
use Rattle.asm_deck.proofs.Items.{Piece, pieces, all_pieces, TextsAre, AreFound}
use Rattle.asm_deck.proofs.Runs.{AllOf, pieces_of}

-- ---- bytes at a place

abbrev shown : ℕ → List ℕ → ℕ → ℕ → ℕ
shown at xs a before = cond (reaches at (length xs) a) (get_or xs (a - at) 0) before

shown_in : (at : ℕ) (xs : List ℕ) (a before : ℕ) → at ≤ a → a < at + length xs → shown at xs a before ≡ get_or xs (a - at) 0
shown_in at xs a before h k = ap (λ b. cond b (get_or xs (a - at) 0) before) (reach_true at (length xs) a h k)

shown_below : (at : ℕ) (xs : List ℕ) (a before : ℕ) → a < at → shown at xs a before ≡ before
shown_below at xs a before h = ap (λ b. cond b (get_or xs (a - at) 0) before) (reach_below at (length xs) a h)

-- ---- the pieces of a section that is placed

abbrev pieces_byte : ℕ → List Piece → ℕ → ℕ → ℕ
pieces_byte o [] a before = before
pieces_byte o (c ∷ cs) a before = pieces_byte o cs a (shown (o + c.at) c.bytes a before)

-- below the section
pieces_low : (o id : ℕ) (rs : List Run) (a before : ℕ) → a < o → pieces_byte o (pieces id rs) a before ≡ before
pieces_low o id [] a before h = refl
pieces_low o id (r ∷ rs) a before h =
    ap (pieces_byte o (pieces id rs) a) (shown_below (o + r.at) r.bytes a before (omega arith))
    ∙ pieces_low o id rs a before h

reach_moved : (o at n a : ℕ) → reaches (o + at) n (o + a) ≡ reaches at n a
reach_moved o at n a = elim (cases_lt a at) [
  | inl l ↦ reach_below (o + at) n (o + a) (omega arith) ∙ sym (reach_below at n a l)
  | inr g ↦ elim (cases_lt a (at + n)) [
    | inl l ↦ reach_true (o + at) n (o + a) (omega arith) (omega arith) ∙ sym (reach_true at n a g l)
    | inr k ↦ reach_above (o + at) n (o + a) (omega arith) ∙ sym (reach_above at n a k)
  ]
]

shown_moved : (o at : ℕ) (xs : List ℕ) (a before : ℕ) → shown (o + at) xs (o + a) before ≡ shown at xs a before
shown_moved o at xs a before =
    let e : o + a - (o + at) ≡ a - at = omega arith in
    ap (λ b. cond b (get_or xs (o + a - (o + at)) 0) before) (reach_moved o at (length xs) a)
    ∙ ap (λ i. cond (reaches at (length xs) a) (get_or xs i 0) before) e

-- in it, as the runs
pieces_moved : (o id : ℕ) (rs : List Run) (a before : ℕ) → pieces_byte o (pieces id rs) (o + a) before ≡ run_byte rs a before
pieces_moved o id [] a before = refl
pieces_moved o id (r ∷ rs) a before =
    ap (pieces_byte o (pieces id rs) (o + a)) (shown_moved o r.at r.bytes a before)
    ∙ pieces_moved o id rs a (shown r.at r.bytes a before)

and_true : (b : Bool) → (b && true) ≡ b
and_true true = refl
and_true false = refl

section_shown : (s : SectionBytes) (a before : ℕ) → run_byte (section_runs s) a before ≡ cond (reaches 0 (length s.bytes) a) (get_or s.bytes a 0) before
section_shown s a before =
    runs_hold everywhere (λ k. get_or s.bytes k 0) (length s.bytes) a before
    ∙ ap (λ b. cond b (get_or s.bytes a 0) before) (and_true (reaches 0 (length s.bytes) a))

pieces_shown : (o id : ℕ) (s : SectionBytes) (a before : ℕ) → pieces_byte o (pieces id (section_runs s)) a before ≡ shown o s.bytes a before
pieces_shown o id s a before = elim (cases_lt a o) [
  | inl l ↦ pieces_low o id (section_runs s) a before l ∙ sym (shown_below o s.bytes a before l)
  | inr g ↦
      let e : o + (a - o) ≡ a = omega arith in
      let z : o + 0 ≡ o = omega arith in
      let d : a - o - 0 ≡ a - o = omega arith in
      let moved : pieces_byte o (pieces id (section_runs s)) (o + (a - o)) before ≡ shown (o + 0) s.bytes (o + (a - o)) before =
      pieces_moved o id (section_runs s) (a - o) before
      ∙ (section_shown s (a - o) before
      ∙ (sym (ap (λ i. cond (reaches 0 (length s.bytes) (a - o)) (get_or s.bytes i 0) before) d)
      ∙ sym (shown_moved o 0 s.bytes (a - o) before))) in
      sym (ap (λ x. pieces_byte o (pieces id (section_runs s)) x before) e)
      ∙ (moved ∙ (ap (λ x. shown x s.bytes (o + (a - o)) before) z ∙ ap (λ x. shown o s.bytes x before) e))
]

-- ---- the texts of the pieces

-- where the section of the pieces is
abbrev AtPlace : List Placed → ℕ → ℕ → Type 0
AtPlace ps id o = ((section ps 0 id).at ≡ o) × ((section ps 0 id).item.item.address ≡ 0)

pub sub_none : (x : ℕ) → x - 0 ≡ x
sub_none x = omega arith

one_text : (ps : List Placed) (id o : ℕ) (t : Text) (c : Piece) → AtPlace ps id o → c.id ≡ id → t.owner ≡ 0 → t.id ≡ c.id → t.address ≡ c.at → text_at ps t ≡ o + c.at
one_text ps id o t c p h w d x =
    let e : section ps t.owner t.id ≡ section ps 0 id = ap (λ y. section ps y t.id) w ∙ ap (section ps 0) (d ∙ h) in
    ap (λ (q : Placed). q.at + (t.address - q.item.item.address)) e
    ∙ (ap (λ y. y + (t.address - (section ps 0 id).item.item.address)) p.0
    ∙ (ap (λ y. o + (t.address - y)) p.1 ∙ (ap (λ y. o + y) (sub_none t.address) ∙ ap (λ y. o + y) x)))

-- the texts of a section's pieces and then of others
texts_shown : (ps : List Placed) (id o : ℕ) (cs ds : List Piece) (ts : List Text) (a before : ℕ) → AtPlace ps id o → AllOf id cs → TextsAre (cs ++ ds) ts → (us : List Text) × ((text_byte ps ts a before ≡ text_byte ps us a (pieces_byte o cs a before)) × TextsAre ds us)
texts_shown ps id o [] ds ts a before p h k = (ts, (refl, k))
texts_shown ps id o (c ∷ cs) ds [] a before p h k = absurd k
texts_shown ps id o (c ∷ cs) ds (t ∷ ts) a before p h k =
    let at = one_text ps id o t c p h.0 k.0 k.1 k.2 in
    let r = texts_shown ps id o cs ds ts a (shown (o + c.at) c.bytes a before) p h.1 k.4 in
    let e : text_byte ps (t ∷ ts) a before ≡ text_byte ps ts a (shown (o + c.at) c.bytes a before) =
    ap (λ x. text_byte ps ts a (cond (leb x a && ltb a (x + length t.bytes.items)) (get_or t.bytes.items (a - x) 0) before)) at
    ∙ ap (λ ys. text_byte ps ts a (shown (o + c.at) ys a before)) k.3 in
    (r.0, (e ∙ r.1.0, r.1.1))

-- the byte of the sections placed at a, else the byte before
abbrev sections_byte : ℕ → List SectionBytes → ℕ → ℕ → ℕ
sections_byte from [] a before = before
sections_byte from (s ∷ ss) a before = sections_byte (aligned from + length s.bytes) ss a (shown (aligned from) s.bytes a before)

texts_are : (ps : List Placed) (id from : ℕ) (ss : List SectionBytes) (ts : List Text) (a before : ℕ) → AreFound ps id from ss → TextsAre (all_pieces id ss) ts → text_byte ps ts a before ≡ sections_byte from ss a before
texts_are ps id from [] [] a before s k = refl
texts_are ps id from [] (t ∷ ts) a before s k = absurd k
texts_are ps id from (x ∷ ss) ts a before s k =
    let o : ℕ = aligned from in
    let cs = pieces id (section_runs x) in
    let p : AtPlace ps id o = (ap (λ (q : Placed). q.at) s.0, ap (λ (q : Placed). q.item.item.address) s.0) in
    let r = texts_shown ps id o cs (all_pieces (id + 1) ss) ts a before p (pieces_of id (section_runs x)) k in
    r.1.0 ∙ (texts_are ps (id + 1) (o + length x.bytes) ss r.0 a (pieces_byte o cs a before) s.1 r.1.1
    ∙ ap (sections_byte (o + length x.bytes) ss a) (pieces_shown o id x a before))

-- ---- each section holds its bytes

low : (n : ℕ) → n ≤ aligned n
low n = omega arith

sections_below : (from : ℕ) (ss : List SectionBytes) (a before : ℕ) → a < from → sections_byte from ss a before ≡ before
sections_below from [] a before h = refl
sections_below from (s ∷ ss) a before h =
    let l = low from in
    let k : a < aligned from = omega (arith, l) in
    ap (sections_byte (aligned from + length s.bytes) ss a) (shown_below (aligned from) s.bytes a before k)
    ∙ sections_below (aligned from + length s.bytes) ss a before (omega (arith, k))

over_zero : (o a : ℕ) → o + a - o ≡ a
over_zero o a = omega arith

sections_held : (from : ℕ) (ss : List SectionBytes) (old : ℕ → ℕ) → HoldsSections (λ a. sections_byte from ss a (old a)) from ss
sections_held from [] old = tt
sections_held from (s ∷ ss) old =
    let o : ℕ = aligned from in (
      λ a h. sections_below (o + length s.bytes) ss (o + a) (shown o s.bytes (o + a) (old (o + a))) (omega arith)
          ∙ (shown_in o s.bytes (o + a) (old (o + a)) (omega arith) (omega arith) ∙ ap (λ i. get_or s.bytes i 0) (over_zero o a)),
      sections_held (o + length s.bytes) ss (λ a. shown o s.bytes a (old a)),
    )

held_same : (f g : ℕ → ℕ) (from : ℕ) (ss : List SectionBytes) → ((a : ℕ) → f a ≡ g a) → HoldsSections g from ss → HoldsSections f from ss
held_same f g from [] h k = tt
held_same f g from (s ∷ ss) h k = (λ a l. h (aligned from + a) ∙ k.0 a l, held_same f g (aligned from + length s.bytes) ss h k.1)

pub text_held : (ps : List Placed) (id from : ℕ) (ss : List SectionBytes) (ts : List Text) → AreFound ps id from ss → TextsAre (all_pieces id ss) ts → HoldsSections (λ a. text_byte ps ts a 0) from ss
text_held ps id from ss ts s k = held_same (λ a. text_byte ps ts a 0) (λ a. sections_byte from ss a 0) from ss (λ a. texts_are ps id from ss ts a 0 s k) (sections_held from ss (λ a. 0))
