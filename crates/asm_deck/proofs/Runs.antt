-- The runs of a section: inside it, none empty, none above 56 bytes.
use Rattle.std.proofs.Common.{◌≡◌, ◌≢◌, ℕ, zero, suc, ◌+◌, ◌<◌, ◌≤◌, Bool, true, false, eqb, List, [], ◌∷◌, ◌++◌, length, refl, sym, ◌∙◌, ap, arith}
use Rattle.std.proofs.lemmas.Bool.Decides.{nat_tests}
use Rattle.deck_model.specs.Image.{bytes_from}
use Rattle.deck_cards.specs.TextCards.{Run, closed, next_run, runs, runs_of}
use Rattle.asm_model.specs.Section.{SectionBytes}
use Rattle.asm_deck.specs.AssembledCards.{everywhere, section_runs}
use Rattle.asm_deck.proofs.Items.{Piece, pieces, all_pieces}

pub length-bytes_from : (f : ℕ → ℕ) (a n : ℕ) → length (bytes_from f a n) ≡ n
length-bytes_from f a zero = refl
length-bytes_from f a (suc n) = ap suc (length-bytes_from f (a + 1) n)

abbrev pub RunsFit : ℕ → List Run → Type 0
RunsFit n [] = Unit {0}
RunsFit n (r ∷ rs) =
    (0 < length r.bytes) × (length r.bytes ≤ 56) × (r.at + length r.bytes ≤ n) × RunsFit n rs

closed_fit : (f : ℕ → ℕ) (at held m : ℕ) (more : List Run) → held ≤ 56 → at + held ≤ m → RunsFit m more → RunsFit m (closed f at held more)
closed_fit f at zero m more h k r = r
closed_fit f at (suc held) m more h k r =
    let l = length-bytes_from f at (suc held) in
    (omega (arith, l), omega (arith, l, h), omega (arith, l, k), r)

next_fit : (b c : Bool) (on : ℕ → Bool) (f : ℕ → ℕ) (at held n m : ℕ) → eqb held 56 ≡ c → held ≤ 56 → at + held + suc n ≤ m
    → ((p q : ℕ) → q ≤ 56 → p + q + n ≤ m → RunsFit m (runs on f p q n))
    → RunsFit m (next_run b c f at held (λ p q. runs on f p q n))
next_fit false c on f at held n m e h k ih =
    closed_fit f at held m (runs on f (at + held + 1) 0 n) h (omega arith) (ih (at + held + 1) 0 (omega arith) (omega arith))
next_fit true true on f at held n m e h k ih =
    closed_fit f at held m (runs on f (at + held) 1 n) h (omega arith) (ih (at + held) 1 (omega arith) (omega arith))
next_fit true false on f at held n m e h k ih =
    let d : held ≤ 55 = grind (arith, nat_tests) in
    ih at (held + 1) (omega arith) (omega arith)

runs_fit : (on : ℕ → Bool) (f : ℕ → ℕ) (at held n m : ℕ) → held ≤ 56 → at + held + n ≤ m → RunsFit m (runs on f at held n)
runs_fit on f at held zero m h k = closed_fit f at held m [] h (omega arith) tt
runs_fit on f at held (suc n) m h k =
    next_fit (on (at + held)) (eqb held 56) on f at held n m refl h k (λ p q u v. runs_fit on f p q n m u v)

pub section_fit : (s : SectionBytes) → RunsFit (length s.bytes) (section_runs s)
section_fit s = runs_fit everywhere _ 0 0 (length s.bytes) (length s.bytes) (omega arith) (omega arith)

-- ---- the pieces of a section have its ESDID

abbrev pub AllOf : ℕ → List Piece → Type 0
AllOf id [] = Unit {0}
AllOf id (c ∷ cs) = (c.id ≡ id) × AllOf id cs

pub pieces_of : (id : ℕ) (rs : List Run) → AllOf id (pieces id rs)
pieces_of id [] = tt
pieces_of id (r ∷ rs) = (refl, pieces_of id rs)
