-- Text cards written run by run.
use Rattle.std.proofs.Common.{◌≡◌, ℕ, zero, suc, ◌+◌, ◌-◌, ◌<◌, ◌≤◌, Bool, true, false, cond, eqb, List, [], ◌∷◌, ◌++◌, length, get_or, take, drop, refl, sym, ◌∙◌, ap, arith, append_assoc}
use Rattle.std.proofs.Math.Seq.{drop-cons}
use Rattle.std.proofs.lemmas.Bool.Decides.{nat_tests}
use Rattle.deck_model.specs.Card.{txt}
use Rattle.deck_model.specs.CardWriting.{card_bytes}
use Rattle.deck_model.specs.Image.{bytes_from}
use Rattle.deck_model.specs.declared.cards.Card.{Card}
use Rattle.deck_cards.specs.TextCards.{Run, closed, runs}
use Rattle.deck_cards.specs.TextCards.{text_cards}
use Rattle.deck_cards.specs.NumberedCards.{sequence, deck_bytes}

pub taken_is : (xs : List ℕ) (at n : ℕ) → at + n ≤ length xs → take n (drop at xs) ≡ bytes_from (λ k. get_or xs k 0) at n
taken_is xs at zero h = refl
taken_is xs at (suc n) h =
    let l : at < length xs = omega arith in
    let e : suc at ≡ at + 1 = omega arith in
    ap (take (suc n)) (drop-cons xs at 0 l)
    ∙ (ap (λ k. get_or xs at 0 ∷ take n (drop k xs)) e ∙ ap (λ ys. get_or xs at 0 ∷ ys) (taken_is xs (at + 1) n (omega arith)))

pub closed_none : (id : ℕ) (f : ℕ → ℕ) (at held number : ℕ) (old : List ℕ) (more : List Run) (rest : List Card) → held ≡ 0 → old ++ deck_bytes number (text_cards id more ++ rest) ≡ old ++ deck_bytes number (text_cards id (closed f at held more) ++ rest)
closed_none id f at zero number old more rest e = refl
closed_none id f at (suc m) number old more rest e = absurd (omega arith)

pub closed_one : (id : ℕ) (f : ℕ → ℕ) (at held number next : ℕ) (old new : List ℕ) (more : List Run) (rest : List Card) → 0 < held → next ≡ number + 1 → new ≡ old ++ card_bytes (txt id at (bytes_from f at held)) (sequence number) → new ++ deck_bytes next (text_cards id more ++ rest) ≡ old ++ deck_bytes number (text_cards id (closed f at held more) ++ rest)
closed_one id f at zero number next old new more rest h n e = absurd (omega arith)
closed_one id f at (suc m) number next old new more rest h n e =
    ap (λ k. new ++ deck_bytes k (text_cards id more ++ rest)) n
    ∙ (ap (λ xs. xs ++ deck_bytes (number + 1) (text_cards id more ++ rest)) e
    ∙ append_assoc old (card_bytes (txt id at (bytes_from f at (suc m))) (sequence number)) (deck_bytes (number + 1) (text_cards id more ++ rest)))

pub runs_more : (on : ℕ → Bool) (f : ℕ → ℕ) (at held n : ℕ) → on (at + held) ≡ true → eqb held 56 ≡ false → runs on f at (held + 1) n ≡ runs on f at held (suc n)
runs_more on f at held n e h = sym (rw e (rw h refl))

pub runs_full : (on : ℕ → Bool) (f : ℕ → ℕ) (at held n : ℕ) → on (at + held) ≡ true → eqb held 56 ≡ true → closed f at held (runs on f (at + held) 1 n) ≡ runs on f at held (suc n)
runs_full on f at held n e h = sym (rw e (rw h refl))

pub runs_off : (on : ℕ → Bool) (f : ℕ → ℕ) (at held n : ℕ) → on (at + held) ≡ false → closed f at held (runs on f (at + held + 1) 0 n) ≡ runs on f at held (suc n)
runs_off on f at held n e = sym (rw e refl)

pub runs_end : (on : ℕ → Bool) (f : ℕ → ℕ) (at held n : ℕ) → n ≡ 0 → closed f at held [] ≡ runs on f at held n
runs_end on f at held zero e = refl
runs_end on f at held (suc n) e = absurd (omega arith)
