-- The deck written card by card.
use Rattle.std.proofs.Common.{◌≡◌, ℕ, zero, suc, ◌+◌, ◌-◌, ◌<◌, ◌≤◌, Bool, true, false, cond, eqb, List, [], ◌∷◌, ◌++◌, length, get_or, replicate, refl, sym, ◌∙◌, ap, arith, append_assoc, append-nil}
use Rattle.std.proofs.lemmas.Bool.Decides.{nat_tests}
use Rattle.deck_model.specs.CardWriting.{card_bytes}
use Rattle.deck_model.specs.declared.cards.Card.{Card}
use Rattle.deck_cards.specs.NumberedCards.{sequence, deck_bytes}
use Rattle.deck_cards.specs.TextCards.{Run, closed, next_run, runs, runs_of, text_cards}
use Rattle.asm_deck.specs.AssembledCards.{everywhere}

-- one card more
pub one_card : (c : Card) (number next : ℕ) (old new : List ℕ) (more : List Card) → next ≡ number + 1 → new ≡ old ++ card_bytes c (sequence number) → new ++ deck_bytes next more ≡ old ++ deck_bytes number (c ∷ more)
one_card c number next old new more n e =
    ap (λ k. new ++ deck_bytes k more) n
    ∙ (ap (λ xs. xs ++ deck_bytes (number + 1) more) e
    ∙ append_assoc old (card_bytes c (sequence number)) (deck_bytes (number + 1) more))

pub last_alone : (c : Card) (number : ℕ) (old new : List ℕ) → new ≡ old ++ card_bytes c (sequence number) → new ≡ old ++ deck_bytes number (c ∷ [])
last_alone c number old new e = e ∙ ap (λ xs. old ++ xs) (sym (append-nil (card_bytes c (sequence number))))

-- ---- something stands on each byte

true_below : (n k : ℕ) → k < n → get_or (replicate n true) k false ≡ true
true_below zero k h = absurd (omega arith)
true_below (suc n) zero h = refl
true_below (suc n) (suc k) h = true_below n k (omega arith)

same_next : (b c : Bool) (on : ℕ → Bool) (f : ℕ → ℕ) (at held n : ℕ) → b ≡ true
    → ((p q : ℕ) → p + q ≡ at + held + 1 → runs on f p q n ≡ runs everywhere f p q n)
    → next_run b c f at held (λ p q. runs on f p q n) ≡ next_run true c f at held (λ p q. runs everywhere f p q n)
same_next true true on f at held n e ih = ap (closed f at held) (ih (at + held) 1 refl)
same_next true false on f at held n e ih = ih at (held + 1) (omega arith)
same_next false c on f at held n e ih = absurd (grind (arith, nat_tests))

same_runs : (on : ℕ → Bool) (f : ℕ → ℕ) (at held n m : ℕ) → at + held + n ≤ m → ((k : ℕ) → k < m → on k ≡ true) → runs on f at held n ≡ runs everywhere f at held n
same_runs on f at held zero m h k = refl
same_runs on f at held (suc n) m h k = same_next (on (at + held)) (eqb held 56) on f at held n (k (at + held) (omega arith)) (λ p q e. same_runs on f p q n m (omega (arith, e)) k)

pub whole_runs : (f : ℕ → ℕ) (n : ℕ) → runs_of (λ k. get_or (replicate n true) k false) f n ≡ runs_of everywhere f n
whole_runs f n = same_runs (λ k. get_or (replicate n true) k false) f 0 0 n n (omega arith) (λ k h. true_below n k h)
