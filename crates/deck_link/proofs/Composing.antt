-- A linked deck written pass by pass.
use Rattle.std.proofs.Common.{◌≡◌, ℕ, ◌+◌, List, [], ◌∷◌, ◌++◌, sym, ◌∙◌, ap, append_assoc, append-nil}
use Rattle.deck_model.specs.CardWriting.{card_bytes}
use Rattle.deck_model.specs.declared.cards.Card.{Card}
use Rattle.deck_cards.specs.NumberedCards.{sequence, deck_bytes}

-- one card more
pub one_card : (c : Card) (number next : ℕ) (old new : List ℕ) (more : List Card) → next ≡ number + 1 → new ≡ old ++ card_bytes c (sequence number) → new ++ deck_bytes next more ≡ old ++ deck_bytes number (c ∷ more)
one_card c number next old new more n e =
    ap (λ k. new ++ deck_bytes k more) n
    ∙ (ap (λ xs. xs ++ deck_bytes (number + 1) more) e
    ∙ append_assoc old (card_bytes c (sequence number)) (deck_bytes (number + 1) more))

last_alone : (c : Card) (number : ℕ) (old new : List ℕ) → new ≡ old ++ card_bytes c (sequence number) → new ≡ old ++ deck_bytes number (c ∷ [])
last_alone c number old new e = e ∙ ap (λ xs. old ++ xs) (sym (append-nil (card_bytes c (sequence number))))

-- the first card, two lists of cards, chunks and the last card
pub composed : (first last : Card) (cs ds : List Card) (chunks : List Card → List Card) (x y z w v : List ℕ) (n m k : ℕ)
    → x ≡ [] ++ card_bytes first (sequence 1)
    → ((rest : List Card) → y ++ deck_bytes n rest ≡ x ++ deck_bytes 2 (cs ++ rest))
    → ((rest : List Card) → z ++ deck_bytes m rest ≡ y ++ deck_bytes n (ds ++ rest))
    → ((rest : List Card) → w ++ deck_bytes k rest ≡ z ++ deck_bytes m (chunks rest))
    → v ≡ w ++ card_bytes last (sequence k)
    → v ≡ deck_bytes 1 (first ∷ (cs ++ (ds ++ chunks (last ∷ []))))
composed first last cs ds chunks x y z w v n m k a b c d e =
    let end : List Card = last ∷ [] in
    last_alone last k w v e ∙ (d end ∙ (c (chunks end) ∙ (b (ds ++ chunks end) ∙ ap (λ xs. xs ++ deck_bytes 2 (cs ++ (ds ++ chunks end))) a)))
