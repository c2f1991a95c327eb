-- The TXT cards that are still to be put.
use Rattle.std.proofs.Common.{◌≡◌, ℕ, suc, ◌+◌, ◌-◌, ◌*◌, ◌<◌, List, [], ◌∷◌, ◌++◌, length, take, drop, sym, ◌∙◌, ap, arith, append_assoc, append-nil, length-drop, None}
use Rattle.std.proofs.lemmas.List.Concat.{flat_map-append}
use Rattle.deck_model.specs.Card.{esd, txt, rld}
use Rattle.deck_model.specs.CardWriting.{card_bytes}
use Rattle.deck_model.specs.declared.cards.Card.{Card}
use Rattle.deck_model.specs.declared.cards.Card.TheVariants.{End}
use Rattle.program_model.specs.GeneratedDeck.{section, restart_address, text_cards, text, cards, deck}
use Rattle.deck_gen.specs.Parts.{blank_sequence, bytes_of_cards}

abbrev here : ℕ → List ℕ → List ℕ
here at text = card_bytes (txt 1 at text) blank_sequence

first_card :
    (n m at : ℕ) (rest : List ℕ) → n ≡ suc m
    → bytes_of_cards (text_cards n at rest)
    ≡ here at (take 56 rest) ++ bytes_of_cards (text_cards m (at + 56) (drop 56 rest))
first_card n m at rest e = ap (λ k. bytes_of_cards (text_cards k at rest)) e

-- so many cards were put, and the rest of the text is left
pub record CardsPut (count i : ℕ) (rest text out out0 : List ℕ) : Type 0 where
  pub long : length rest + 56 * i ≡ 56 * count
  pub cards : out ++ bytes_of_cards (text_cards (count - i) (56 * i) rest)
      ≡ out0 ++ bytes_of_cards (text_cards count 0 text)

pub none_put :
    (count : ℕ) (text out : List ℕ) → length text ≡ 56 * count
    → CardsPut count 0 text text out out
none_put count text out h =
    let e : count - 0 ≡ count = omega arith in
    record {
      long = omega arith;
      cards = ap (λ k. out ++ bytes_of_cards (text_cards k 0 text)) e;
    }

pub one_put :
    (count i : ℕ) (rest after text out out0 more : List ℕ) → CardsPut count i rest text out out0
    → i < count → more ≡ out ++ here (56 * i) (take 56 rest) → after ≡ drop 56 rest
    → CardsPut count (i + 1) after text more out0
one_put count i rest after text out out0 more h lt e s =
    let n : count - i ≡ suc (count - (i + 1)) = omega arith in
    let at : 56 * (i + 1) ≡ 56 * i + 56 = omega arith in
    let k = count - (i + 1) in
    let l : length after ≡ length rest - 56 = ap length s ∙ length-drop 56 rest in
    let card = here (56 * i) (take 56 rest) in
    record {
      long = omega (arith, l, h.long);
      cards =
          ap (λ xs. xs ++ bytes_of_cards (text_cards k (56 * (i + 1)) after)) e
          ∙ append_assoc out card (bytes_of_cards (text_cards k (56 * (i + 1)) after))
          ∙ ap (λ a. out ++ (card ++ bytes_of_cards (text_cards k a after))) at
          ∙ ap (λ xs. out ++ (card ++ bytes_of_cards (text_cards k (56 * i + 56) xs))) s
          ∙ ap (λ xs. out ++ xs) (sym (first_card (count - i) k (56 * i) rest n))
          ∙ h.cards;
    }

-- ---- the whole deck

abbrev one : Card → List ℕ
one c = card_bytes c blank_sequence

whole :
    (x : ℕ)
    → ((one (esd 1 (section ∷ [])) ++ bytes_of_cards (text_cards 11 0 (text x)))
    ++ one (rld (restart_address ∷ []))) ++ one (End None)
    ≡ deck x
unfolding deck cards
whole x =
    let texts = text_cards 11 0 (text x) in
    let first = esd 1 (section ∷ []) in
    let last = rld (restart_address ∷ []) ∷ End None ∷ [] in
    append_assoc (one first ++ bytes_of_cards texts) (one (rld (restart_address ∷ []))) (one (End None))
    ∙ ap (λ xs. (one first ++ bytes_of_cards texts) ++ (one (rld (restart_address ∷ [])) ++ xs))
    (sym (append-nil (one (End None))))
    ∙ sym (flat_map-append one (first ∷ texts) last)

pub deck_put :
    (x : ℕ) (a b d e t : List ℕ) (first last : Card) → a ≡ one first
    → b ≡ a ++ bytes_of_cards (text_cards 11 0 t) → d ≡ b ++ one last → e ≡ d ++ one (End None)
    → t ≡ text x → first ≡ esd 1 (section ∷ []) → last ≡ rld (restart_address ∷ []) → e ≡ deck x
deck_put x a b d e t first last p q r s u v w =
    let texts = bytes_of_cards (text_cards 11 0 t) in
    s
    ∙ ap (λ xs. xs ++ one (End None))
    (r ∙ ap (λ xs. xs ++ one last) (q ∙ ap (λ xs. xs ++ texts) (p ∙ ap one v)))
    ∙ ap (λ y. ((one (esd 1 (section ∷ [])) ++ bytes_of_cards (text_cards 11 0 y)) ++ one last)
    ++ one (End None)) u
    ∙ ap (λ y. ((one (esd 1 (section ∷ [])) ++ bytes_of_cards (text_cards 11 0 (text x))) ++ one y)
    ++ one (End None)) w
    ∙ whole x
