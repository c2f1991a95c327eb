use Rattle.std.proofs.Common.{◌≡◌, ◌+◌, ℕ, Bool, true, false, List, ◌∷◌, ◌++◌, length, get_or, replicate, refl, sym, ◌∙◌, ap}
use Rattle.deck_model.specs.declared.cards.Card.{Card}
use Rattle.deck_cards.specs.NumberedCards.{deck_bytes}
use Rattle.deck_cards.specs.TextCards.{Run, runs_of, text_cards}
use Rattle.asm_deck.specs.AssembledCards.{everywhere}
use Rattle.asm_deck.proofs.CardSteps.{whole_runs}
use Rattle.asm_deck.proofs.text.push_section_text.Goals as goal

pub returns-clause-cards : goal.returns-clause-cards
returns-clause-cards c =
    let n : ℕ = length c.args.bytes.now in
    let f : ℕ → ℕ = λ k. get_or c.args.bytes.now k 0 in
    let old = c.args.out.now.items in
    let cards : List Card → List Run → List ℕ = λ rest rs. old ++ deck_bytes c.args.number (text_cards c.args.id rs ++ rest) in
    let e : c.deref.result.now ≡ replicate n true = c.deref.ensures.value ∙ c.in_ok-stands.ensures.items_if_clones_equal (λ y h. h) in
    λ rest. c.in_ok-next.ensures.cards rest
    ∙ (ap (λ xs. cards rest (runs_of (λ k. get_or xs k false) f n)) e
    ∙ ap (cards rest) (whole_runs f n))
