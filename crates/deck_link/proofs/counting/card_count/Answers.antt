use Rattle.std.proofs.Common.{◌≡◌, ℕ, ◌+◌, ◌/◌, Bool, false, get_or, slice_index, length, ◌∙◌, ap, arith}
use Rattle.deck_cards.specs.TextCards.{runs_of}
use Rattle.deck_link.proofs.Counts.{cards_count}
use Rattle.deck_link.specs.Parts.{runs_in}
use Rattle.deck_link.proofs.counting.card_count.Goals as goal

pub returns : goal.returns
returns c =
    let p = c.args.parts.now in
    let f : ℕ → ℕ = slice_index p.storage in
    let on : ℕ → Bool = λ k. get_or p.stands.items k false in
    let r : c.run_count.result ≡ length (runs_in p) =
    c.run_count.ensures.runs f
    ∙ (ap (λ xs. length (runs_of (λ k. get_or xs k false) f (length xs))) c.deref-2.ensures.value
    ∙ ap (λ n. length (runs_of on f n)) c.requires.stands) in
    let a : c.label_cards.result ≡ length p.labels.items = c.label_cards.ensures.value ∙ ap length c.deref.ensures.value in
    let b : length c.deref-3.result.now ≡ length p.items.items = ap length c.deref-3.ensures.value in
    let d : c.relocation_cards.result ≡ (length c.deref-3.result.now + 12) / 13 = c.relocation_cards.ensures.value in
    let x = cards_count p.extent p.entry p.labels.items (runs_in p) p.items.items in
    omega (arith, r, a, b, d, x)
