-- The cards of a linked deck counted.
use Rattle.std.proofs.Common.{◌≡◌, ℕ, zero, suc, ◌+◌, ◌/◌, ◌<◌, ◌≤◌, Bool, true, false, eqb, List, [], ◌∷◌, ◌++◌, length, map, refl, ap, arith, length-append}
use Rattle.std.proofs.lemmas.Bool.Decides.{nat_tests}
use Rattle.std.proofs.lemmas.List.{length-map}
use Rattle.deck_model.specs.Card.{esd}
use Rattle.deck_model.specs.declared.cards.Card.{Card}
use Rattle.deck_model.specs.declared.cards.EsdItem.{EsdItem}
use Rattle.deck_model.specs.declared.cards.RldItem.{RldItem}
use Rattle.deck_cards.specs.TextCards.{Run, closed, runs, text_cards}
use Rattle.deck_cards.specs.RelocationCards.{rld_closed, next_item, rld_cards}
use Rattle.deck_cards.proofs.TextSteps.{runs_end}
use Rattle.link_model.specs.Linked.{one_section, label_card, end_card}
use Rattle.deck_link.specs.Parts.{one_if}

-- ---- runs

closed_count : (f : ℕ → ℕ) (at held : ℕ) (more : List Run) → length (closed f at held more) ≡ one_if held + length more
closed_count f at zero more = omega arith
closed_count f at (suc m) more = omega arith

pub last_runs : (on : ℕ → Bool) (f : ℕ → ℕ) (at held n c : ℕ) → n ≡ 0 → c + one_if held ≡ c + length (runs on f at held n)
last_runs on f at held n c e =
    let r : length (closed f at held []) ≡ one_if held + 0 = closed_count f at held [] in
    let whole : length (closed f at held []) ≡ length (runs on f at held n) = ap length (runs_end on f at held n e) in
    omega (arith, r, whole)

-- ---- cards

texts_count : (id : ℕ) (rs : List Run) → length (text_cards id rs) ≡ length rs
texts_count id [] = refl
texts_count id (r ∷ rs) = ap suc (texts_count id rs)

closed_chunk : (held : List RldItem) (more : List Card) → length held ≤ 13 → length (rld_closed held more) ≡ (length held + 12) / 13 + length more
closed_chunk [] more h = omega arith
closed_chunk (i ∷ is) more h = omega (arith, h)

chunk_case : (b : Bool) (more : List Card) (held : List RldItem) (i : RldItem) (is : List RldItem) → eqb (length held) 13 ≡ b → length held ≤ 13 → ((ks : List RldItem) → length ks ≤ 13 → length (rld_cards more ks is) ≡ (length ks + length is + 12) / 13 + length more) → length (next_item b held i (λ ks. rld_cards more ks is)) ≡ (length held + length (i ∷ is) + 12) / 13 + length more
chunk_case true more held i is e l ih =
    let a = closed_chunk held (rld_cards more (i ∷ []) is) l in
    let b = ih (i ∷ []) (omega arith) in
    let m : length held ≡ 13 = grind (arith, nat_tests) in
    omega (arith, a, b, m)
chunk_case false more held i is e l ih =
    let n = length-append held (i ∷ []) in
    let m : length held < 13 = grind (arith, nat_tests) in
    let a = ih (held ++ i ∷ []) (omega (arith, n, m)) in
    omega (arith, a, n)

chunks_count : (more : List Card) (is held : List RldItem) → length held ≤ 13 → length (rld_cards more held is) ≡ (length held + length is + 12) / 13 + length more
chunks_count more [] held l = let a = closed_chunk held more l in omega (arith, a)
chunks_count more (i ∷ is) held l = chunk_case (eqb (length held) 13) more held i is refl l (λ ks n. chunks_count more is ks n)

pub cards_count : (n e : ℕ) (labels : List EsdItem) (rs : List Run) (is : List RldItem) → length (esd 1 (one_section n ∷ []) ∷ (map label_card labels ++ (text_cards 1 rs ++ rld_cards (end_card e ∷ []) [] is))) ≡ 2 + length labels + length rs + (length is + 12) / 13
cards_count n e labels rs is =
    let a = length-append (map label_card labels) (text_cards 1 rs ++ rld_cards (end_card e ∷ []) [] is) in
    let b = length-append (text_cards 1 rs) (rld_cards (end_card e ∷ []) [] is) in
    let c : length (map label_card labels) ≡ length labels = length-map labels label_card in
    let d = texts_count 1 rs in
    let f = chunks_count (end_card e ∷ []) is [] (omega arith) in
    omega (arith, a, b, c, d, f)
