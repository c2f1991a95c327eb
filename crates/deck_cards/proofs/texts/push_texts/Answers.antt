use Rattle.std.proofs.Common.{◌≡◌, ℕ, suc, zero, ◌+◌, ◌-◌, Bool, false, List, ◌++◌, [], length, get_or, refl, sym, ◌∙◌, ap, arith}
use Rattle.deck_model.specs.declared.cards.Card.{Card}
use Rattle.deck_cards.specs.TextCards.{runs, closed}
use Rattle.deck_cards.specs.TextCards.{text_cards}
use Rattle.deck_cards.specs.NumberedCards.{deck_bytes}
use Rattle.deck_cards.proofs.TextSteps.{runs_end}
use Rattle.deck_cards.proofs.texts.push_texts.Goals as goal

pub loop-i-preserved : goal.loop-i-preserved
loop-i-preserved c =
    let l = c.loop-i in
    let g : ℕ → Bool = λ k. get_or c.args.stands.now k false in
    let f : ℕ → ℕ = λ k. get_or c.args.bytes.now k 0 in
    let n : ℕ = length c.args.bytes.now in
    let s : suc (n - (l.i + 1)) ≡ n - l.i = omega arith in
    let e = ap g l.invariant.at in
    let a = c.in_ok-o.ensures.at in
    let b = c.in_ok-o.ensures.numbers in
    let x = l.invariant.at in
    let y = l.invariant.numbers in
    record {
      so = λ rest. c.in_ok-o.ensures.cards g (n - (l.i + 1)) rest e ∙ (ap (λ m. l.out.items ++ deck_bytes l.o.number (text_cards c.args.id (runs g f l.o.at l.o.held m) ++ rest)) s ∙ l.invariant.so rest);
      few = c.in_ok-o.ensures.few;
      at = omega (arith, a, x);
      numbers = omega (arith, b, y);
    }

pub returns-clause-cards : goal.returns-clause-cards
returns-clause-cards c =
    let l = c.loop-i in
    let g : ℕ → Bool = λ k. get_or c.args.stands.now k false in
    let f : ℕ → ℕ = λ k. get_or c.args.bytes.now k 0 in
    let n : ℕ = length c.args.bytes.now in
    let z : n - l.i ≡ 0 = omega arith in
    λ rest. c.in_ok-after.ensures.cards [] rest ∙ (ap (λ rs. l.out.items ++ deck_bytes l.o.number (text_cards c.args.id rs ++ rest)) (runs_end g f l.o.at l.o.held (n - l.i) z) ∙ l.invariant.so rest)
