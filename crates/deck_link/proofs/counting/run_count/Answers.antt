use Rattle.std.proofs.Common.{◌≡◌, ℕ, suc, ◌+◌, ◌-◌, Bool, false, get_or, length, ◌∙◌, ap, arith}
use Rattle.deck_cards.specs.TextCards.{runs}
use Rattle.deck_link.proofs.Counts.{last_runs}
use Rattle.deck_link.proofs.counting.run_count.Goals as goal

pub loop-i-preserved : goal.loop-i-preserved
loop-i-preserved c =
    let l = c.loop-i in
    let on : ℕ → Bool = λ k. get_or c.args.stands.now k false in
    let n : ℕ = length c.args.stands.now in
    let h : ℕ = l.counted.held in
    let new = c.next-counted.result in
    let x = l.invariant.held in
    let y = l.invariant.low in
    let z = c.next-counted.ensures.low in
    let w = c.next-counted.ensures.long in
    let s : suc (n - (l.i + 1)) ≡ n - l.i = omega arith in
    let a : l.i - h + h ≡ l.i = omega (arith, x) in
    let b : l.i + 1 - new.held ≡ l.i - h + h + 1 - new.held = omega (arith, a) in
    record {
      so = λ f.
          ap (λ k. new.closed + length (runs on f k new.held (n - (l.i + 1)))) b
          ∙ (c.next-counted.ensures.runs on f (l.i - h) (n - (l.i + 1)) (ap on a)
          ∙ (ap (λ m. l.counted.closed + length (runs on f (l.i - h) h m)) s ∙ l.invariant.so f));
      few = c.next-counted.ensures.few;
      held = omega (arith, w, x);
      low = omega (arith, z, y);
    }

pub returns-clause-runs : goal.returns-clause-runs
returns-clause-runs c =
    let l = c.loop-i in
    let on : ℕ → Bool = λ k. get_or c.args.stands.now k false in
    let n : ℕ = length c.args.stands.now in
    let h : ℕ = l.counted.held in
    let z : n - l.i ≡ 0 = omega arith in
    λ f. c.closed.ensures.value ∙ (last_runs on f (l.i - h) h (n - l.i) l.counted.closed z ∙ l.invariant.so f)
