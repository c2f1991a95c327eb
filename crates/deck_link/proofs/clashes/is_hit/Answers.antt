use Rattle.std.proofs.Common.{◌≡◌, ℕ, ◌+◌, ◌-◌, get_or, sym, ◌∙◌, ap, arith}
use Rattle.deck_link.specs.Marks.{is_other}
use Rattle.deck_link.proofs.Marks.{hits_step, hits_here}
use Rattle.deck_link.proofs.clashes.is_hit.Goals as goal

pub loop-i-preserved : goal.loop-i-preserved
loop-i-preserved c =
    let f : ℕ → ℕ = λ k. get_or c.args.marks.now k 0 in
    let i : ℕ = c.loop-i.i in
    let w : ℕ = c.args.width in
    let n : w - i ≡ w - (i + 1) + 1 = omega arith in
    let e = ap (λ k. is_other w i (f (c.args.at + k))) (sym c.from.ensures) ∙ (sym c.is_other_mark.ensures ∙ c.if-is_other_mark.false) in
    sym (hits_step f c.args.at w i (w - i) (w - (i + 1)) n e) ∙ c.loop-i.invariant

pub returns-then-is_other_mark : goal.returns-then-is_other_mark
returns-then-is_other_mark c =
    let f : ℕ → ℕ = λ k. get_or c.args.marks.now k 0 in
    let i : ℕ = c.loop-i.i in
    let w : ℕ = c.args.width in
    let n : w - i ≡ w - (i + 1) + 1 = omega arith in
    let e = ap (λ k. is_other w i (f (c.args.at + k))) (sym c.from.ensures) ∙ (sym c.is_other_mark.ensures ∙ c.if-is_other_mark.true) in
    sym (hits_here f c.args.at w i (w - i) (w - (i + 1)) n e) ∙ c.loop-i.invariant
