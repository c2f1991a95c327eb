-- What is written and what is lost are those of the whole number.
use Rattle.std.proofs.Common.{◌≡◌, ◌∙◌, ap, rules, Bool, length, ◌||◌}
use Rattle.decimal_instr.specs.Ends.{sum_end}
use Rattle.decimal_instr.proofs.Stored.{stored_is}
use Rattle.decimal_instr.proofs.sums.store.Goals as goal
use Rattle.decimal_instr.proofs.sums.store.Goals.{then-w, else-w}

pub returns : goal.returns
returns c =
    let w = c.args.w.now in
    let d = w.digits in
    let field = c.pack-lost.ensures.field in
    let lost = c.pack-lost.ensures.lost in
    let both : Bool = w.lost || c.pack-lost.result in
    let over : c.if-w.over ≡ (w.lost || c.pack-lost.result) =
    elim c.if-w.branch [ then-w w ↦ search rules | else-w w ↦ search rules ] in
    let end = c.end_sum.ensures
    ∙ ap (λ (x : Bool). sum_end x c.is_negative.result c.magnitude.result) over
    ∙ ap (λ (x : Bool). sum_end both x c.magnitude.result) c.is_negative.ensures
    ∙ ap (λ x. sum_end both d.negative x) c.magnitude.ensures.value in
    stored_is _ w _ (length c.args.first.now) _ c.requires.some c.requires.few field lost end
