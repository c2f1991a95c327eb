use Rattle.std.proofs.Common.{arith, ◌∙◌, ap, min, ◌+◌, ◌*◌, get_or, ◌-◌}
use Rattle.esa_words.proofs.Digits.{clipped_more}
use Rattle.esa_words.proofs.decimals.clipped_value.Goals as goal

pub loop-b-preserved : goal.loop-b-preserved
loop-b-preserved c =
    let t = c.args.digits.now in
    let i = c.loop-b.b-index in
    let v = c.loop-b.value in
    let more = clipped_more t i v c.args.most (omega arith) c.requires c.loop-b.invariant in
    c.min-value.ensures
    ∙ ap (λ x. min (v * 10 + x) (c.from-in-loop-b.result + 1)) c.from.ensures
    ∙ ap (λ m. min (v * 10 + (get_or t i 0 - 48)) (m + 1)) c.from-in-loop-b.ensures
    ∙ more
