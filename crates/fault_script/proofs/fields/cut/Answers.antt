use Rattle.std.proofs.Common.{arith, ◌∙◌, ap, take, drop}
use Rattle.fault_script.proofs.Cuts.{last_field, next_field, some_field}
use Rattle.fault_script.proofs.fields.cut.Goals as goal

pub returns-then-tail-eq0-clause-parts : goal.returns-then-tail-eq0-clause-parts
returns-then-tail-eq0-clause-parts c =
    let t = c.args.text.now in
    let s = c.split_at.ensures in
    let e = c.piece_len.ensures.value in
    last_field t c.split_at.result.0.now c.split_at.result.1.now (s.front ∙ ap (λ k. take k t) e) (s.back ∙ ap (λ k. drop k t) e) (omega arith) (omega (arith, c.piece_len.ensures.within))

pub returns-clause-parts : goal.returns-clause-parts
returns-clause-parts c =
    let t = c.args.text.now in
    let s = c.split_at.ensures in
    let two = c.split_at-2.ensures in
    let e = c.piece_len.ensures.value in
    next_field t c.split_at.result.0.now c.split_at.result.1.now c.split_at-2.result.1.now (s.front ∙ ap (λ k. take k t) e) (s.back ∙ ap (λ k. drop k t) e) (omega arith) two.back

pub returns-clause-more : goal.returns-clause-more
returns-clause-more c = some_field c.split_at-2.result.1.now
