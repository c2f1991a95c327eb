use Rattle.std.proofs.Common.{arith, ◌∙◌, ap, take, drop}
use Rattle.fault_script.proofs.Cuts.{lines_none, lines_last, lines_next}
use Rattle.fault_script.proofs.parsing.next_line.Goals as goal

pub returns-then-text-eq0-clause-none : goal.returns-then-text-eq0-clause-none
returns-then-text-eq0-clause-none c = lines_none c.args.text.now c.if-text-eq0.true

pub returns-then-tail-eq0-clause-some : goal.returns-then-tail-eq0-clause-some
returns-then-tail-eq0-clause-some c =
    let t = c.args.text.now in
    let s = c.split_at.ensures in
    let e = c.line_len.ensures.value in
    (lines_last t c.split_at.result.0.now c.split_at.result.1.now (omega arith) (s.front ∙ ap (λ k. take k t) e) (s.back ∙ ap (λ k. drop k t) e) (omega arith) (omega (arith, c.line_len.ensures.within)), omega arith)

pub returns-clause-some : goal.returns-clause-some
returns-clause-some c =
    let t = c.args.text.now in
    let s = c.split_at.ensures in
    let two = c.split_at-2.ensures in
    let e = c.line_len.ensures.value in
    (lines_next t c.split_at.result.0.now c.split_at.result.1.now c.split_at-2.result.1.now (s.front ∙ ap (λ k. take k t) e) (s.back ∙ ap (λ k. drop k t) e) (omega arith) two.back, omega arith)
