use Rattle.std.proofs.Common.{◌≡◌, ◌∙◌, ap, sym, arith}
use Rattle.esa_model.specs.declared.decimals.Edited.{Edited}
use Rattle.esa_model.specs.Edit.{SameUpTo, state, answer}
use Rattle.decimal_instr.proofs.Used.{state_same, pattern_same, answer_used}
use Rattle.decimal_instr.proofs.patterns.edit.Goals as goal

pub returns-clause-used : goal.returns-clause-used
returns-clause-used c other same =
    let s = c.args.source.now in
    let p = c.args.pattern.now in
    let edited = c.edit_all.ensures in
    let u : c.edit_all.result.used ≡ (state s p).used =
    ap (λ (y : Edited). y.used) edited.answer ∙ answer_used (state s p) in
    let near : SameUpTo (state s p).used s other = λ k lt. same k (omega arith) in (
      ap answer (state_same p s other near) ∙ sym edited.answer,
      pattern_same p s other near ∙ sym edited.pattern,
    )
