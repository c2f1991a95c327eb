use Rattle.std.proofs.Common.{◌<◌, ◌≤◌, length, subst, sym, arith}
use Rattle.esa_model.specs.declared.decimals.Edited.{Edited}
use Rattle.esa_model.specs.Edit.{state}
use Rattle.byte_rows.proofs.Used.{used_short, answer_code}
use Rattle.byte_rows.proofs.edits.edited.Goals as goal

pub returns-clause-code : goal.returns-clause-code
returns-clause-code c =
    subst (λ (d : Edited). d.cc < 5) (sym c.edit.ensures.answer)
    (answer_code (state c.args.source.now c.args.pattern.now))

pub returns-clause-used : goal.returns-clause-used
returns-clause-used c =
    subst (λ (d : Edited). d.used ≤ length c.args.pattern.now) (sym c.edit.ensures.answer)
    (used_short c.args.source.now c.args.pattern.now)

pub returns-clause-alike : goal.returns-clause-alike
returns-clause-alike c other same =
    let short : c.edit.result.used ≤ length c.args.pattern.now =
    subst (λ (d : Edited). d.used ≤ length c.args.pattern.now) (sym c.edit.ensures.answer)
    (used_short c.args.source.now c.args.pattern.now) in
    c.edit.ensures.used other (λ k lt. same k (omega (arith, lt, short)))
