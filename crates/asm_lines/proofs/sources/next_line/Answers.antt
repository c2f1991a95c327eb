use Rattle.std.proofs.Common.{◌∷◌, ap, arith, ◌∙◌}
use Rattle.asm_words.specs.Cuts.{rest_split}
use Rattle.asm_lines.proofs.Blanks.{lines_none, lines_last, lines_next}
use Rattle.asm_lines.proofs.sources.next_line.Goals as goal

pub returns-then-text-eq0-clause-none : goal.returns-then-text-eq0-clause-none
returns-then-text-eq0-clause-none c = lines_none c.args.text.now c.if-text-eq0.true

pub returns-in-Nothing-clause-some : goal.returns-in-Nothing-clause-some
returns-in-Nothing-clause-some c =
    let line = c.cut_at.result.0.now in
    lines_last c.args.text.now line (omega arith)
    (c.cut_at.ensures.parts ∙ ap (λ r. line ∷ rest_split 10 r) c.in-Nothing.is)

pub returns-in-More-clause-some : goal.returns-in-More-clause-some
returns-in-More-clause-some c =
    let line = c.cut_at.result.0.now in
    lines_next c.args.text.now line c.in-More.after.now
    (c.cut_at.ensures.parts ∙ ap (λ r. line ∷ rest_split 10 r) c.in-More.is)
