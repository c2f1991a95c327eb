use Rattle.std.proofs.Common.{◌≡◌}
use Rattle.asm_words.proofs.Forms.{closed_yes, closed_no}
use Rattle.asm_words.proofs.operands.closed.Goals as goal

pub returns-then-not-ends_with : goal.returns-then-not-ends_with
returns-then-not-ends_with c = closed_no c.args.d.now c.args.rest.now (cc)

pub returns : goal.returns
returns c =
    closed_yes c.args.d.now c.args.rest.now c.split_at.result.0.now c.inner.result (cc)
    c.split_at.ensures.front c.inner.ensures
