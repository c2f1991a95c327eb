use Rattle.std.proofs.Common.{◌≡◌, ap, ◌∙◌}
use Rattle.asm_model.specs.Pieces.{plain}
use Rattle.asm_words.proofs.Forms.{signed_minus, signed_other}
use Rattle.asm_words.proofs.operands.signed.Goals as goal

pub returns-then-starts_with : goal.returns-then-starts_with
returns-then-starts_with c =
    signed_minus c.args.w.now c.split_at.result.1.now c.negative.result (cc)
    c.split_at.ensures.back c.negative.ensures

pub returns : goal.returns
returns c =
    signed_other c.args.w.now c.plain.result (cc)
    (c.plain.ensures ∙ ap plain c.number_of.ensures.value)
