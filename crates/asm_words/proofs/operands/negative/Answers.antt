use Rattle.std.proofs.Common.{◌≡◌, true, false, ap, sym, ◌∙◌}
use Rattle.run_model.specs.Numbers.{is_decimal}
use Rattle.asm_model.specs.declared.operands.Operand.TheVariants.{Negative}
use Rattle.asm_model.specs.Pieces.{negative}
use Rattle.asm_words.proofs.operands.negative.Goals as goal

pub returns-then-not-is_decimal : goal.returns-then-not-is_decimal
returns-then-not-is_decimal c =
    let h : is_decimal c.args.w.now ≡ false = cc in
    sym (ap (λ b. negative b c.args.w.now) h)

pub returns : goal.returns
returns c =
    let h : is_decimal c.args.w.now ≡ true = cc in
    ap Negative c.capped_decimal.ensures ∙ sym (ap (λ b. negative b c.args.w.now) h)
