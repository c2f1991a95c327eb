use Rattle.std.proofs.Common.{◌+◌, ◌*◌, min, arith, ap, ◌∙◌}
use Rattle.asm_words.proofs.Words.{hex_digit_at, capped_more}
use Rattle.asm_words.proofs.numbers.capped_hex.Goals as goal

pub hex_value-requires : goal.hex_value-requires
hex_value-requires c =
    hex_digit_at c.args.digits.now c.loop-b.b-index (omega arith) c.requires

pub loop-b-preserved : goal.loop-b-preserved
loop-b-preserved c =
    let v = c.loop-b.value in
    c.min-value.ensures
    ∙ (ap (λ x. min (v * 16 + x) 4294967296) (c.from.ensures ∙ c.hex_value.ensures.value)
    ∙ capped_more c.args.digits.now c.loop-b.b-index v (omega arith) c.loop-b.invariant)
