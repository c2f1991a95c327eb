use Rattle.std.proofs.Common.{sym, ◌∙◌}
use Rattle.asm_words.proofs.Words.{decimal_some, decimal_none}
use Rattle.asm_words.proofs.numbers.capped_decimal.Goals as goal

pub returns-in-Some : goal.returns-in-Some
returns-in-Some c =
    decimal_some c.args.w.now c.in-Some.n c.requires (sym c.in-Some.ensures.value)

pub returns-in-None : goal.returns-in-None
returns-in-None c = decimal_none c.args.w.now c.requires (sym c.in-None.ensures.value)
