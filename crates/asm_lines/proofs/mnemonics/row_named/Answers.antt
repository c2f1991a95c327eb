use Rattle.std.proofs.Common.{arith, sym, ◌∙◌}
use Rattle.asm_lines.proofs.Rows.{first_named, none_named}
use Rattle.asm_lines.proofs.mnemonics.row_named.Goals as goal

pub returns-then-has_name : goal.returns-then-has_name
returns-then-has_name c =
    sym (first_named c.args.name c.loop-number.number (omega arith) c.loop-number.invariant
    (sym c.has_name.ensures ∙ c.if-has_name.true))

pub returns : goal.returns
returns c =
    sym (none_named c.args.name c.loop-number.number (omega arith) c.loop-number.invariant)
