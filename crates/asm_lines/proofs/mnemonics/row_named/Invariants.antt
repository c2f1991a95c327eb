use Rattle.asm_lines.specs.Names.{IsNew}
use Rattle.asm_lines.proofs.mnemonics.row_named.Given as goal

abbrev pub invariant-loop-number : goal.invariant-loop-number
invariant-loop-number l = IsNew l.name l.number
