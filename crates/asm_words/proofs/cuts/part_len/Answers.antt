use Rattle.std.proofs.Common.{arith, sym}
use Rattle.std.proofs.lemmas.Bool.Decides.{nat_tests}
use Rattle.asm_words.specs.Cuts.{is_byte}
use Rattle.asm_words.proofs.Parting.{first_at}
use Rattle.asm_words.proofs.cuts.part_len.Goals as goal

pub returns-then-b-mark-clause-value : goal.returns-then-b-mark-clause-value
returns-then-b-mark-clause-value c =
    let e = c.if-b-mark.true in
    sym (first_at (is_byte c.args.mark) c.args.text.now c.loop-i.i (omega arith) c.loop-i.invariant (grind (arith, nat_tests)))
