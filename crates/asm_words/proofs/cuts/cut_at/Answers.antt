use Rattle.std.proofs.Common.{arith}
use Rattle.asm_words.specs.Cuts.{is_byte}
use Rattle.asm_words.proofs.Parting.{last_part, next_part, some_part}
use Rattle.asm_words.proofs.cuts.cut_at.Goals as goal

pub returns-then-tail-eq0-clause-parts : goal.returns-then-tail-eq0-clause-parts
returns-then-tail-eq0-clause-parts c =
    let s = c.split_at.ensures in
    last_part (is_byte c.args.mark) c.args.text.now c.split_at.result.0.now
    c.split_at.result.1.now c.part_len.result c.part_len.ensures.value c.part_len.ensures.within
    s.front s.back (omega arith)

pub returns-clause-parts : goal.returns-clause-parts
returns-clause-parts c =
    let s = c.split_at.ensures in
    let two = c.split_at-2.ensures in
    next_part (is_byte c.args.mark) c.args.text.now c.split_at.result.0.now
    c.split_at.result.1.now c.split_at-2.result.1.now c.part_len.result
    c.part_len.ensures.value s.front s.back (omega arith) two.back

pub returns-clause-more : goal.returns-clause-more
returns-clause-more c = some_part (is_byte c.args.mark) c.split_at-2.result.1.now
