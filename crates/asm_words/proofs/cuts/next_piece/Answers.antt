use Rattle.std.proofs.Common.{arith}
use Rattle.asm_words.proofs.Pieces.{last_piece, first_piece}
use Rattle.asm_words.proofs.cuts.next_piece.Goals as goal

pub returns-then-tail-eq0 : goal.returns-then-tail-eq0
returns-then-tail-eq0 c =
    let s = c.split_at.ensures in
    last_piece c.args.text.now c.split_at.result.0.now c.split_at.result.1.now c.piece_len.result
    c.piece_len.ensures.cut c.piece_len.ensures.within s.front s.back (omega arith)

pub returns : goal.returns
returns c =
    let s = c.split_at.ensures in
    let two = c.split_at-2.ensures in
    first_piece c.args.text.now c.split_at.result.0.now c.split_at.result.1.now
    c.split_at-2.result.1.now c.piece_len.result c.piece_len.ensures.cut s.front s.back (omega arith)
    two.back
