use Rattle.asm_words.specs.Cuts.{IsInPiece}
use Rattle.asm_words.proofs.cuts.piece_len.Given as goal

abbrev pub invariant-loop-i : goal.invariant-loop-i
invariant-loop-i l = IsInPiece l.text l.i l.left l.right
