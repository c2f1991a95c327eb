use Rattle.std.proofs.Common.{◌≡◌, take}
use Rattle.std.specs.List.{position_or_len}
use Rattle.asm_words.specs.Cuts.{is_byte}
use Rattle.asm_words.proofs.cuts.part_len.Given as goal

abbrev pub invariant-loop-i : goal.invariant-loop-i
invariant-loop-i l = position_or_len (is_byte l.mark) (take l.i l.text) ≡ l.i
