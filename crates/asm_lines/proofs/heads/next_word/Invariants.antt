use Rattle.std.proofs.Common.{◌≡◌}
use Rattle.asm_lines.specs.Reading.{rest_length, words_behind}
use Rattle.asm_lines.proofs.heads.next_word.Given as goal

abbrev pub invariant-loop-left : goal.invariant-loop-left
invariant-loop-left l = words_behind l.left ≡ words_behind l.fn.rest

abbrev pub decreases-loop-left : goal.decreases-loop-left
decreases-loop-left l = rest_length l.left
