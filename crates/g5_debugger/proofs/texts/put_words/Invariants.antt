use Rattle.std.specs.Prelude.{◌≡◌, ◌+◌, ◌*◌, ◌++◌, flat_map, take}
use Rattle.arrayvec.specs.ArrayVec.{array_vec_len}
use Rattle.g5_debugger.specs.Words.{after_blank}
use Rattle.g5_debugger.proofs.texts.put_words.Given as goal

abbrev pub invariant-loop-word : goal.invariant-loop-word
invariant-loop-word l =
    (l.out.items ≡ l.fn.out.items ++ flat_map after_blank (take l.word-index l.words))
    × (array_vec_len l.out ≡ array_vec_len l.fn.out + 9 * l.word-index)
