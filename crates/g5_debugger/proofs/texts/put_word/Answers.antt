use Rattle.std.proofs.Common.{arith, ap, length, length-append, codes}
use Rattle.g5_debugger.proofs.Words.{length_word}
use Rattle.g5_debugger.proofs.texts.put_word.Goals as goal

pub returns-clause-room : goal.returns-clause-room
returns-clause-room c =
    let blank = ap length c.put_text.ensures in
    let first = length-append c.args.out.now.items (codes " ") in
    let word = ap length c.put_text-2.ensures in
    let second = length-append c.put_text.new.out.items c.deref.result.now in
    let is = ap length c.deref.ensures.0 in
    let digits = ap length c.hex8.ensures in
    let eight = length_word c.args.word in
    omega (arith, blank, first, word, second, is, digits, eight)
