use Rattle.std.proofs.Common.{arith, length, ap}
use Rattle.std.proofs.lemmas.Fmt.{length-decimal-le}
use Rattle.esa_words.proofs.decimals.decimal.Goals as goal

pub push_decimal-requires : goal.push_decimal-requires
push_decimal-requires c =
    let l = length-decimal-le 20 c.args.n (omega arith) (omega arith) (omega arith) in
    let e = ap length c.new-out.ensures in
    omega arith
