use Rattle.std.proofs.Common.{arith, ap, length, length-append}
use Rattle.std.proofs.lemmas.Fmt.{length-decimal-le}
use Rattle.service_log.proofs.writing.put_byte.Goals as goal

pub put-requires : goal.put-requires
put-requires c =
    let n = c.from.ensures in
    let few = length-decimal-le 3 c.from.result (omega arith) (omega arith) (omega arith) in
    let text = ap length c.decimal.ensures in
    let lent = ap length c.deref.ensures.0 in
    omega arith

pub returns-clause-room : goal.returns-clause-room
returns-clause-room c =
    let n = c.from.ensures in
    let few = length-decimal-le 3 c.from.result (omega arith) (omega arith) (omega arith) in
    let text = ap length c.decimal.ensures in
    let lent = ap length c.deref.ensures.0 in
    let more = ap length c.put.ensures in
    let sum = length-append c.args.out.now.items c.deref.result.now in
    omega arith
