use Rattle.std.proofs.Common.{arith}
use Rattle.decimal_digits.proofs.Scales.{tens_pos, tens_le}
use Rattle.decimal_digits.proofs.shifts.ten_to.Goals as goal

pub pow-requires : goal.pow-requires
pow-requires c = let l = tens_le c.args.k 32 (omega arith) in omega arith

pub returns-clause-positive : goal.returns-clause-positive
returns-clause-positive c = let p = tens_pos c.args.k in omega arith
