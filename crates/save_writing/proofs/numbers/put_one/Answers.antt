use Rattle.std.proofs.Common.{arith, sym, ap, ◌∙◌, ◌++◌, ◌∷◌, [], ◌<◌}
use Rattle.std.proofs.Math.Nat.{mod-eq_of_lt}
use Rattle.save_writing.proofs.numbers.put_one.Goals as goal

pub returns-clause-items : goal.returns-clause-items
returns-clause-items c =
    let small : c.args.byte < 256 = omega arith in
    c.put_all.ensures.items ∙ ap (λ z. c.args.room.now.items ++ z ∷ []) (sym (mod-eq_of_lt small))
