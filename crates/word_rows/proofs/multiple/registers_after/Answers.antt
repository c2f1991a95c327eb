use Rattle.std.proofs.Common.{arith}
use Rattle.std.proofs.lemmas.List.FromFn.{fill_by_all}
use Rattle.esa_model.specs.Rows.Stores.{loaded, registers_loaded}
use Rattle.word_rows.proofs.multiple.registers_after.Goals as goal

pub returns-clause-words : goal.returns-clause-words
unfolding registers_loaded
returns-clause-words g c =
    fill_by_all (loaded c.args.r.now (g.V.View.bytes c.args.view.now) c.args.d.now) c.loop-n.out 16
    0 c.loop-n.invariant.len
    (λ k h. c.loop-n.invariant.filled k (omega arith))
