use Rattle.std.proofs.Common.{◌+◌, length, arith}
use Rattle.std.proofs.lemmas.List.FromFn.{fill_by_all}
use Rattle.esa_model.specs.Access.{byte, bytes}
use Rattle.operand_access.proofs.bytes.gather.Goals as goal

pub returns-clause-bytes : goal.returns-clause-bytes
unfolding bytes
returns-clause-bytes g c =
    fill_by_all (λ k. byte c.args.r.now (g.V.View.bytes c.args.view.now) (c.args.at + k)) c.loop-k.into (length c.args.into.now) 0 c.loop-k.auto.into
    (λ k h. c.loop-k.invariant.filled k (omega arith))
