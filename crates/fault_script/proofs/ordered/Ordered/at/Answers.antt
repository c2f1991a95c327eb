use Rattle.std.proofs.Common.{rules}
use Rattle.fault_script.specs.Index.{key, IsBucket}
use Rattle.fault_script.proofs.Sums.{part_found}
use Rattle.fault_script.proofs.ordered.Ordered.at.Goals as goal

pub returns-clause-part : goal.returns-clause-part
returns-clause-part c =
    let q : IsBucket (key c.args.core.0 c.args.attempt) c.self.inside.sorted.items c.bucket.result.now = search rules in
    rw (← c.self.view_is) (part_found _ _ _ c.args.core.0 c.args.attempt c.self.invariant.index q)
