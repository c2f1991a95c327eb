use Rattle.std.proofs.Common.{arith}
use Rattle.service_log.proofs.Feeds.{lines_none, last_cut, next_cut}
use Rattle.service_log.proofs.migrating.next_line.Goals as goal

pub returns-then-text-eq0-clause-none : goal.returns-then-text-eq0-clause-none
returns-then-text-eq0-clause-none c = lines_none c.args.text.now c.if-text-eq0.true

pub returns-in_default-clause-some : goal.returns-in_default-clause-some
returns-in_default-clause-some c =
    last_cut c.args.text.now c.cut.result.0.now c.cut.result.1 c.cut.ensures.parts c.in_default.is
    (omega arith)

pub returns-clause-some : goal.returns-clause-some
returns-clause-some c =
    next_cut c.args.text.now c.cut.result.0.now c.cut.result.1 c.in-Some.after
    c.cut.ensures.parts c.in-Some.is
