use Rattle.std.proofs.Common.{◌+◌, arith}
use Rattle.log_audit.proofs.Cutting.{not_last}
use Rattle.log_audit.proofs.form.last_tail.Goals as goal

pub returns-then-after-gt0 : goal.returns-then-after-gt0
returns-then-after-gt0 c =
    not_last (c.args.number + 1) c.args.rest.now c.in-Some.line.now c.in-Some.after.now
    c.in-Some.ensures.some (omega arith) c.requires.no_entry
