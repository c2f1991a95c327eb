use Rattle.std.proofs.Common.{arith, sym, ◌∙◌}
use Rattle.log_audit.proofs.Cutting.{entry_here}
use Rattle.log_audit.proofs.lines.next_entry.Goals as goal

pub returns-in-Ok-clause-some : goal.returns-in-Ok-clause-some
returns-in-Ok-clause-some c =
    entry_here c.args.text.now c.in_ok-line.line.now c.in_ok-line.after.now c.in-Ok.entry
    c.in_ok-line.ensures.some (omega arith) (sym c.read.ensures ∙ c.in-Ok.is)
