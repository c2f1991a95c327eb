use Rattle.std.proofs.Common.{◌≡◌, ◌++◌, drop}
use Rattle.run_model.specs.Trace.{changes_text}
use Rattle.trace_text.specs.Spelling.{spelled}
use Rattle.trace_text.proofs.changes.put_changes.Given as goal

abbrev pub invariant-loop-c : goal.invariant-loop-c
invariant-loop-c l =
    l.out.items ++ spelled l.next (drop l.c-index l.changed)
    ≡ l.fn.out.items ++ changes_text l.changed
