use Rattle.std.proofs.Common.{◌≡◌, ◌≤◌, ◌+◌, length}
use Rattle.run_model.specs.Migrate.{lines_from}
use Rattle.run_model.specs.Script.{lines}
use Rattle.service_log.proofs.migrating.with_lines.Given as goal

abbrev pub invariant-loop-line : goal.invariant-loop-line
invariant-loop-line l = record {
  so : lines_from l.fed (l.number + 1) l.text.items (lines l.rest)
      ≡ lines_from l.fed 2 l.fn.text.items (lines l.from);
  numbered : l.number + length l.rest ≤ length l.from + 1;
}

abbrev pub decreases-loop-line : goal.decreases-loop-line
decreases-loop-line l = length l.rest
