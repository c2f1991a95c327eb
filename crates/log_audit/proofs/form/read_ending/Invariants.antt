use Rattle.std.proofs.Common.{◌≡◌, ◌≤◌, ◌+◌, length}
use Rattle.log_audit.specs.Form.{body_from, ending_of, fed_lines}
use Rattle.log_audit.proofs.form.read_ending.Given as goal

abbrev pub invariant-loop-after : goal.invariant-loop-after
invariant-loop-after l = record {
  ends :
      ending_of (body_from (l.number + 1) (fed_lines l.rest))
      ≡ ending_of (body_from 2 (fed_lines l.fn.from));
  numbered : l.number + length l.rest ≤ length l.fn.from + 1;
}

abbrev pub decreases-loop-after : goal.decreases-loop-after
decreases-loop-after l = length l.rest
