use Rattle.std.proofs.Common.{◌≡◌, ◌≤◌, ◌+◌, length}
use Rattle.run_model.specs.Script.{lines}
use Rattle.run_model.specs.Script.{strikes_from, script}
use Rattle.fault_script.proofs.parsing.parse.Given as goal

abbrev pub invariant-loop-line : goal.invariant-loop-line
invariant-loop-line l = record {
  so : strikes_from (l.number + 1) l.gathered (lines l.rest) ≡ script l.text;
  numbered : l.number + length l.rest ≤ length l.text;
}

abbrev pub decreases-loop-line : goal.decreases-loop-line
decreases-loop-line l = length l.rest
