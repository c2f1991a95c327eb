use Rattle.std.proofs.Common.{◌≡◌, ◌≤◌, ◌+◌, ◌++◌, length}
use Rattle.run_model.specs.Script.{lines}
use Rattle.asm_model.specs.Line.{sources_from, sources as sources_of}
use Rattle.asm_lines.proofs.sources.sources.Given as goal

abbrev pub invariant-loop-line : goal.invariant-loop-line
invariant-loop-line l = record {
  so : l.sources.items ++ sources_from (l.number + 1) (lines l.rest) ≡ sources_of l.text;
  numbered : l.number + length l.rest ≤ length l.text;
}

abbrev pub decreases-loop-line : goal.decreases-loop-line
decreases-loop-line l = length l.rest
