use Rattle.std.proofs.Common.{◌++◌, ap, arith}
use Rattle.run_model.specs.Script.{lines}
use Rattle.asm_model.specs.Line.{sources_from, sources as sources_of}
use Rattle.asm_lines.proofs.sources.sources.Goals as goal

pub loop-line-init : goal.loop-line-init
unfolding sources_of
loop-line-init c = record {
  so = ap (λ xs. xs ++ sources_from 1 (lines c.args.text.now)) c.new-sources.ensures.items;
  numbered = omega arith;
}
