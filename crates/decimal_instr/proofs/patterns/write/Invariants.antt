use Rattle.std.proofs.Common.{◌≡◌, ◌≤◌, ◌++◌, take, drop}
use Rattle.esa_model.specs.Edit.{start, replaced}
use Rattle.decimal_instr.proofs.patterns.write.Given as goal

abbrev pub invariant-loop-i : goal.invariant-loop-i
invariant-loop-i l = record {
  all : take l.i l.pattern ++ replaced l.source l.fill l.e (drop l.i l.pattern)
      ≡ replaced l.source l.fill start l.fn.pattern;
  used : l.e.used ≤ l.i;
  at : l.e.at ≤ l.i;
}
