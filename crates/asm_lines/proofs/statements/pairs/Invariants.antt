use Rattle.std.proofs.Common.{◌≡◌, ◌≤◌, ◌+◌, ◌*◌, ◌++◌, length, true}
use Rattle.std.specs.List.{list_all}
use Rattle.asm_model.specs.Words.{is_hex_byte}
use Rattle.asm_model.specs.Statement.{pairs as pairs_of}
use Rattle.asm_lines.proofs.statements.pairs.Given as goal

abbrev pub invariant-loop-rest : goal.invariant-loop-rest
invariant-loop-rest l = record {
  so : l.bytes.items ++ pairs_of l.rest ≡ pairs_of l.digits;
  room : length l.bytes.items * 2 + length l.rest ≤ 112;
  digits : list_all is_hex_byte l.rest ≡ true;
}

abbrev pub decreases-loop-rest : goal.decreases-loop-rest
decreases-loop-rest l = length l.rest
