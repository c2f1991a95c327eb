use Rattle.std.proofs.Common.{◌≡◌, take}
use Rattle.std.specs.List.{position_or_len}
use Rattle.run_model.specs.Script.{is_line_feed}
use Rattle.fault_script.proofs.parsing.line_len.Given as goal

abbrev pub invariant-loop-i : goal.invariant-loop-i
invariant-loop-i l = position_or_len is_line_feed (take l.i l.text) ≡ l.i
