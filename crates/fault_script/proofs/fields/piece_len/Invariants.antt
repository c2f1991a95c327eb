use Rattle.std.proofs.Common.{◌≡◌, take}
use Rattle.std.specs.List.{position_or_len}
use Rattle.run_model.specs.Script.{is_blank}
use Rattle.fault_script.proofs.fields.piece_len.Given as goal

abbrev pub invariant-loop-i : goal.invariant-loop-i
invariant-loop-i l = position_or_len is_blank (take l.i l.text) ≡ l.i
