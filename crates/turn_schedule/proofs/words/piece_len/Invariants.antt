use Rattle.std.proofs.Common.{◌≡◌, take}
use Rattle.std.specs.List.{position_or_len}
use Rattle.run_model.specs.Schedule.{is_separator}
use Rattle.turn_schedule.proofs.words.piece_len.Given as goal

abbrev pub invariant-loop-i : goal.invariant-loop-i
invariant-loop-i l = position_or_len is_separator (take l.i l.text) ≡ l.i
