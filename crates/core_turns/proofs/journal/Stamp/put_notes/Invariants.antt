use Rattle.std.proofs.Common.{◌≡◌, ◌+◌, length, take}
use Rattle.run_model.specs.Cores.{entries_of}
use Rattle.core_turns.specs.Journals.{Logs, noted}
use Rattle.core_turns.proofs.journal.Stamp.put_notes.Given as goal

abbrev pub invariant-loop-n : goal.invariant-loop-n
invariant-loop-n l = record {
  logs : Logs (noted l.self l.fn.entries.items) (noted l.self l.entries.items)
      (entries_of (take l.n-index l.notes));
  room : length l.entries.items ≡ length l.fn.entries.items + l.n-index;
}
