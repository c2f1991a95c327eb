use Rattle.std.proofs.Common.{◌≡◌, ◌≤◌, ◌+◌, ℕ, List, length, drop, take}
use Rattle.esa_model.specs.Access.{written}
use Rattle.esa_model.specs.Machine.{changed}
use Rattle.result_packet.specs.Changes.{Tells}
use Rattle.result_packet.proofs.notes.note_from.Given as goal

abbrev pub invariant-loop-k : goal.invariant-loop-k
invariant-loop-k g l = record {
  same : g.V.View.bytes l.view ≡ g.V.View.bytes l.fn.view;
  keys : changed l.r (length (g.V.View.bytes l.fn.view)) l.at l.xs l.fn.keys ≡ changed l.r (length (g.V.View.bytes l.fn.view)) (l.at + l.k) (drop l.k l.xs) l.keys;
  room : length l.log ≤ length l.fn.log + l.k;
  log : (s : List ℕ) → Tells 0 (g.V.View.bytes l.fn.view) s l.fn.log → Tells 0 (g.V.View.bytes l.fn.view) (written l.r l.at (take l.k l.xs) s) l.log;
}
