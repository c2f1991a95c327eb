use Rattle.std.proofs.Common.{◌≡◌, ◌≤◌, ◌+◌, ℕ, List, length, drop, take}
use Rattle.esa_model.specs.Apply.{put_all, change_all}
use Rattle.result_packet.specs.Changes.{Tells}
use Rattle.result_packet.proofs.notes.note_all.Given as goal

abbrev pub invariant-loop-k : goal.invariant-loop-k
invariant-loop-k g l = record {
  same : g.V.View.bytes l.view ≡ g.V.View.bytes l.fn.view;
  keys : change_all l.a l.xs l.fn.keys ≡ change_all (l.a + l.k) (drop l.k l.xs) l.keys;
  room : length l.log ≤ length l.fn.log + l.k;
  log : (s : List ℕ) → Tells 0 (g.V.View.bytes l.fn.view) s l.fn.log → Tells 0 (g.V.View.bytes l.fn.view) (put_all l.a (take l.k l.xs) s) l.log;
}
