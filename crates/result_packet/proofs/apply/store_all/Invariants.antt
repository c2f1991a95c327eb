use Rattle.std.proofs.Common.{◌≡◌, length, drop}
use Rattle.esa_model.specs.Apply.{stored_all}
use Rattle.result_packet.specs.Pieces.{Holdable}
use Rattle.result_packet.proofs.apply.store_all.Given as goal

abbrev pub invariant-loop-p : goal.invariant-loop-p
invariant-loop-p l = record {
  size : length l.storage ≡ length l.fn.storage;
  rest : Holdable (length l.fn.storage) (drop l.p-index l.pieces);
  storage : stored_all l.pieces l.fn.storage ≡ stored_all (drop l.p-index l.pieces) l.storage;
}
