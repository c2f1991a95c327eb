use Rattle.std.proofs.Common.{◌≡◌, length, drop, take}
use Rattle.result_packet.specs.Pieces.{Holdable}
use Rattle.core_states.proofs.holding.hold_all.Given as goal

abbrev pub invariant-loop-piece : goal.invariant-loop-piece
invariant-loop-piece g l = record {
  same : g.V.View.bytes l.view ≡ g.V.View.bytes l.fn.view;
  rest : Holdable (length (g.V.View.bytes l.fn.view)) (drop l.piece-index l.pieces);
  held : g.V.Holder.held l.view ≡ take l.piece-index l.pieces;
}
