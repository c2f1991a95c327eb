use Rattle.std.proofs.Common.{arith}
use Rattle.result_packet.proofs.Noted.{piece_in, piece_out}
use Rattle.result_packet.proofs.notes.note_piece.Goals as goal

pub returns-then-a-xs-clause-log : goal.returns-then-a-xs-clause-log
returns-then-a-xs-clause-log g c = λ s h.
    piece_in (g.V.View.bytes c.args.view.now) s c.args.xs.now c.args.a c.args.log.now c.note_all.new.log (omega arith) h (c.note_all.ensures.log s h)

pub returns-else-a-xs-clause-log : goal.returns-else-a-xs-clause-log
returns-else-a-xs-clause-log g c = λ s h.
    piece_out (g.V.View.bytes c.args.view.now) s c.args.xs.now c.args.a c.args.log.now (omega arith) h
