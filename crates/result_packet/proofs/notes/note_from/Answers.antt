use Rattle.std.proofs.Common.{◌∙◌, arith}
use Rattle.std.proofs.lemmas.Grind.{common_steps}
use Rattle.result_packet.proofs.Noted.{noted_written}
use Rattle.result_packet.proofs.notes.note_from.Goals as goal

pub loop-k-preserved : goal.loop-k-preserved
loop-k-preserved g c = record {
  same = c.note_byte.ensures.same ∙ c.loop-k.invariant.same;
  keys = grind (arith, common_steps);
  room = let i = c.loop-k.invariant.room in let m = c.note_byte.ensures.room in omega (arith, i, m);
  log = noted_written c.args.r.now (g.V.View.bytes c.args.view.now) (g.V.View.bytes c.loop-k.view) c.args.xs.now c.args.at c.loop-k.k c.place_of.result c.args.log.now c.loop-k.log c.note_byte.new.log
      (omega arith) c.loop-k.invariant.same c.place_of.ensures c.loop-k.invariant.log c.note_byte.ensures.log;
}
