use Rattle.run_loop.proofs.Ends.{sound_pieces}
use Rattle.run_loop.proofs.laws.pieces_of_sound_turns.Goals as goal

pub returns : goal.returns
returns g c = λ y z v w files start ks a b o p r x m h sound.
    sound_pieces files start ks (g.E.Engine.seen c.args.old.now y v) (g.E.Engine.seen c.args.new.now z w) a b o p r x m h sound
