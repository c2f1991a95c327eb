use Rattle.g5_writing.proofs.Putting.{puts_ok_as, puts_err_as}
use Rattle.run_loop.specs.Engines.{told_of}
use Rattle.run_loop.proofs.turning.make_turn.Goals as goal

pub returns-in-Err-clause-makes : goal.returns-in-Err-clause-makes
returns-in-Err-clause-makes g c = record {
  told = told_of c.turn.new.told;
  turns = c.turn.ensures.turns;
  kept = c.turn.ensures.kept;
  struck = c.turn.ensures.causes;
  obeys = c.turn.ensures.obeys;
  follows = c.turn.ensures.follows;
  written = puts_err_as c.args.files _ (g.F.Shelf.seen c.args.shelf.now) (g.F.Shelf.seen c.write_turn.new.shelf) (g.O.Sink.seen c.args.out.now) (g.O.Sink.seen c.write_turn.new.out) c.in-Err.failed c.in-Err.failed c.in-Err.ensures;
  counted = tt;
}

pub returns-in-Ok-clause-makes : goal.returns-in-Ok-clause-makes
returns-in-Ok-clause-makes g c = record {
  told = told_of c.turn.new.told;
  turns = c.turn.ensures.turns;
  kept = c.turn.ensures.kept;
  struck = c.turn.ensures.causes;
  obeys = c.turn.ensures.obeys;
  follows = c.turn.ensures.follows;
  written = puts_ok_as c.args.files _ (g.F.Shelf.seen c.args.shelf.now) (g.F.Shelf.seen c.write_turn.new.shelf) (g.O.Sink.seen c.args.out.now) (g.O.Sink.seen c.write_turn.new.out) c.in-Ok.field-0 _ c.in-Ok.ensures;
  counted = c.count_turn.ensures.counts;
}
