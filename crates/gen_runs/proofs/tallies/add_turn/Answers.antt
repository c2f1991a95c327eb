use Rattle.std.proofs.Common.{ap, arith, length}
use Rattle.run_loop.specs.Engines.{told_of}
use Rattle.gen_runs.proofs.Adding.{rises_one, trace_of_turn}
use Rattle.gen_runs.proofs.tallies.add_turn.Goals as goal

pub returns-clause-trace : goal.returns-clause-trace
returns-clause-trace c =
    let same = ap length (trace_of_turn c.args.before.counts.commits (told_of c.args.turn.now)) in
    omega (arith, same, c.event_length-length.ensures.value)

pub returns-clause-rises : goal.returns-clause-rises
returns-clause-rises c =
    rises_one c.args.before _ (told_of c.args.turn.now) c.event_length-length.result
    c.count_turn.ensures.counts c.count_turn.ensures.small (omega arith)
    c.event_length-length.ensures.small
