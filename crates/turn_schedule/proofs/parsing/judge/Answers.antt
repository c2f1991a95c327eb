use Rattle.std.proofs.Common.{◌∙◌, ap}
use Rattle.run_model.specs.Schedule.{run_of, judged}
use Rattle.turn_schedule.proofs.Counts.{judged_clipped}
use Rattle.turn_schedule.proofs.parsing.judge.Goals as goal

pub returns-clause-value : goal.returns-clause-value
returns-clause-value c =
    c.judge_run.ensures.value
    ∙ ap (judged c.args.cpus c.args.number c.args.so_far) c.word_of.ensures.value
    ∙ judged_clipped c.args.cpus c.args.number c.args.so_far (run_of c.args.word.now)
