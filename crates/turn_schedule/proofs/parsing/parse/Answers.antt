use Rattle.std.proofs.Common.{arith, ap, length, sym}
use Rattle.run_model.specs.Schedule.{words, runs_from, schedule, turns_of}
use Rattle.turn_schedule.proofs.parsing.parse.Goals as goal

pub loop-word-init : goal.loop-word-init
unfolding schedule
loop-word-init c =
    let none = c.new-runs.ensures.items in
    let empty = ap length none in
    record {
      so = ap (λ f. runs_from c.args.cpus 1 f (words c.args.text.now)) none;
      together = sym (ap turns_of none);
      few = omega arith;
      fits = λ k d lt. absurd (omega arith);
      numbered = omega arith;
    }
