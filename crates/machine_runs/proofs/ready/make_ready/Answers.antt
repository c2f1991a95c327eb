-- The machine that was made is at the start of the job.
use Rattle.std.proofs.Common.{refl}
use Rattle.job_inputs.specs.Accepts.{job_of}
use Rattle.machine_runs.proofs.Starting.{starts_job}
use Rattle.machine_runs.proofs.ready.make_ready.Goals as goal

pub returns-clause-ready : goal.returns-clause-ready
returns-clause-ready g c =
    let made = c.in_ok-machine.ensures in
    record {
      premise = c.within-within.ensures;
      schedule = refl;
      fits = c.requires.fit.fits;
      few = c.requires.fit.turns;
      starts = starts_job c.args.config (job_of c.args.accepted) c.in_ok-machine.machine
          c.new-2.result (g.Z.Silicon.seen c.args.silicon.now) (g.Z.Silicon.seen c.arm.new.self)
          (g.Z.Silicon.seen c.new.new.z) (record {
            fresh = c.requires.fresh;
            arms = c.arm.ensures.arms;
            machine = c.new-2.ensures.machine;
            unit_a = c.new-2.ensures.unit_a;
            unit_b = c.new-2.ensures.unit_b;
            stands = made.stands;
            by_mode = made.by_mode;
            bounded = made.bounded;
            config = made.config;
            lines = made.lines;
            begun = made.begun;
          });
    }
