use Rattle.std.proofs.Common.{subst}
use Rattle.job_inputs.specs.Accepts.{job_of}
use Rattle.job_inputs.specs.Reads.{AreRead, job_bytes}
use Rattle.g5_run.proofs.ready.prepare.Goals as goal

pub returns-clause-ready : goal.returns-clause-ready
returns-clause-ready g c =
    let bytes = job_bytes c.in_ok-inputs.inputs in
    record {
      job = job_of c.in_ok-accepted.accepted;
      inputs = record {
        bytes = bytes;
        read = subst (λ n. AreRead n (g.F.Shelf.seen c.args.shelf.now) bytes) c.inputs_of.ensures
            c.in_ok-inputs.ensures.read;
        accepted = c.in_ok-accepted.ensures.ok;
      };
      ready = c.in_ok-make_ready.ensures.ready;
      found = c.in_ok-inputs.ensures.found;
    }
