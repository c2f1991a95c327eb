-- The run of a generated input: what its turns need, and what they tell.
use Rattle.std.proofs.Common.{◌≡◌, ◌≤◌, ◌∙◌, sym, subst}
use Rattle.job_inputs.specs.Accepts.{job_of}
use Rattle.run_model.specs.Schedule.{turns_of}
use Rattle.gen_runs.proofs.Generating.{fits_at_start, ready_at_start, room_at_start, run_is}
use Rattle.gen_runs.proofs.generated.run_generated.Goals as goal

pub count_runs-requires-clause-ready : goal.count_runs-requires-clause-ready
count_runs-requires-clause-ready g c =
    ready_at_start c.config_of_runs.result (job_of c.in_ok-accepted.accepted)
    (g.Z.Silicon.seen c.make_ready.new.silicon) c.in_ok-ready.ready.machine
    c.in_ok-ready.ensures.ready.starts

pub count_runs-requires-clause-fits : goal.count_runs-requires-clause-fits
count_runs-requires-clause-fits g c =
    let ready = c.in_ok-ready.ensures.ready in
    let same : c.runs.result.now ≡ c.in_ok-ready.ready.schedule = cc in
    fits_at_start c.config_of_runs.result (job_of c.in_ok-accepted.accepted)
    (g.Z.Silicon.seen c.make_ready.new.silicon) c.in_ok-ready.ready.machine c.runs.result.now
    ready.starts (same ∙ ready.schedule) ready.fits

pub count_runs-requires-clause-room : goal.count_runs-requires-clause-room
count_runs-requires-clause-room g c =
    let ready = c.in_ok-ready.ensures.ready in
    let same : c.runs.result.now ≡ c.in_ok-ready.ready.schedule = cc in
    room_at_start c.config_of_runs.result (job_of c.in_ok-accepted.accepted)
    (g.Z.Silicon.seen c.make_ready.new.silicon) c.in_ok-ready.ready.machine c.runs.result.now
    ready.starts (same ∙ ready.schedule) ready.few

pub count_runs-requires-clause-few : goal.count_runs-requires-clause-few
count_runs-requires-clause-few g c =
    let ready = c.in_ok-ready.ensures.ready in
    let same : c.runs.result.now ≡ c.in_ok-ready.ready.schedule = cc in
    subst (λ rs. turns_of rs ≤ 1000000) (sym (same ∙ ready.schedule)) ready.few

pub returns : goal.returns
returns g c =
    let same : c.runs.result.now ≡ c.in_ok-ready.ready.schedule = cc in
    run_is c.args.number c.args.turns c.config_of_runs.result (job_of c.in_ok-accepted.accepted)
    c.in_ok-ready.ready c.runs.result.now c.count_runs.result c.count_runs.new.engine
    (g.Z.Silicon.seen c.make_ready.new.silicon) (g.Z.Silicon.seen c.count_runs.new.silicon)
    (g.Z.Silicon.tape c.args.silicon.now) (g.Z.Silicon.tape c.make_ready.new.silicon)
    (g.Z.Silicon.tape c.count_runs.new.silicon) c.config_of_runs.ensures
    c.in_ok-accepted.ensures.job c.in_ok-ready.ensures.ready same
    c.make_ready.ensures.tape c.count_runs.ensures
