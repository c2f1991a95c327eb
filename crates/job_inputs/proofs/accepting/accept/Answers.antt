use Rattle.std.proofs.Common.{◌≡◌, ℕ, ◌*◌, ap, subst, Ok}
use Rattle.std.proofs.lemmas.Result.{err_from_is_err_and}
use Rattle.deck_model.specs.Image.{Image}
use Rattle.run_model.specs.Schedule.{schedule}
use Rattle.run_model.specs.Script.{script}
use Rattle.run_model.specs.declared.faults.ScriptRefusal.TheVariants as script_refusal
use Rattle.run_model.specs.declared.schedules.ScheduleRefusal.TheVariants as schedule_refusal
use Rattle.program_model.specs.declared.status.Status.TheVariants.{ScheduleRefused, ScriptRefused}
use Rattle.job_inputs.specs.Reads.{job_bytes}
use Rattle.job_inputs.specs.Accepts.{Refused}
use Rattle.job_inputs.proofs.Jobs.{deck_refused, schedule_refused, script_refused, accepted, same_image}
use Rattle.job_inputs.proofs.accepting.accept.Goals as goal

pub returns-in_err-deck-clause-refusal : goal.returns-in_err-deck-clause-refusal
returns-in_err-deck-clause-refusal c =
    let p = err_from_is_err_and c.from_residual.result c.from_residual.ensures.1 in
    let size = ap (λ (k : ℕ). 4096 * k) c.from.ensures in
    rw (p.1, p.2) ((deck_refused c.args.config (job_bytes c.args.inputs) _ _ c.in_err-deck.field-0.0
    size c.deref.ensures.value c.in_err-deck.ensures.refused).exact)

pub returns-in_err-schedule-clause-refusal : goal.returns-in_err-schedule-clause-refusal
returns-in_err-schedule-clause-refusal c =
    let residual = c.from_residual-in_err-schedule in
    let p = err_from_is_err_and residual.result residual.ensures.1 in
    let s = c.in_err-schedule.field-0.0 in
    let loaded = c.in_ok-deck in
    let i : Image = record { bytes = loaded.deck.storage; entry = loaded.deck.entry.address } in
    let size = ap (λ (k : ℕ). 4096 * k) c.from.ensures in
    rw (p.1, p.2) ((schedule_refused c.args.config (job_bytes c.args.inputs) i s
    (same_image _ _ _ _ (Ok i) size c.deref.ensures.value loaded.ensures.loaded)
    (subst (λ t. Refused (schedule c.args.config.cpus t) schedule_refusal.NoMemory ScheduleRefused s)
    c.deref-2.ensures.value c.in_err-schedule.ensures.refused)).exact)

pub returns-in_err-script-clause-refusal : goal.returns-in_err-script-clause-refusal
returns-in_err-script-clause-refusal c =
    let residual = c.from_residual-in_err-script in
    let p = err_from_is_err_and residual.result residual.ensures.1 in
    let s = c.in_err-script.field-0.0 in
    let loaded = c.in_ok-deck in
    let i : Image = record { bytes = loaded.deck.storage; entry = loaded.deck.entry.address } in
    let runs = c.in_ok-schedule.schedule in
    let size = ap (λ (k : ℕ). 4096 * k) c.from.ensures in
    rw (p.1, p.2) ((script_refused c.args.config (job_bytes c.args.inputs) i runs s
    (same_image _ _ _ _ (Ok i) size c.deref.ensures.value loaded.ensures.loaded)
    (subst (λ t. schedule c.args.config.cpus t ≡ Ok runs) c.deref-2.ensures.value
    c.in_ok-schedule.ensures.meaning)
    (subst (λ t. Refused (script t) script_refusal.NoMemory ScriptRefused s)
    c.deref-3.ensures.value c.in_err-script.ensures.refused)).exact)

pub returns-clause-ok : goal.returns-clause-ok
returns-clause-ok c =
    let loaded = c.in_ok-deck in
    let i : Image = record { bytes = loaded.deck.storage; entry = loaded.deck.entry.address } in
    let runs = c.in_ok-schedule.schedule in
    let strikes = c.in_ok-script.script in
    let size = ap (λ (k : ℕ). 4096 * k) c.from.ensures in
    accepted c.args.config (job_bytes c.args.inputs) i runs strikes
    (same_image _ _ _ _ (Ok i) size c.deref.ensures.value loaded.ensures.loaded)
    (subst (λ t. schedule c.args.config.cpus t ≡ Ok runs) c.deref-2.ensures.value
    c.in_ok-schedule.ensures.meaning)
    (subst (λ t. script t ≡ Ok strikes) c.deref-3.ensures.value c.in_ok-script.ensures.meaning)
