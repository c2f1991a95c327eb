-- How the run of a generated input ends, from what was counted of it and what was written.
use Rattle.std.proofs.Common.{◌≡◌, ℕ, Bool, true, false, List, ◌++◌, take, refl, sym, ap, ◌∙◌, subst, Ok, Err, if◌then◌else◌}
use Rattle.std.specs.Prelude.{◌==◌}
use Rattle.g5_outside.specs.Views.{SinkView}
use Rattle.g5_outside.specs.declared.outside.Failed.{Failed}
use Rattle.g5_writing.specs.Outputs.{AddsToSink}
use Rattle.gen_runs.specs.Generated.{IsGeneratedRun}
use Rattle.gen_runs.specs.declared.tallies.Tally.{Tally}
use Rattle.program_model.specs.Accepted.{job_tells}
use Rattle.program_model.specs.Commands.{generate}
use Rattle.program_model.specs.Generator.{generated_config}
use Rattle.program_model.specs.Inputs.{input_name}
use Rattle.program_model.specs.Statuses.{line_of}
use Rattle.program_model.specs.declared.status.Status.{Status}
use Rattle.program_model.specs.declared.status.Status.TheVariants.{Done, CheckStopped, WriteFault}
use Rattle.run_model.specs.Texts.{report, run_summary, summary}
use Rattle.status_lines.specs.Says.{Says}
use Rattle.g5_run.specs.Generates.{CutsSummary, GenEnds, Summarizes}
use Rattle.g5_run.specs.Leaving.{SiliconAfter, status_by}

summary_is : (number turns : ℕ) (t : Tally) (z : SiliconAfter)
    → (run : IsGeneratedRun number turns t z.chip z.before z.after)
    → summary t.counts t.trace ≡ run_summary (job_tells generated_config run.job)
unfolding run_summary
summary_is number turns t z run = rw (run.counted, run.traced) refl

by_status : (number turns : ℕ) (o p e f : SinkView) (z : SiliconAfter) (done : Bool)
    → Summarizes number turns o p e f z (if done then Done else CheckStopped)
    → GenEnds number turns o p e f z (if done then Done else CheckStopped)
by_status number turns o p e f z true s = s
by_status number turns o p e f z false s = s

pub summarized : (number turns : ℕ) (t : Tally) (bytes : List ℕ) (o p e f : SinkView)
    (z : SiliconAfter) (status : Status)
    → IsGeneratedRun number turns t z.chip z.before z.after → bytes ≡ summary t.counts t.trace
    → AddsToSink {T = Unit {0}} {E = Failed} bytes o p (Ok tt) → Says (report true t.counts) e f
    → status ≡ status_by t.counts → GenEnds number turns o p e f z status
summarized number turns t bytes o p e f z status run is adds said status_is =
    subst (λ s. GenEnds number turns o p e f z s) (sym status_is)
    (by_status number turns o p e f z (t.counts.stopped == 0) (record {
      tally = t;
      run = run;
      status_is = refl;
      summary = λ told.
          adds.grew.text told ∙ ap (λ bs. o.taken ++ bs)
          (adds.all ∙ is ∙ summary_is number turns t z run);
      said = said;
    }))

pub cut : (number turns : ℕ) (t : Tally) (bytes : List ℕ) (o p e f : SinkView)
    (z : SiliconAfter) (why : Failed)
    → IsGeneratedRun number turns t z.chip z.before z.after → bytes ≡ summary t.counts t.trace
    → AddsToSink {T = Unit {0}} {E = Failed} bytes o p (Err why)
    → Says (line_of (input_name (generate number turns)) WriteFault) e f
    → CutsSummary number turns o p e f z
cut number turns t bytes o p e f z why run is adds said = record {
  tally = t;
  run = run;
  count = adds.count;
  summary = λ told.
      adds.grew.text told ∙ ap (λ bs. o.taken ++ take adds.count bs)
      (is ∙ summary_is number turns t z run);
  cause = adds.cause;
  said = said;
}
