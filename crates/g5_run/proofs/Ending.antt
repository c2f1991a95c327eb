-- How a run ends, from what was made of it.
use Rattle.std.proofs.Common.{◌≡◌, ◌≢◌, false, List, [], ◌∷◌, length, take, refl, sym, ap, ◌∙◌, subst, arith, append-nil, Ok, Err, inl, inr}
use Rattle.std.proofs.lemmas.Bool.{false≢true}
use Rattle.std.proofs.lemmas.List.{length-take-le, take_all}
use Rattle.g5_outside.specs.Views.{ShelfView, SinkView}
use Rattle.g5_outside.specs.declared.outside.Failed.{Failed}
use Rattle.g5_reading.specs.Inputs.{OnlyReads}
use Rattle.g5_writing.specs.Starts.{Starts}
use Rattle.g5_writing.specs.declared.outputs.OutputFiles.{OutputFiles}
use Rattle.g5_writing.proofs.Faults.{rose_before}
use Rattle.machine_runs.specs.Jobs.{job_hands}
use Rattle.machine_runs.specs.Views.{view_of}
use Rattle.machine_runs.specs.Whole.{MakesWhole, pieces_by}
use Rattle.machine_runs.specs.declared.twin_machine.TwinMachine.{TwinMachine}
use Rattle.program_model.specs.Accepted.{Job}
use Rattle.program_model.specs.Commands.{JobNames}
use Rattle.run_loop.specs.Making.{Tells}
use Rattle.run_loop.proofs.Telling.{tells_none}
use Rattle.run_model.specs.declared.logs.Config.{Config}
use Rattle.run_model.specs.declared.outputs.Counts.{Counts}
use Rattle.run_model.specs.declared.outputs.Place.TheVariants.{Log}
use Rattle.run_model.specs.declared.schedules.RunKind.{RunKind}
use Rattle.run_model.specs.LogLines.{head}
use Rattle.run_model.specs.Pieces.{IsCut, piece}
use Rattle.run_model.specs.Schedule.{kinds_of}
use Rattle.run_model.specs.Texts.{front, whole}
use Rattle.silicon.specs.Chip.{Chip}
use Rattle.silicon.specs.Tape.{Tape, tells as tells_tape}
use Rattle.g5_run.specs.Ends.{EndsCut, EndsWhole}
use Rattle.g5_run.specs.Leaving.{silicon_after}
use Rattle.g5_run.specs.Holding.{Holds}
use Rattle.g5_run.specs.Readiness.{IsReady}
use Rattle.machine_runs.specs.RunTells.{turns}
use Rattle.machine_runs.specs.declared.ready.Ready.{Ready}
use Rattle.g5_run.proofs.Named.{holds_of, outputs_of, still_named}
use Rattle.machine_runs.proofs.AtJobs.{at_job, job_handed, job_left}
use Rattle.machine_runs.proofs.RunTold.{run_told}

-- ---- a run that was made to its end

pub ends_whole : (names : JobNames) (c : Config) (r : Ready) (e : TwinMachine) (z y : Chip)
    (u v q : Tape) (files : OutputFiles) (a b s t : ShelfView) (o p : SinkView) (n : Counts)
    → (w : IsReady names c a b z r) → OnlyReads a b → v ≡ u
    → Starts {E = Failed} names.log names.trace b s (Ok files) → names.log ≢ names.trace
    → MakesWhole {E = Failed} files (kinds_of r.schedule) (view_of r.machine z v)
    (view_of e y q) s t o p (Ok n)
    → EndsWhole names c n r.within a t o p (silicon_after y u q)
ends_whole names c r e z y u v q files a b s t o p n w reads same started differ m =
    let j : Job = w.job in
    let ks : List RunKind = turns j in
    let at = at_job c j z v r.machine w.ready.starts w.ready.fits in
    let kinds : kinds_of r.schedule ≡ ks = ap kinds_of w.ready.schedule in
    let made : MakesWhole {E = Failed} files ks (view_of r.machine z v) (view_of e y q) s t o p
    (Ok n) =
    subst (λ k. MakesWhole {E = Failed} files k (view_of r.machine z v) (view_of e y q) s t o p
    (Ok n)) kinds m in
    let full : made.made ≡ length ks = made.all made.fine in
    let each : length made.told ≡ made.made =
    made.tells.each ∙ length-take-le made.made ks made.most in
    let pieces : made.puts.held ≡ whole c made.told = made.puts.all
    ∙ ap (λ b2. pieces_by b2 r.machine.machine.config made.told) made.fine
    ∙ ap (λ d. whole d made.told) at.config in
    let all : Tells ks made.told (view_of r.machine z v) (view_of e y q) =
    subst (λ k. Tells k made.told (view_of r.machine z v) (view_of e y q))
    (ap (λ k. take k ks) full ∙ take_all (length ks) ks (omega arith)) made.tells in
    let held = holds_of names files made.puts.held s t o p started.numbers
    (λ told. started.log_name (sym started.told ∙ told))
    (λ told. started.trace_name (sym started.told ∙ told)) differ
    (λ told. started.log_empty (sym started.told ∙ told))
    (λ told. started.trace_empty (sym started.told ∙ told)) made.puts.grew in
    record {
      job = j;
      inputs = w.inputs;
      premise = w.ready.premise;
      told = made.told;
      tells = run_told c j made.made made.told (view_of r.machine z v) (view_of e y q) at
          made.most made.tells;
      all = each ∙ full;
      counted = made.counted;
      holds = subst (λ ps. Holds names ps t o p) pieces held;
      outputs = outputs_of names files made.puts.held s t o p started.numbers
          (λ told. started.log_name (sym started.told ∙ told))
          (λ told. started.trace_name (sym started.told ∙ told)) made.puts.grew;
      silicon = λ sound. job_left c j made.told r.machine e z y v q at all sound;
      handed = λ sound. job_handed c j made.told r.machine e z y v q at all sound
          ∙ ap (λ t2. tells_tape t2 (job_hands c j)) same;
      told_still = made.puts.grew.told ∙ started.told ∙ reads.told;
      found = made.puts.grew.found ∙ started.found ∙ w.found;
    }

-- ---- a run whose outputs were cut

pub ends_cut : (names : JobNames) (c : Config) (r : Ready) (e : TwinMachine) (z y : Chip)
    (v q : Tape) (files : OutputFiles) (a b s t : ShelfView) (o p : SinkView) (f : Failed)
    → (w : IsReady names c a b z r) → OnlyReads a b
    → Starts {E = Failed} names.log names.trace b s (Ok files) → names.log ≢ names.trace
    → MakesWhole files (kinds_of r.schedule) (view_of r.machine z v) (view_of e y q) s t o p (Err f)
    → EndsCut names c a t o p
ends_cut names c r e z y v q files a b s t o p f w reads started differ m =
    let j : Job = w.job in
    let ks : List RunKind = turns j in
    let at = at_job c j z v r.machine w.ready.starts w.ready.fits in
    let made : MakesWhole files ks (view_of r.machine z v) (view_of e y q) s t o p (Err f) =
    subst (λ k. MakesWhole files k (view_of r.machine z v) (view_of e y q) s t o p (Err f))
    (ap kinds_of w.ready.schedule) m in
    let each : length made.told ≡ made.made =
    made.tells.each ∙ length-take-le made.made ks made.most in
    record {
      job = j;
      inputs = w.inputs;
      told = made.told;
      tells = run_told c j made.made made.told (view_of r.machine z v) (view_of e y q) at
          made.most made.tells;
      ended = made.ended;
      all = λ yes. each ∙ made.all yes;
      held = made.puts.held;
      cut = subst (λ d. IsCut made.puts.held (pieces_by made.ended d made.told)) at.config
          made.puts.cut;
      holds = holds_of names files made.puts.held s t o p started.numbers
          (λ told. started.log_name (sym started.told ∙ told))
          (λ told. started.trace_name (sym started.told ∙ told)) differ
          (λ told. started.log_empty (sym started.told ∙ told))
          (λ told. started.trace_empty (sym started.told ∙ told)) made.puts.grew;
      named = still_named names files made.puts.held s t o p
          (λ told. started.named (sym started.told ∙ told)) made.puts.grew;
      told_still = made.puts.grew.told ∙ started.told ∙ reads.told;
      cause = elim made.puts.cause [
        | inl shelf ↦ inl (rose_before a.write_faults s.write_faults t.write_faults
            (omega (arith, reads.writes, started.writes)) shelf)
        | inr sink ↦ inr sink
      ];
      found = made.puts.grew.found ∙ started.found ∙ w.found;
    }

-- a file that could not be created: the head of the log is cut before its first byte
cut_at_start : (c : Config) → IsCut (piece Log [] ∷ []) (front c [])
unfolding front
cut_at_start c = record {
  before = [];
  piece = piece Log (head c);
  behind = [];
  count = 0;
  whole_is = refl;
  held_is = refl;
}

pub ends_unstarted : (names : JobNames) (c : Config) (r : Ready) (z : Chip) (v : Tape)
    (a b s : ShelfView)
    (o : SinkView) (f : Failed) → (w : IsReady names c a b z r) → OnlyReads a b
    → Starts names.log names.trace b s (Err f) → EndsCut names c a s o o
ends_unstarted names c r z v a b s o f w reads started = record {
  job = w.job;
  inputs = w.inputs;
  told = [];
  tells = run_told c w.job 0 [] (view_of r.machine z v) (view_of r.machine z v)
      (at_job c w.job z v r.machine w.ready.starts w.ready.fits) (omega arith)
      (tells_none (view_of r.machine z v));
  ended = false;
  all = λ no. absurd (false≢true no);
  held = piece Log [] ∷ [];
  cut = cut_at_start c;
  holds = record {
    log = λ t. started.log_empty (sym started.told ∙ t);
    trace = λ t. started.trace_empty (sym started.told ∙ t);
    out = λ t. sym (append-nil o.taken);
  };
  named = λ t. started.named (sym started.told ∙ t);
  told_still = started.told ∙ reads.told;
  cause = inl (rose_before a.write_faults b.write_faults s.write_faults reads.writes
      started.cause);
  found = started.found ∙ w.found;
}
