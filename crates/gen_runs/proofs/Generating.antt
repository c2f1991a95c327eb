-- All turns of the run of a generated input are as the definitions say.
use Rattle.std.proofs.Common.{◌≡◌, ℕ, suc, ◌+◌, ◌^◌, ◌≤◌, List, [], ◌∷◌, length, take, refl, sym, ap, ◌∙◌, subst, arith, lit≤}
use Rattle.std.specs.List.{All}
use Rattle.std.proofs.lemmas.List.{take_all}
use Rattle.machine_runs.specs.Jobs.{IsReadyJob, StartsJob, job_hands}
use Rattle.machine_runs.specs.RunTells.{IsSound, RunTells, state_after, turns}
use Rattle.machine_runs.specs.Views.{IsReady, view_of}
use Rattle.machine_runs.specs.declared.ready.Ready.{Ready}
use Rattle.machine_runs.specs.declared.twin_machine.TwinMachine.{TwinMachine}
use Rattle.machine_runs.proofs.AtJobs.{at_job, job_handed, job_left}
use Rattle.machine_runs.proofs.Wholes.{ready_first, room_first}
use Rattle.machine_runs.proofs.RunTold.{all_told, run_told}
use Rattle.program_model.specs.Accepted.{Job, first_machine, job_tells}
use Rattle.program_model.specs.Generator.{generated_config}
use Rattle.run_laws.specs.Rules.{KeepsRules}
use Rattle.run_laws.specs.Runs.{ValidKinds}
use Rattle.run_laws.proofs.Premised.{within_sound}
use Rattle.run_loop.specs.Engines.{EngineView, FailsAsStruck}
use Rattle.run_loop.specs.Making.{Tells}
use Rattle.run_loop.proofs.Ends.{valid_kind}
use Rattle.run_model.specs.declared.logs.Config.{Config}
use Rattle.run_model.specs.declared.schedules.Run.{Run}
use Rattle.run_model.specs.declared.schedules.RunKind.{RunKind}
use Rattle.run_model.specs.Counts.{counts}
use Rattle.run_model.specs.Fate.{Sound}
use Rattle.run_model.specs.Premise.{Within}
use Rattle.run_model.specs.Runs.{Told, entries, first_model, run_after}
use Rattle.run_model.specs.Schedule.{Fits, kinds_of, turns_of}
use Rattle.run_model.specs.Texts.{trace_bytes}
use Rattle.silicon.specs.Chip.{Chip}
use Rattle.silicon.specs.Tape.{Tape}
use Rattle.gen_runs.specs.Counted.{IsTally}
use Rattle.gen_runs.specs.Inputs.{IsGeneratedJob}
use Rattle.gen_runs.specs.Generated.{IsGeneratedRun}
use Rattle.gen_runs.specs.declared.tallies.Tally.{Tally}

kinds_valid : (c : Config) (ks : List RunKind) → All (λ k. Fits c.cpus k) ks → ValidKinds c ks
kinds_valid c [] h = tt
kinds_valid c (k ∷ ks) h =
    let tail : All (λ k. Fits c.cpus k) ks = λ i d lt. h (suc i) d (omega (arith, lt)) in
    (valid_kind c k (h 0 k (omega arith)), kinds_valid c ks tail)

-- under the premise all turns are sound
all_sound : (c : Config) (j : Job) → c.cpus ≤ 8 → Within j.strikes
    → All (λ k. Fits c.cpus k) (turns j) → IsSound c j (length (turns j))
all_sound c j few within fits =
    subst (λ ks. Sound j.strikes
    (run_after j.strikes c (first_model c (first_machine c j)) ks).fate)
    (sym (take_all (length (turns j)) (turns j) (omega arith)))
    (within_sound j.strikes c (first_machine c j) (turns j) within few
    (kinds_valid c (turns j) fits))

generated_run : (number count : ℕ) (j : Job) (tally : Tally) (e e2 : TwinMachine)
    (z y : Chip) (v w : Tape) → IsGeneratedJob number count j → StartsJob generated_config j z e
    → All (λ (r : Run). Fits 8 r.what) j.runs
    → IsTally (turns j) tally (view_of e z v) (view_of e2 y w)
    → IsGeneratedRun number count tally y v w
generated_run number count j tally e e2 z y v w is starts fits t =
    let c : Config = generated_config in
    let ks : List RunKind = turns j in
    let at = at_job c j z v e starts fits in
    let front : Tells (take (length ks) ks) t.told (view_of e z v) (view_of e2 y w) =
    subst (λ q. Tells q t.told (view_of e z v) (view_of e2 y w))
    (sym (take_all (length ks) ks (omega arith))) t.tells in
    let tells : RunTells c j t.told =
    run_told c j (length ks) t.told (view_of e z v) (view_of e2 y w) at (omega arith) front in
    let sound : IsSound c j (length ks) = all_sound c j (lit≤ tt) is.within at.fits in
    let told : t.told ≡ job_tells c j = all_told c j t.told tells t.tells.each sound in
    record {
      job = j;
      is = is;
      counted = t.counted ∙ ap counts told;
      traced = t.traced ∙ ap trace_bytes told;
      rules = subst (λ ts. KeepsRules c ts) told tells.rules;
      causes = subst (λ ts. FailsAsStruck j.strikes (entries ts)) told tells.causes;
      silicon = job_left c j t.told e e2 z y v w at t.tells sound;
      handed = job_handed c j t.told e e2 z y v w at t.tells sound;
    }

-- ---- what the loop asks for

pub ready_at_start : (c : Config) (j : Job) (z : Chip) (e : TwinMachine) → StartsJob c j z e
    → IsReady e z
ready_at_start c j z e s = ready_first e z s.start

pub fits_at_start : (c : Config) (j : Job) (z : Chip) (e : TwinMachine) (runs : List Run)
    → StartsJob c j z e → runs ≡ j.runs → All (λ (r : Run). Fits c.cpus r.what) j.runs
    → All (λ (r : Run). Fits e.machine.config.cpus r.what) runs
fits_at_start c j z e runs s same fits =
    rw (same, s.config) fits

pub room_at_start : (c : Config) (j : Job) (z : Chip) (e : TwinMachine) (runs : List Run)
    → StartsJob c j z e → runs ≡ j.runs → turns_of j.runs ≤ 1000000
    → e.machine.counts.turns + turns_of runs ≤ 2 ^ 47
room_at_start c j z e runs s same few =
    room_first e z (turns_of runs) s.start (subst (λ rs. turns_of rs ≤ 1000000) (sym same) few)

-- ---- the run, from what the calls give

pub run_is : (number count : ℕ) (c : Config) (j : Job) (r : Ready) (runs : List Run)
    (tally : Tally) (e : TwinMachine) (z y : Chip) (u v w : Tape) → c ≡ generated_config
    → IsGeneratedJob number count j → IsReadyJob c j z r → runs ≡ r.schedule → v ≡ u
    → IsTally (kinds_of runs) tally (view_of r.machine z v) (view_of e y w)
    → IsGeneratedRun number count tally y u w
run_is number count c j r runs tally e z y u v w config is ready same tape t =
    let begun : IsReadyJob generated_config j z r = subst (λ d. IsReadyJob d j z r) config ready in
    let counted : IsTally (turns j) tally (view_of r.machine z v) (view_of e y w) =
    subst (λ rs. IsTally (kinds_of rs) tally (view_of r.machine z v) (view_of e y w))
    (same ∙ begun.schedule) t in
    subst (λ q. IsGeneratedRun number count tally y q w) tape
    (generated_run number count j tally r.machine e z y v w is begun.starts begun.fits counted)
