-- A job's run in two parts is one run.
use Rattle.std.proofs.Common.{◌≡◌, ℕ, ◌+◌, ◌≤◌, Bool, true, false, List, [], ◌∷◌, ◌++◌, length, take, drop, refl, sym, ap, ◌∙◌, subst, arith, length-append, Result, Ok}
use Rattle.std.specs.Prelude.{IsTrue}
use Rattle.std.specs.List.{All}
use Rattle.std.proofs.Math.Seq.{take-add}
use Rattle.std.proofs.lemmas.Bool.{false≢true}
use Rattle.std.proofs.lemmas.List.{length-drop, length-take-le, take_all}
use Rattle.g5_outside.specs.Views.{ShelfView, SinkView}
use Rattle.g5_writing.specs.declared.outputs.OutputFiles.{OutputFiles}
use Rattle.program_model.specs.Accepted.{Job, first_machine, job_tells}
use Rattle.run_model.specs.declared.logs.Config.{Config}
use Rattle.run_model.specs.declared.outputs.Counts.{Counts}
use Rattle.run_model.specs.declared.schedules.Run.{Run}
use Rattle.run_model.specs.declared.schedules.RunKind.{RunKind}
use Rattle.run_model.specs.Counts.{counts}
use Rattle.core_turns.specs.Handing.{hands}
use Rattle.g5_machine.specs.Standing.{StandsByMode, StandsFor}
use Rattle.run_laws.specs.Bounds.{BoundedCpus}
use Rattle.run_model.specs.Cores.{Cores}
use Rattle.run_model.specs.Fate.{Sound}
use Rattle.run_model.specs.Runs.{Model, Told, first_model, run_after}
use Rattle.run_model.specs.Schedule.{Fits}
use Rattle.run_model.specs.Texts.{front}
use Rattle.silicon.specs.Chip.{Chip}
use Rattle.silicon.specs.Tape.{Tape}
use Rattle.run_loop.specs.Engines.{EngineView}
use Rattle.run_loop.specs.Making.{SoundAfter, Tells}
use Rattle.machine_runs.specs.Jobs.{LeavesSilicon, StartsJob}
use Rattle.machine_runs.specs.RunTells.{IsSound, RunTells, state_after, turns}
use Rattle.machine_runs.specs.Views.{Stands, view_of}
use Rattle.machine_runs.specs.Whole.{pieces_by}
use Rattle.machine_runs.specs.declared.twin_machine.TwinMachine.{TwinMachine}
use Rattle.machine_runs.proofs.AtJobs.{at_job, leaves}
use Rattle.machine_runs.proofs.RunTold.{IsAtJob, all_told, run_told}
use Rattle.saved_runs.specs.Counting.{SameCounts}
use Rattle.saved_runs.specs.Jobs.{IsRunInTwo}
use Rattle.saved_runs.specs.Joined.{Resumes}
use Rattle.saved_runs.specs.Parts.{MakesFirst, MakesRest, rest_by}
use Rattle.saved_runs.proofs.Carrying.{front_then, same_counts, whole_then}
use Rattle.saved_runs.proofs.Joining.{bare, bare_run}

pieces_of : (ended : Bool) (c : Config) (start : Counts) (ts us : List Told)
    → SameCounts start (counts ts)
    → front c ts ++ rest_by ended start us ≡ pieces_by ended c (ts ++ us)
pieces_of true c start ts us s = whole_then c start ts us s
pieces_of false c start ts us s = front_then c start ts us s

-- the first turns, all of which were made, and those of the rest
pub both : {E : Type 0} (ks : List RunKind) (n : ℕ) (old mid again new : EngineView)
    (files more : OutputFiles) (a b c d : ShelfView) (o p q i : SinkView) (sum start : Counts)
    (r : Result Counts E) (t : Tape)
    → (first : MakesFirst {E = E} files (take n ks) old mid a b o p (Ok sum))
    → Resumes mid again → (rest : MakesRest more start (drop n ks) again new c d q i r)
    → Tells (take (n + rest.made) ks) (first.told ++ rest.told) (bare old 0 t)
    (bare new (0 + length (take n ks) + length (take rest.made (drop n ks))) t)
both {E} ks n old mid again new files more a b c d o p q i sum start r t first resumed rest =
    let front : take first.made (take n ks) ≡ take n ks =
    take_all first.made (take n ks) (omega (arith, first.all)) in
    let begun : Tells (take n ks) first.told old mid =
    subst (λ z. Tells z first.told old mid) front first.tells in
    subst (λ z. Tells z (first.told ++ rest.told) (bare old 0 t)
    (bare new (0 + length (take n ks) + length (take rest.made (drop n ks))) t))
    (sym (take-add n rest.made ks))
    (bare_run (take n ks) (take rest.made (drop n ks)) first.told rest.told old mid again new t
    begun resumed rest.tells)

-- the premise holds in all turns, as the machine at the start has it
all_sound : (c : Config) (j : Job) (old : EngineView) → IsAtJob c j old
    → IsSound c j (length (turns j))
    → SoundAfter old (first_model c (first_machine c j)) (turns j)
all_sound c j old at sound =
    let x : Model = first_model c (first_machine c j) in
    let ks : List RunKind = turns j in
    let whole : take (length ks) ks ≡ ks = take_all (length ks) ks (omega arith) in
    let here : Sound j.strikes (run_after j.strikes c x ks).fate =
    subst (λ k. Sound j.strikes (run_after j.strikes c x k).fate) whole sound in
    rw (at.lines, at.config) here

pub in_two : {E : Type 0} (c : Config) (j : Job) (n : ℕ) (e f g h : TwinMachine)
    (w x y z : Chip) (s t u v : Tape) (files more : OutputFiles) (a b k d : ShelfView)
    (o p q i : SinkView) (sum start : Counts) (r : Result Counts E) → StartsJob c j w e
    → All (λ (run : Run). Fits c.cpus run.what) j.runs → n ≤ length (turns j)
    → (first : MakesFirst {E = E} files (take n (turns j)) (view_of e w s) (view_of f x t) a b o p
    (Ok sum))
    → Resumes (view_of f x t) (view_of g y u) → SameCounts start sum
    → (rest : MakesRest more start (drop n (turns j)) (view_of g y u) (view_of h z v) k d q i r)
    → IsRunInTwo c j start first.told rest.told rest.ended z
in_two {E} c j n e f g h w x y z s t u v files more a b k d o p q i sum start r starts fits le first resumed same rest =
    let ks : List RunKind = turns j in
    let m : ℕ = rest.made in
    let told : List Told = first.told ++ rest.told in
    let old : EngineView = view_of e w s in
    let new : EngineView = view_of h z v in
    let last : ℕ = 0 + length (take n ks) + length (take m (drop n ks)) in
    let at = at_job c j w s e starts fits in
    let bare_at : IsAtJob c j (bare old 0 s) = record {
      lines = at.lines;
      config = at.config;
      stands = at.stands;
      by_mode = at.by_mode;
      few = at.few;
      fits = at.fits;
    } in
    let left = length-drop n ks in
    let most : n + m ≤ length ks = omega (arith, le, left, rest.most) in
    let tells : Tells (take (n + m) ks) told (bare old 0 s) (bare new last s) =
    both {E = E} ks n old (view_of f x t) (view_of g y u) new files more a b k d o p q i sum start r s
    first resumed rest in
    let run : RunTells c j told =
    run_told c j (n + m) told (bare old 0 s) (bare new last s) bare_at most tells in
    let begun : SameCounts start (counts first.told) =
    subst (λ k. SameCounts start k) first.counted same in
    let whole : IsTrue rest.ended → length told ≡ length ks = λ yes.
    let made = rest.all yes in
    let each : length told ≡ n + m =
    tells.each ∙ length-take-le (n + m) ks most in
    omega (arith, made, each, left, le) in
    record {
      tells = run;
      pieces = pieces_of rest.ended c start first.told rest.told begun;
      counted = same_counts start first.told rest.told begun;
      all = whole;
      sound = λ yes sound. all_told c j told run (whole yes) sound;
      leaves = λ yes sound.
          let made = rest.all yes in
          let same_kinds : take (n + m) ks ≡ take (length ks) ks =
          ap (λ q. take q ks) (omega (arith, made, left, le)) in
          let model : Model = first_model c (first_machine c j) in
          let here = all_sound c j old at sound in
          let stands : Stands h z (run_after w.lines e.machine.config model (take (n + m) ks)) =
          tells.stands model at.stands
          (subst (λ q. SoundAfter (bare old 0 s) model q)
          (sym (same_kinds ∙ take_all (length ks) ks (omega arith))) here) in
          let there : Stands h z (state_after c j (length ks)) =
          subst (λ q. Stands h z (run_after j.strikes c model q)) same_kinds
          (subst (λ q. Stands h z (run_after j.strikes q model (take (n + m) ks))) at.config
          (subst (λ q. Stands h z (run_after q e.machine.config model (take (n + m) ks)))
          at.lines stands)) in
          leaves c h z (state_after c j (length ks))
          (rest.tells.kept.config ∙ resumed.kept.config ∙ first.tells.kept.config ∙ at.config)
          there.stands;
    }

-- ---- a machine that is stood up again

pub resumes : (f g : TwinMachine) (x y : Chip) (t u : Tape) → y.lines ≡ x.lines
    → g.machine.config ≡ f.machine.config
    → ((s : Cores) → StandsByMode f.machine s → StandsByMode g.machine s)
    → ((m : Model) → StandsFor f.machine x m → StandsFor g.machine y m)
    → Resumes (view_of f x t) (view_of g y u)
resumes f g x y t u lines config by_mode stands = record {
  kept = record {
    lines = lines;
    config = config;
    hands = ap (λ ls m k. hands ls m k) lines;
  };
  by_mode = by_mode;
  stands = λ m h. record {
    stands = stands m h.stands;
    bounded = subst (λ ls. BoundedCpus ls g.machine.config m.fate) (sym lines)
        (subst (λ d. BoundedCpus x.lines d m.fate) (sym config) h.bounded);
  };
}
