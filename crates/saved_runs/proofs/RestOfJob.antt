-- The rest of a job's run, of a machine that stands for the state after the first turns.
use Rattle.std.proofs.Common.{◌≡◌, ℕ, ◌+◌, ◌≤◌, List, [], ◌∷◌, ◌++◌, length, take, drop, refl, sym, ap, ◌∙◌, subst, arith, Result}
use Rattle.std.specs.Prelude.{IsTrue}
use Rattle.std.proofs.Math.Seq.{drop-append-add, take-add}
use Rattle.std.proofs.lemmas.List.{length-drop, length-take-le, take-append-drop, take-take, take_all}
use Rattle.g5_outside.specs.Views.{ShelfView, SinkView}
use Rattle.g5_writing.specs.declared.outputs.OutputFiles.{OutputFiles}
use Rattle.program_model.specs.Accepted.{Job, first_machine, job_tells}
use Rattle.run_model.specs.declared.faults.Strike.{Strike}
use Rattle.run_model.specs.declared.logs.Config.{Config}
use Rattle.run_model.specs.declared.outputs.Counts.{Counts}
use Rattle.run_model.specs.declared.schedules.RunKind.{RunKind}
use Rattle.run_model.specs.Fate.{Sound}
use Rattle.run_model.specs.Runs.{Model, Told, first_model, run_after, run_tells}
use Rattle.silicon.specs.Chip.{Chip}
use Rattle.silicon.specs.Tape.{Tape}
use Rattle.run_loop.specs.Engines.{EngineView}
use Rattle.run_loop.specs.Making.{SoundAfter, Tells, state_by, tells_by}
use Rattle.run_loop.proofs.Joining.{after_append, tells_append}
use Rattle.machine_runs.specs.Jobs.{LeavesSilicon}
use Rattle.machine_runs.specs.RunTells.{IsSound, state_after, turns}
use Rattle.machine_runs.specs.Views.{Stands, view_of}
use Rattle.machine_runs.specs.declared.twin_machine.TwinMachine.{TwinMachine}
use Rattle.machine_runs.proofs.AtJobs.{leaves}
use Rattle.machine_runs.proofs.RunTold.{tells_each}
use Rattle.saved_runs.specs.Jobs.{IsRestOfJob}
use Rattle.saved_runs.specs.Parts.{MakesRest}
use Rattle.saved_runs.proofs.Few.{tells_front}

-- ---- the definitions

-- the state after m turns more
pub state_then : (c : Config) (j : Job) (n m : ℕ)
    → run_after j.strikes c (state_after c j n) (take m (drop n (turns j))) ≡ state_after c j (n + m)
state_then c j n m =
    let x : Model = first_model c (first_machine c j) in
    let ks : List RunKind = turns j in
    sym (after_append j.strikes c x (take n ks) (take m (drop n ks)))
    ∙ ap (λ z. run_after j.strikes c x z) (sym (take-add n m ks))

-- what the turns behind the first n tell
pub tells_behind : (c : Config) (j : Job) (n : ℕ) → n ≤ length (turns j)
    → run_tells j.strikes c (state_after c j n) (drop n (turns j)) ≡ drop n (job_tells c j)
unfolding job_tells
tells_behind c j n le =
    let x : Model = first_model c (first_machine c j) in
    let ks : List RunKind = turns j in
    let front : List Told = run_tells j.strikes c x (take n ks) in
    let behind : List Told = run_tells j.strikes c (state_after c j n) (drop n ks) in
    let long : length front ≡ n =
    tells_each j.strikes c x (take n ks) ∙ length-take-le n ks le in
    let split : job_tells c j ≡ front ++ behind =
    ap (λ z. run_tells j.strikes c x z) (sym (take-append-drop n ks))
    ∙ tells_append j.strikes c x (take n ks) (drop n ks) in
    let whole : length front + 0 ≡ n = omega (arith, long) in
    sym (drop-append-add front behind 0) ∙ ap (λ q. drop q (front ++ behind)) whole
    ∙ ap (λ z. drop n z) (sym split)

-- ---- a machine in the midst of a job

pub record IsInJob (c : Config) (j : Job) (n : ℕ) (old : EngineView) : Type 0 where
  pub lines : old.lines ≡ j.strikes
  pub config : old.config ≡ c
  pub stands : old.stands (state_after c j n)

-- m turns more are sound for it where the definitions' are
sound_more : (c : Config) (j : Job) (n m : ℕ) (old : EngineView) → IsInJob c j n old
    → IsSound c j (n + m)
    → SoundAfter old (state_after c j n) (take m (drop n (turns j)))
sound_more c j n m old at sound =
    let here : Sound j.strikes
    (run_after j.strikes c (state_after c j n) (take m (drop n (turns j)))).fate =
    subst (λ z. Sound j.strikes z.fate) (sym (state_then c j n m)) sound in
    rw (at.lines, at.config) here

-- they tell what the definitions say
pub front_told : (c : Config) (j : Job) (n made m : ℕ) (told : List Told) (old new : EngineView)
    → IsInJob c j n old → n ≤ length (turns j) → made ≤ length (drop n (turns j))
    → Tells (take made (drop n (turns j))) told old new → m ≤ length told → IsSound c j (n + m)
    → take m told ≡ take m (drop n (job_tells c j))
front_told c j n made m told old new at le most tells few sound =
    let x : Model = state_after c j n in
    let js : List RunKind = drop n (turns j) in
    let each : length told ≡ made = tells.each ∙ length-take-le made js most in
    let lt : m ≤ made = omega (arith, each, few) in
    let front : take m (take made js) ≡ take m js = take-take m made js lt in
    let here : SoundAfter old x (take m (take made js)) =
    subst (λ z. SoundAfter old x z) (sym front) (sound_more c j n m old at sound) in
    tells.fronts x at.stands m (omega (arith, tells.each, few)) here
    ∙ ap (λ z. tells_by old x z) front
    ∙ ap (λ ls. run_tells ls old.config x (take m js)) at.lines
    ∙ ap (λ d. run_tells j.strikes d x (take m js)) at.config
    ∙ tells_front j.strikes c x js m (omega (arith, lt, most))
    ∙ ap (λ z. take m z) (tells_behind c j n le)

-- and leave the state that these say
pub stands_more : (c : Config) (j : Job) (n m : ℕ) (told : List Told) (old new : EngineView)
    → IsInJob c j n old → Tells (take m (drop n (turns j))) told old new → IsSound c j (n + m)
    → new.stands (state_after c j (n + m))
stands_more c j n m told old new at tells sound =
    let x : Model = state_after c j n in
    let js : List RunKind = take m (drop n (turns j)) in
    let same : state_by old x js ≡ state_after c j (n + m) =
    ap (λ ls. run_after ls old.config x js) at.lines
    ∙ ap (λ d. run_after j.strikes d x js) at.config
    ∙ state_then c j n m in
    subst (λ z. new.stands z) same
    (tells.stands x at.stands (sound_more c j n m old at sound))

-- ---- the rest

pub rest_of_job : {E : Type 0} (c : Config) (j : Job) (n : ℕ) (g h : TwinMachine) (y z : Chip)
    (u v : Tape) (files : OutputFiles) (a b : ShelfView) (o p : SinkView) (start : Counts)
    (r : Result Counts E) → y.lines ≡ j.strikes → g.machine.config ≡ c
    → Stands g y (state_after c j n) → n ≤ length (turns j)
    → (rest : MakesRest files start (drop n (turns j)) (view_of g y u) (view_of h z v) a b o p r)
    → IsRestOfJob c j n rest.told rest.ended z
rest_of_job c j n g h y z u v files a b o p start r lines config stands le rest =
    let js : List RunKind = drop n (turns j) in
    let old : EngineView = view_of g y u in
    let new : EngineView = view_of h z v in
    let at : IsInJob c j n old = record { lines = lines; config = config; stands = stands } in
    let left = length-drop n (turns j) in
    let each : length rest.told ≡ rest.made =
    rest.tells.each ∙ length-take-le rest.made js rest.most in
    let each_job : length (drop n (job_tells c j)) ≡ length js =
    ap length (sym (tells_behind c j n le))
    ∙ tells_each j.strikes c (state_after c j n) js in
    let whole : IsTrue rest.ended → n + length rest.told ≡ length (turns j) = λ yes.
    let made = rest.all yes in
    omega (arith, made, each, left, le) in
    record {
      fronts = λ m few sound.
          front_told c j n rest.made m rest.told old new at le rest.most rest.tells few sound;
      all = whole;
      sound = λ yes sound.
          let m : ℕ = length rest.told in
          let made = rest.all yes in
          let here : IsSound c j (n + m) = subst (IsSound c j) (sym (whole yes)) sound in
          sym (take_all m rest.told (omega arith))
          ∙ front_told c j n rest.made m rest.told old new at le rest.most rest.tells (omega arith)
          here
          ∙ take_all m (drop n (job_tells c j)) (omega (arith, each_job, each, made));
      leaves = λ yes sound.
          let m : ℕ = rest.made in
          let last : n + m ≡ length (turns j) =
          let all = whole yes in omega (arith, all, each) in
          let here : IsSound c j (n + m) = subst (IsSound c j) (sym last) sound in
          let there : Stands h z (state_after c j (length (turns j))) =
          subst (λ q. Stands h z (state_after c j q)) last
          (stands_more c j n m rest.told old new at rest.tells here) in
          leaves c h z (state_after c j (length (turns j))) (rest.tells.kept.config ∙ config)
          there.stands;
    }
