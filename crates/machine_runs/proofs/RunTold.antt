-- What the turns that were made told, as the definition of the job has it.
use Rattle.std.proofs.Common.{◌≡◌, ℕ, suc, ◌≤◌, List, [], ◌∷◌, ◌++◌, length, take, drop, refl, sym, ap, ◌∙◌, subst, arith}
use Rattle.std.specs.Prelude.{map}
use Rattle.std.specs.List.{All}
use Rattle.std.proofs.lemmas.List.{length-take-le, take-append-drop, take-take, take_all, take_at}
use Rattle.std.proofs.lemmas.List.Elements.{All-take}
use Rattle.program_model.specs.Accepted.{Job, first_machine, job_tells}
use Rattle.run_laws.specs.Rules.{ByTable}
use Rattle.run_laws.proofs.Ruling.{keeps_rules}
use Rattle.run_loop.specs.Engines.{EngineView, FailsAsStruck}
use Rattle.run_loop.specs.Making.{Tells}
use Rattle.run_loop.proofs.Ends.{valid_turns}
use Rattle.run_loop.proofs.Joining.{tells_append}
use Rattle.run_model.specs.declared.faults.Strike.{Strike}
use Rattle.run_model.specs.declared.logs.Config.{Config}
use Rattle.run_model.specs.declared.schedules.RunKind.{RunKind}
use Rattle.run_model.specs.Cores.{first_cores, outlines}
use Rattle.run_model.specs.Fate.{Sound}
use Rattle.run_model.specs.Runs.{Model, Told, entries, first_model, outline_of, run_after, run_tells, turned}
use Rattle.run_model.specs.Schedule.{Fits}
use Rattle.machine_runs.specs.RunTells.{IsSound, RunTells, turns}

-- ---- all turns of a sound run

pub tells_each : (ls : List Strike) (c : Config) (x : Model) (ks : List RunKind)
    → length (run_tells ls c x ks) ≡ length ks
tells_each ls c x [] = refl
tells_each ls c x (k ∷ ks) = ap suc (tells_each ls c (turned ls c x k) ks)

job_each : (c : Config) (j : Job) → length (job_tells c j) ≡ length (turns j)
unfolding job_tells
job_each c j = tells_each j.strikes c (first_model c (first_machine c j)) (turns j)

pub all_told : (c : Config) (j : Job) (told : List Told) → RunTells c j told
    → length told ≡ length (turns j) → IsSound c j (length (turns j)) → told ≡ job_tells c j
all_told c j told tells all sound =
    let n : ℕ = length (turns j) in
    let le : n ≤ length told = omega (arith, all) in
    let same : take n told ≡ take n (job_tells c j) = tells.sound n le sound in
    sym (take_all n told (omega (arith, all))) ∙ same
    ∙ take_all n (job_tells c j) (omega (arith, job_each c j))

-- ---- the turns that were made

-- the first turns of a run tell the first of what it tells
tells_front : (ls : List Strike) (c : Config) (x : Model) (ks : List RunKind) (n : ℕ)
    → n ≤ length ks → run_tells ls c x (take n ks) ≡ take n (run_tells ls c x ks)
tells_front ls c x ks n le =
    let split : run_tells ls c x ks
    ≡ run_tells ls c x (take n ks)
    ++ run_tells ls c (run_after ls c x (take n ks)) (drop n ks) =
    ap (λ z. run_tells ls c x z) (sym (take-append-drop n ks))
    ∙ tells_append ls c x (take n ks) (drop n ks) in
    sym (ap (take n) split
    ∙ take_at (run_tells ls c x (take n ks))
    (run_tells ls c (run_after ls c x (take n ks)) (drop n ks)) n
    (tells_each ls c x (take n ks) ∙ length-take-le n ks le))

-- an engine at the start of the job
pub record IsAtJob (c : Config) (j : Job) (old : EngineView) : Type 0 where
  pub lines : old.lines ≡ j.strikes
  pub config : old.config ≡ c
  pub stands : old.stands (first_model c (first_machine c j))
  pub by_mode : old.stands_by_mode (first_cores c)
  pub few : c.cpus ≤ 8
  pub fits : All (λ k. Fits c.cpus k) (turns j)

pub run_told : (c : Config) (j : Job) (made : ℕ) (told : List Told) (old new : EngineView)
    → IsAtJob c j old → made ≤ length (turns j) → Tells (take made (turns j)) told old new
    → RunTells c j told
unfolding job_tells
run_told c j made told old new at most tells =
    let x : Model = first_model c (first_machine c j) in
    let ks : List RunKind = turns j in
    let each : length told ≡ made = tells.each ∙ length-take-le made ks most in
    let by = tells.by_mode (first_cores c) at.by_mode in
    let table : ByTable c (take (length told) ks) told = record {
      choices = by.choices;
      kinds_are = by.kinds_are ∙ ap (λ n. take n ks) (sym each);
      valid = valid_turns c by.choices (take made ks) by.kinds_are
          (All-take (λ k. Fits c.cpus k) made ks at.fits);
      tells = subst (λ d. map outline_of told ≡ outlines d (first_cores c) by.choices) at.config
          by.outlines_are;
    } in
    record {
      most = omega (arith, each, most);
      table = table;
      rules = keeps_rules c (take (length told) ks) told at.few table;
      causes = subst (λ ls. FailsAsStruck ls (entries told)) at.lines tells.struck;
      sound = λ n le sound.
          let lt : n ≤ made = omega (arith, each, le) in
          let front : take n (take made ks) ≡ take n ks = take-take n made ks lt in
          let here : Sound old.lines
          (run_after old.lines old.config x (take n (take made ks))).fate =
          rw (at.lines, at.config, front) sound in
          let told_here = tells.fronts x at.stands n (omega (arith, tells.each, each, lt)) here in
          told_here
          ∙ ap (λ ls. run_tells ls old.config x (take n (take made ks))) at.lines
          ∙ ap (λ d. run_tells j.strikes d x (take n (take made ks))) at.config
          ∙ ap (λ z. run_tells j.strikes c x z) front
          ∙ tells_front j.strikes c x ks n (omega (arith, lt, most));
    }
