-- A machine that starts from a job: what its turns told, what they handed in, and the silicon after
-- them.
use Rattle.std.proofs.Common.{◌≡◌, ℕ, zero, suc, ◌<◌, ◌≤◌, false, List, [], ◌∷◌, ◌++◌, length, take, refl, sym, ap, ◌∙◌, subst, arith, Some}
use Rattle.std.specs.Prelude.{replicate, slice_get}
use Rattle.std.specs.List.{All}
use Rattle.std.proofs.lemmas.List.{take_all}
use Rattle.std.proofs.lemmas.List.Concat.{flat_map-cons}
use Rattle.std.proofs.lemmas.List.Elements.{All-append, All-nil, All-replicate}
use Rattle.core_turns.specs.Handing.{hands}
use Rattle.core_turns.specs.declared.held.Held.{Held}
use Rattle.g5_machine.specs.Standing.{StandsByMode, StandsFor}
use Rattle.program_model.specs.Accepted.{Job, first_machine}
use Rattle.run_laws.specs.Bounds.{BoundedCpus}
use Rattle.run_loop.specs.Making.{SoundAfter, Tells, hands_by}
use Rattle.run_model.specs.declared.faults.Strike.{Strike}
use Rattle.run_model.specs.declared.logs.Config.{Config}
use Rattle.run_model.specs.declared.schedules.Run.{Run}
use Rattle.run_model.specs.declared.schedules.RunKind.{RunKind}
use Rattle.run_model.specs.Cores.{first_cores}
use Rattle.run_model.specs.Fate.{Sound, first_fate}
use Rattle.run_model.specs.Runs.{Model, Told, first_model, run_after, turned}
use Rattle.run_model.specs.Schedule.{Fits, kinds_of}
use Rattle.silicon.specs.Chip.{Chip}
use Rattle.silicon.specs.Tape.{Tape, tells as tells_tape}
use Rattle.machine_runs.specs.Jobs.{LeavesSilicon, StartsJob, job_hands, run_hands}
use Rattle.machine_runs.specs.RunTells.{IsSound, state_after, turns}
use Rattle.machine_runs.specs.Views.{Stands, view_of}
use Rattle.machine_runs.specs.declared.twin_machine.TwinMachine.{TwinMachine}
use Rattle.machine_runs.proofs.RunTold.{IsAtJob}

-- ---- the start of a job

kinds_fit : (cpus : ℕ) (rs : List Run) → All (λ (r : Run). Fits cpus r.what) rs
    → All (λ (k : RunKind). Fits cpus k) (kinds_of rs)
unfolding kinds_of
kinds_fit cpus [] h = All-nil (λ (k : RunKind). Fits cpus k)
kinds_fit cpus (r ∷ rs) h =
    subst (All (λ (k : RunKind). Fits cpus k))
    (sym (flat_map-cons (λ (q : Run). replicate q.count q.what) r rs))
    (All-append (λ (k : RunKind). Fits cpus k) (replicate r.count r.what) (kinds_of rs)
    (All-replicate (λ (k : RunKind). Fits cpus k) r.count r.what (h 0 r (omega arith)))
    (kinds_fit cpus rs (λ i d lt. h (suc i) d (omega (arith, lt)))))

pub at_job : (c : Config) (j : Job) (z : Chip) (v : Tape) (e : TwinMachine) → StartsJob c j z e
    → All (λ (r : Run). Fits c.cpus r.what) j.runs → IsAtJob c j (view_of e z v)
at_job c j z v e s fits = record {
  lines = s.lines;
  config = s.config;
  stands = record {
    stands = s.stands;
    bounded = subst (λ d. BoundedCpus z.lines d (first_fate c)) (sym s.config) s.bounded;
  };
  by_mode = subst (λ d. StandsByMode e.machine (first_cores d)) s.config s.start.machine;
  few = subst (λ (d : Config). d.cpus ≤ 8) s.config e.machine.fits.most;
  fits = kinds_fit c.cpus j.runs fits;
}

-- ---- the silicon after it

some_held : (hs : List Held) (i : ℕ) → i < length hs → (h : Held) × (slice_get hs i ≡ Some h)
some_held [] i lt = absurd (omega (arith, lt))
some_held (h ∷ hs) zero lt = (h, refl)
some_held (h ∷ hs) (suc i) lt = some_held hs i (omega (arith, lt))

pub leaves : (c : Config) (e : TwinMachine) (z : Chip) (x : Model) → e.machine.config ≡ c
    → StandsFor e.machine z x → LeavesSilicon c x z
leaves c e z x same st = record {
  begun = st.begun;
  words = λ i lt live.
      let n : length e.machine.cpus.items ≡ c.cpus =
      sym e.machine.fits.cpus ∙ ap (λ (d : Config). d.cpus) same in
      let held = some_held e.machine.cpus.items i (omega (arith, lt, n)) in
      ((st.each i held.0 held.1).stores live).words;
}

-- ---- after all turns of the job, where they are sound

hands_are : (e : TwinMachine) (z : Chip) (v : Tape) (x : Model) (ks : List RunKind)
    → hands_by (view_of e z v) x ks ≡ run_hands z.lines e.machine.config x ks
hands_are e z v x [] = refl
hands_are e z v x (k ∷ ks) =
    ap (λ hs. hands z.lines x k ++ hs)
    (hands_are e z v (turned z.lines e.machine.config x k) ks)

all_sound : (c : Config) (j : Job) (z : Chip) (v : Tape) (e : TwinMachine)
    → IsAtJob c j (view_of e z v) → IsSound c j (length (turns j))
    → SoundAfter (view_of e z v) (first_model c (first_machine c j)) (turns j)
all_sound c j z v e at sound =
    let x : Model = first_model c (first_machine c j) in
    let ks : List RunKind = turns j in
    let whole : take (length ks) ks ≡ ks = take_all (length ks) ks (omega arith) in
    let here : Sound j.strikes (run_after j.strikes c x ks).fate =
    subst (λ k. Sound j.strikes (run_after j.strikes c x k).fate) whole sound in
    rw (at.lines, at.config) here

pub job_left : (c : Config) (j : Job) (told : List Told) (e e2 : TwinMachine) (z y : Chip)
    (v w : Tape) → IsAtJob c j (view_of e z v)
    → Tells (turns j) told (view_of e z v) (view_of e2 y w) → IsSound c j (length (turns j))
    → LeavesSilicon c (state_after c j (length (turns j))) y
job_left c j told e e2 z y v w at tells sound =
    let x : Model = first_model c (first_machine c j) in
    let ks : List RunKind = turns j in
    let whole : take (length ks) ks ≡ ks = take_all (length ks) ks (omega arith) in
    let stands : Stands e2 y (run_after z.lines e.machine.config x ks) =
    tells.stands x at.stands (all_sound c j z v e at sound) in
    let there : Stands e2 y (state_after c j (length ks)) =
    subst (λ k. Stands e2 y (run_after j.strikes c x k)) (sym whole)
    (subst (λ d. Stands e2 y (run_after j.strikes d x ks)) at.config
    (subst (λ ls. Stands e2 y (run_after ls e.machine.config x ks)) at.lines stands)) in
    leaves c e2 y (state_after c j (length ks)) (tells.kept.config ∙ at.config) there.stands

pub job_handed : (c : Config) (j : Job) (told : List Told) (e e2 : TwinMachine) (z y : Chip)
    (v w : Tape) → IsAtJob c j (view_of e z v)
    → Tells (turns j) told (view_of e z v) (view_of e2 y w) → IsSound c j (length (turns j))
    → w ≡ tells_tape v (job_hands c j)
unfolding job_hands
job_handed c j told e e2 z y v w at tells sound =
    let x : Model = first_model c (first_machine c j) in
    let ks : List RunKind = turns j in
    tells.handed x at.stands (all_sound c j z v e at sound)
    ∙ ap (tells_tape v) (hands_are e z v x ks
    ∙ ap (λ ls. run_hands ls e.machine.config x ks) at.lines
    ∙ ap (λ d. run_hands j.strikes d x ks) at.config)
