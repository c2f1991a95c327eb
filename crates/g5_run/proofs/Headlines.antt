-- The headline, from how the program ends.
use Rattle.std.proofs.Common.{◌≡◌, ℕ, ◌+◌, ◌≤◌, Bool, true, false, List, [], ◌∷◌, ◌++◌, length, take, refl, sym, ap, ◌∙◌, subst, arith, append-nil, inl, inr, if◌then◌else◌}
use Rattle.std.specs.Prelude.{map, ◌==◌, ◌||◌}
use Rattle.std.specs.List.{list_any}
use Rattle.std.proofs.lemmas.Bool.{cases_eq, ne_eqb, false≢true}
use Rattle.std.proofs.lemmas.List.{take_all}
use Rattle.g5_outside.specs.Views.{ShelfView, SinkView}
use Rattle.program_model.specs.Accepted.{Job, first_machine, job_tells}
use Rattle.program_model.specs.Commands.{JobNames}
use Rattle.program_model.specs.declared.status.Status.TheVariants.{Done, CheckStopped}
use Rattle.run_laws.specs.Rules.{KeepsRules}
use Rattle.run_laws.specs.Runs.{ValidKinds, ValidTurns}
use Rattle.run_laws.proofs.Events.{writes_alike}
use Rattle.run_laws.proofs.Premised.{within_sound}
use Rattle.run_laws.proofs.Same.{same_console, same_trace, text_append}
use Rattle.run_laws.proofs.Summing.{counted}
use Rattle.run_loop.specs.Engines.{FailsAsStruck}
use Rattle.run_model.specs.declared.logs.Config.{Config}
use Rattle.run_model.specs.declared.logs.Entry.{Entry}
use Rattle.run_model.specs.declared.outputs.Counts.{Counts}
use Rattle.run_model.specs.declared.outputs.Place.{Place}
use Rattle.run_model.specs.declared.outputs.Place.TheVariants.{Log, Trace, Out}
use Rattle.run_model.specs.Cores.{Choice}
use Rattle.run_model.specs.Counts.{counts}
use Rattle.run_model.specs.Fate.{Sound}
use Rattle.run_model.specs.LogLines.{head, tail}
use Rattle.run_model.specs.Pieces.{piece, same_place, text}
use Rattle.run_model.specs.Premise.{Within}
use Rattle.run_model.specs.Runs.{Told, entries, first_model, run_after}
use Rattle.run_model.specs.Sorts.{how_many, is_stop, is_stop_entry, of_sort}
use Rattle.run_model.specs.Texts.{turns_pieces, whole}
use Rattle.g5_run.specs.Ends.{EndsWhole}
use Rattle.g5_run.specs.Leaving.{SiliconAfter, status_by}
use Rattle.g5_run.specs.Headline.{Headline, SameWithoutFaults, faultless}
use Rattle.machine_runs.proofs.RunTold.{all_told}
use Rattle.machine_runs.specs.RunTells.{IsSound, RunTells, turns}

-- ---- under the premise all turns are sound

kinds_valid : (c : Config) (xs : List Choice) → ValidTurns c xs
    → ValidKinds c (map (λ (x : Choice). x.kind) xs)
kinds_valid c [] v = tt
kinds_valid c (x ∷ xs) v = (v.0, kinds_valid c xs v.1)

turns_valid : (c : Config) (j : Job) (told : List Told) → RunTells c j told
    → length told ≡ length (turns j) → ValidKinds c (turns j)
turns_valid c j told tells all =
    let whole : take (length told) (turns j) ≡ turns j =
    take_all (length told) (turns j) (omega (arith, all)) in
    subst (ValidKinds c) (tells.table.kinds_are ∙ whole)
    (kinds_valid c tells.table.choices tells.table.valid)

pub sound_within : (c : Config) (j : Job) (told : List Told) → RunTells c j told
    → length told ≡ length (turns j) → c.cpus ≤ 8 → Within j.strikes
    → IsSound c j (length (turns j))
sound_within c j told tells all few within =
    subst (λ ks. Sound j.strikes
    (run_after j.strikes c (first_model c (first_machine c j)) ks).fate)
    (sym (take_all (length (turns j)) (turns j) (omega arith)))
    (within_sound j.strikes c (first_machine c j) (turns j) within few
    (turns_valid c j told tells all))

-- ---- trace and console have the pieces of the turns alone

text_of_whole : (p : Place) (c : Config) (ts : List Told) → same_place p Log ≡ false
    → text p (whole c ts) ≡ text p (turns_pieces 0 ts)
unfolding whole
text_of_whole p c ts h =
    let last : List ℕ = tail (counts ts).turns (counts ts).returned in
    ap (λ b. (if b then head c else []) ++ text p (turns_pieces 0 ts ++ piece Log last ∷ [])) h
    ∙ text_append p (turns_pieces 0 ts) (piece Log last ∷ [])
    ∙ ap (λ b. text p (turns_pieces 0 ts) ++ ((if b then last else []) ++ [])) h
    ∙ append-nil (text p (turns_pieces 0 ts))

faultless_text : (p : Place) (c : Config) (j : Job) → same_place p Log ≡ false
    → text p (whole c (job_tells c j)) ≡ text p (turns_pieces 0 (faultless c j))
unfolding job_tells
faultless_text p c j h =
    text_of_whole p c (job_tells c j) h
    ∙ writes_alike p j.strikes c 0 (first_model c (first_machine c j)) (turns j) h

-- ---- the headline

pub headline_of : (names : JobNames) (c : Config) (count : Counts) (within : Bool)
    (a b : ShelfView) (o p : SinkView) (z : SiliconAfter) → (h : EndsWhole names c count within a b o p z)
    → c.cpus ≤ 8 → Within h.job.strikes → Headline names c h.job b o p
headline_of names c count within a b o p z h few premise =
    let told : h.told ≡ job_tells c h.job = all_told c h.job h.told h.tells h.all
    (sound_within c h.job h.told h.tells h.all few premise) in
    record {
      trace = λ t. h.holds.trace t ∙ ap (λ ts. text Trace (whole c ts)) told
          ∙ faultless_text Trace c h.job refl;
      console = λ t. h.holds.out t ∙ ap (λ ts. o.taken ++ text Out (whole c ts)) told
          ∙ ap (λ w. o.taken ++ w) (faultless_text Out c h.job refl);
      log = λ t. h.holds.log t ∙ ap (λ ts. text Log (whole c ts)) told;
      rules = subst (λ ts. KeepsRules c ts) told h.tells.rules;
      causes = subst (λ ts. FailsAsStruck h.job.strikes (entries ts)) told h.tells.causes;
    }

-- ---- the same run without faults

not_stopped : (b : Bool) → (if b then Done else CheckStopped) ≡ Done → b ≡ true
not_stopped true h = refl
not_stopped false h = absurd (cc h)

no_stops : (n : ℕ) → (if n == 0 then Done else CheckStopped) ≡ Done → n ≡ 0
no_stops n h = elim (cases_eq n 0) [
  | inl e ↦ e
  | inr ne ↦ absurd (false≢true (sym (ne_eqb n 0 ne) ∙ not_stopped (n == 0) h))
]

none_of : (es : List Entry) → how_many (of_sort is_stop) es ≡ 0
    → list_any is_stop_entry es ≡ false
none_of [] h = refl
none_of (e ∷ es) h =
    none_by (is_stop e.what) (how_many (of_sort is_stop) es) (list_any is_stop_entry es)
    (none_of es) h
  where
    none_by : (b : Bool) (n : ℕ) (rest : Bool) → (n ≡ 0 → rest ≡ false)
        → (if b then 1 else 0) + n ≡ 0 → (b || rest) ≡ false
    none_by true n rest f h = absurd (omega (arith, h))
    none_by false n rest f h = f (omega (arith, h))

pub same_of : (names : JobNames) (c : Config) (count : Counts) (within : Bool) (a b : ShelfView)
    (o p : SinkView) (z : SiliconAfter) → (h : EndsWhole names c count within a b o p z) → c.cpus ≤ 8
    → Within h.job.strikes → Done ≡ status_by count → SameWithoutFaults names c h.job b o p
unfolding job_tells
same_of names c count within a b o p z h few premise done =
    let told : h.told ≡ job_tells c h.job = all_told c h.job h.told h.tells h.all
    (sound_within c h.job h.told h.tells h.all few premise) in
    let none : (counts h.told).stopped ≡ 0 =
    ap (λ (n : Counts). n.stopped) (sym h.counted) ∙ no_stops count.stopped (sym done) in
    let quiet : list_any is_stop_entry (entries h.told) ≡ false =
    none_of (entries h.told) (sym (counted h.told).stopped ∙ none) in
    let quiet_job : list_any is_stop_entry (entries (job_tells c h.job)) ≡ false =
    ap (λ ts. list_any is_stop_entry (entries ts)) (sym told) ∙ quiet in
    record {
      trace = λ t. h.holds.trace t ∙ ap (λ ts. text Trace (whole c ts)) told
          ∙ text_of_whole Trace c (job_tells c h.job) refl
          ∙ same_trace h.job.strikes c (first_machine c h.job) (turns h.job) quiet_job;
      console = λ t. h.holds.out t ∙ ap (λ ts. o.taken ++ text Out (whole c ts)) told
          ∙ ap (λ w. o.taken ++ w) (text_of_whole Out c (job_tells c h.job) refl
          ∙ same_console h.job.strikes c (first_machine c h.job) (turns h.job) quiet_job);
    }
