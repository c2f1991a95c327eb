-- Retries and failures since the last commit or transfer, in every run.
use Rattle.std.proofs.Common.{◌≡◌, ◌≢◌, ℕ, ◌+◌, ◌≤◌, Bool, true, false, List, [], ◌∷◌, ◌++◌, Option, Some, None, refl, sym, ap, ◌∙◌, subst, arith, if◌then◌else◌, eq-eqb, inl, inr, append-nil, ◌⊎◌}
use Rattle.std.specs.Prelude.{◌==◌, ◌&&◌, ◌||◌}
use Rattle.std.specs.List.{list_any}
use Rattle.std.proofs.lemmas.Bool.{cases_eq, ne_eqb, false≢true}
use Rattle.run_model.specs.declared.faults.Mode.{Mode}
use Rattle.run_model.specs.declared.faults.Mode.TheVariants.{Running, Recovering, Lost}
use Rattle.run_model.specs.declared.schedules.RunKind.{RunKind}
use Rattle.run_model.specs.declared.schedules.RunKind.TheVariants as kind
use Rattle.run_model.specs.declared.faults.Note.{Note}
use Rattle.run_model.specs.declared.logs.What.{What}
use Rattle.run_model.specs.declared.logs.What.TheVariants as what
use Rattle.esa_model.specs.declared.machine.Event.{Event}
use Rattle.esa_model.specs.declared.machine.Event.TheVariants as event
use Rattle.run_model.specs.declared.logs.Config.{Config}
use Rattle.run_model.specs.Script.{core_no}
use Rattle.esa_model.specs.Machine.{at}
use Rattle.esa_model.specs.Bus.{cpu_no}
use Rattle.run_model.specs.Cores.{Cores, Met, Did, Choice, Outline, entries_of, is_lost, is_fenced, make, return_by, cores_after, outlines, does, first_cores}
use Rattle.run_model.specs.Sorts.{is_fail, is_retry, is_spared, is_no_spare, of_cpu, of_core}
use Rattle.run_model.specs.Since.{commits_of, since, pushed}
use Rattle.run_laws.proofs.At.{at_same, at_other}
use Rattle.run_laws.proofs.Rows.{Rows, does_by, fail, retry, lost_word, no_spare, spared, spare_lost}
use Rattle.run_laws.proofs.Tallies.{fails_by, Tally, and_no, any_notes, Sums, sums_notes, outline, goes, cleared, quiet, other, moved, sums_fenced}

-- ---- the rows, for the CPU whose turn it is
abbrev pub After : ℕ → Cores → ℕ → ℕ → List Outline → Did → Type 0
After t s j i os d =
    Tally t (d.after.mode i) (d.after.core i) (d.after.retries i)
    (outline (s.turns + 1) j (s.core j) d.whats d.event ∷ os) i

mine_rows : (t : ℕ) (s : Cores) (i : ℕ) (v : Bool) (os : List Outline)
    → Tally t (s.mode i) (s.core i) (s.retries i) os i → Rows t s i v (After t s i i os)
mine_rows t s i v os y =
    let turn : ℕ = s.turns + 1 in
    let k : ℕ = s.core i in
    let r : ℕ = s.retries i in
    let running : s.mode i ≡ Running
    → Tally t Running k r os i =
    λ m. moved t (s.mode i) Running k k r r os i (sym m) refl refl y in
    let recovering : s.mode i ≡ Recovering
    → Tally t Recovering k r os i =
    λ m. moved t (s.mode i) Recovering k k r r os i (sym m) refl refl y in
    let lost : (mode : Mode) (ws : List What) → is_lost mode ≡ false → Tally t mode k r os i
    → Sums ws 0 0 false
    → Tally t (at s.mode i Lost i) k r
    (outline turn i k ws (Some (event.Stop (cpu_no i))) ∷ os) i =
    λ mode ws l z sums.
    moved t Lost (at s.mode i Lost i) k k r r
    (outline turn i k ws (Some (event.Stop (cpu_no i))) ∷ os) i
    (at_same s.mode i Lost) refl refl
    (goes t mode Lost k r r turn i 0 0 ws
    (Some (event.Stop (cpu_no i))) os refl sums l z (omega arith) z.most
    (λ f. tt)) in
    record {
      gone = λ m.
          quiet t (s.mode i) k r i
          (outline turn i k [] (Some (event.Idle (cpu_no i)))) os refl refl refl y;
      waits = λ m w.
          quiet t (s.mode i) k r i
          (outline turn i k [] (Some (event.Idle (cpu_no i)))) os refl refl refl y;
      commits =
          λ m w notes.
          moved t Running (s.mode i) k k 0 (at s.retries i 0 i)
          (outline turn i k (entries_of notes) (Some (event.Commit (cpu_no i)))
          ∷ os) i m refl (at_same s.retries i 0)
          (cleared t k k turn i (entries_of notes) (Some (event.Commit (cpu_no i))) os true
          (list_any is_spared (entries_of notes)) (eq-eqb i i refl) refl refl);
      fails = λ m notes why n.
          moved t Recovering (at s.mode i Recovering i) k k r r
          (outline turn i k (entries_of notes ++ (what.Fail why n ∷ [])) None ∷ os) i
          (at_same s.mode i Recovering) refl refl
          (goes t Running Recovering k r r turn i 0 1
          (entries_of notes ++ (what.Fail why n ∷ [])) None os refl
          (sums_notes notes (what.Fail why n ∷ []) 0 1 false
          (record { retries = refl; fails = refl; transfers = refl })) refl
          (running m) (omega arith) y.most (λ f. omega (arith, f)));
      scrub_lost =
          λ m notes w.
          lost Running (lost_word s i notes w).whats refl (running m)
          (sums_notes notes _ 0 0 false
          (record { retries = refl; fails = refl; transfers = refl }));
      retries =
          λ m lt notes.
          moved t Running (at s.mode i Running i) k k (r + 1) (at s.retries i (r + 1) i)
          (outline turn i k (entries_of notes ++ (what.Retry (r + 1) ∷ [])) None ∷ os) i
          (at_same s.mode i Running) refl (at_same s.retries i (r + 1))
          (goes t Recovering Running k r (r + 1) turn i 1 0
          (entries_of notes ++ (what.Retry (r + 1) ∷ [])) None os refl
          (sums_notes notes (what.Retry (r + 1) ∷ []) 1 0 false
          (record { retries = refl; fails = refl; transfers = refl })) refl
          (recovering m) (omega arith) (omega (arith, lt))
          (λ f. omega (arith, f)));
      retry_lost =
          λ m lt notes w.
          lost Recovering (lost_word s i notes w).whats refl (recovering m)
          (sums_notes notes _ 0 0 false
          (record { retries = refl; fails = refl; transfers = refl }));
      none_left =
          λ m le none.
          lost Recovering (no_spare s i).whats refl (recovering m)
          (record { retries = refl; fails = refl; transfers = refl });
      transfers =
          λ m le k2 is notes.
          moved t Running (at s.mode i Running i) k2 (at s.core i k2 i) 0 (at s.retries i 0 i)
          (outline turn i k (spared s i k2 notes).whats None ∷ os) i
          (at_same s.mode i Running) (at_same s.core i k2) (at_same s.retries i 0)
          (cleared t k k2 turn i (spared s i k2 notes).whats None os false true refl
          (any_notes is_spared (λ w b. refl) notes (what.Spared (core_no k2) ∷ [])) refl);
      transfer_lost =
          λ m le k2 is notes w.
          lost Recovering (spare_lost s i notes w).whats refl (recovering m)
          (sums_fenced _ 0 0 false
          (sums_notes notes _ 0 0 false
          (record { retries = refl; fails = refl; transfers = refl })));
    }

-- and for the others
other_rows : (t : ℕ) (s : Cores) (j i : ℕ) (v : Bool) (os : List Outline) → j ≢ i → i ≢ j
    → Tally t (s.mode i) (s.core i) (s.retries i) os i → Rows t s j v (After t s j i os)
other_rows t s j i v os ne en y =
    let turn : ℕ = s.turns + 1 in
    let k : ℕ = s.core j in
    let step : (ws : List What) (e : Option Event) → commits_of i e ≡ false
    → Tally t (s.mode i) (s.core i) (s.retries i) (outline turn j k ws e ∷ os) i =
    λ ws e p. other t (s.mode i) (s.core i) (s.retries i) turn i j k ws e os ne p y in
    let mode : (x : Mode) (ws : List What) (e : Option Event) → commits_of i e ≡ false
    → Tally t (at s.mode j x i) (s.core i) (s.retries i) (outline turn j k ws e ∷ os) i =
    λ x ws e p.
    moved t (s.mode i) (at s.mode j x i) (s.core i) (s.core i) (s.retries i) (s.retries i)
    (outline turn j k ws e ∷ os) i (at_other s.mode j x i en) refl refl
    (step ws e p) in
    record {
      gone = λ m. step [] (Some (event.Idle (cpu_no j))) refl;
      waits = λ m w. step [] (Some (event.Idle (cpu_no j))) refl;
      commits =
          λ m w notes.
          moved t (s.mode i) (s.mode i) (s.core i) (s.core i) (s.retries i)
          (at s.retries j 0 i)
          (outline turn j k (entries_of notes) (Some (event.Commit (cpu_no j)))
          ∷ os) i refl refl (at_other s.retries j 0 i en)
          (step (entries_of notes) (Some (event.Commit (cpu_no j)))
          (ne_eqb j i ne));
      fails = λ m notes why n. mode Recovering (fail s j notes why n).whats None refl;
      scrub_lost =
          λ m notes w.
          mode Lost (lost_word s j notes w).whats (Some (event.Stop (cpu_no j))) refl;
      retries =
          λ m lt notes.
          moved t (s.mode i) (at s.mode j Running i) (s.core i) (s.core i) (s.retries i)
          (at s.retries j (s.retries j + 1) i)
          (outline turn j k (retry s j notes).whats None ∷ os) i
          (at_other s.mode j Running i en) refl
          (at_other s.retries j (s.retries j + 1) i en)
          (step (retry s j notes).whats None refl);
      retry_lost =
          λ m lt notes w.
          mode Lost (lost_word s j notes w).whats (Some (event.Stop (cpu_no j))) refl;
      none_left = λ m le none. mode Lost (no_spare s j).whats (Some (event.Stop (cpu_no j))) refl;
      transfers =
          λ m le k2 is notes.
          moved t (s.mode i) (at s.mode j Running i) (s.core i) (at s.core j k2 i)
          (s.retries i) (at s.retries j 0 i)
          (outline turn j k (spared s j k2 notes).whats None ∷ os) i
          (at_other s.mode j Running i en) (at_other s.core j k2 i en)
          (at_other s.retries j 0 i en)
          (step (spared s j k2 notes).whats None refl);
      transfer_lost =
          λ m le k2 is notes w.
          mode Lost (spare_lost s j notes w).whats (Some (event.Stop (cpu_no j))) refl;
    }

abbrev pub Tallies : Config → Cores → List Outline → Type 0
Tallies c s os = (i : ℕ) → Tally c.threshold (s.mode i) (s.core i) (s.retries i) os i

turn_tally : (c : Config) (s : Cores) (j i : ℕ) (x : Met) (os : List Outline) → (j ≡ i) ⊎ (j ≢ i)
    → Tally c.threshold (s.mode i) (s.core i) (s.retries i) os i
    → After c.threshold s j i os (does c.threshold s j x)
turn_tally c s j i x os (inl e) y =
    subst (λ n. After c.threshold s n i os (does c.threshold s n x)) (sym e)
    (does_by c.threshold s i x (After c.threshold s i i os)
    (mine_rows c.threshold s i x.waits os y))
turn_tally c s j i x os (inr ne) y =
    does_by c.threshold s j x (After c.threshold s j i os)
    (other_rows c.threshold s j i x.waits os ne (λ e. ne (sym e)) y)

return_tally : (c : Config) (s : Cores) (k i : ℕ) (os : List Outline) (b : Bool)
    → Tally c.threshold (s.mode i) (s.core i) (s.retries i) os i
    → Tally c.threshold (s.mode i) (s.core i) (s.retries i) ((return_by s k b).outline ∷ os) i
return_tally c s k i os false y =
    quiet c.threshold (s.mode i) (s.core i) (s.retries i) i
    (return_by s k false).outline os refl refl refl y
return_tally c s k i os true y =
    let none : ((255 == i) && false) ≡ false = and_no (255 == i) in
    let none_core : ((255 == i) && ((k == s.core i) && false)) ≡ false =
    ap (λ z. (255 == i) && z) (and_no (k == s.core i)) ∙ and_no (255 == i) in
    quiet c.threshold (s.mode i) (s.core i) (s.retries i) i (return_by s k true).outline os
    (ap (λ b. b || false) none) (ap (λ b. (if b then 1 else 0) + 0) none)
    (ap (λ b. (if b then 1 else 0) + 0) none_core) y

pub tally_make : (c : Config) (s : Cores) (k : RunKind) (x : Met) (os : List Outline)
    → Tallies c s os → Tallies c (make c s k x).after ((make c s k x).outline ∷ os)
tally_make c s (kind.Turns j) x os y i = turn_tally c s j.0 i x os (cases_eq j.0 i) (y i)
tally_make c s (kind.Key j) x os y i =
    quiet c.threshold (s.mode i) (s.core i) (s.retries i) i
    (record { entries = []; event = Some (event.Key j) }) os refl refl refl (y i)
tally_make c s (kind.Return k) x os y i =
    elim (is_fenced c s k.0) as
    (λ b. Tally c.threshold ((return_by s k.0 b).after.mode i)
    ((return_by s k.0 b).after.core i) ((return_by s k.0 b).after.retries i)
    ((return_by s k.0 b).outline ∷ os) i) [
      | true ↦
          return_tally c s k.0 i os true (y i)
      | false ↦
          return_tally c s k.0 i os false (y i)
    ]

pub tally_run : (c : Config) (s : Cores) (xs : List Choice) (os : List Outline) → Tallies c s os
    → Tallies c (cores_after c s xs) (pushed (outlines c s xs) os)
tally_run c s [] os y = y
tally_run c s (x ∷ xs) os y =
    tally_run c (make c s x.kind x.met).after xs ((make c s x.kind x.met).outline ∷ os)
    (tally_make c s x.kind x.met os y)

pub tally_first : (c : Config) → Tallies c (first_cores c) []
tally_first c i =
    record { most = omega arith; retried = λ h. refl; at_most = omega arith; failed = refl }

-- ---- where no spare is left, the core has failed once more often than it was retried
no_spare_rows : (t : ℕ) (s : Cores) (i : ℕ) (v : Bool) (os : List Outline)
    → Tally t (s.mode i) (s.core i) (s.retries i) os i
    → Rows t s i v (λ d. list_any is_no_spare d.whats ≡ true
    → since i (of_core i (s.core i) is_fail) os ≡ t + 1)
no_spare_rows t s i v os y =
    let free : (w b : ℕ) → is_no_spare (what.Corrected w b) ≡ false = λ w b. refl in
    let never : (notes : List Note) (ws : List What) → list_any is_no_spare ws ≡ false
    → list_any is_no_spare (entries_of notes ++ ws) ≡ true
    → since i (of_core i (s.core i) is_fail) os ≡ t + 1 =
    λ notes ws e h.
    absurd (false≢true (sym e ∙ sym (any_notes is_no_spare free notes ws) ∙ h)) in
    record {
      gone = λ m h. absurd (false≢true h);
      waits = λ m w h. absurd (false≢true h);
      commits =
          λ m w notes h.
          never notes [] refl (ap (list_any is_no_spare) (append-nil (entries_of notes)) ∙ h);
      fails = λ m notes why n. never notes (what.Fail why n ∷ []) refl;
      scrub_lost =
          λ m notes w. never notes (what.Uncorrectable w ∷ what.Fenced ∷ what.Stop ∷ []) refl;
      retries = λ m lt notes. never notes (what.Retry (s.retries i + 1) ∷ []) refl;
      retry_lost =
          λ m lt notes w. never notes (what.Uncorrectable w ∷ what.Fenced ∷ what.Stop ∷ []) refl;
      none_left =
          λ m le none h. let f : since i (of_core i (s.core i) is_fail) os ≡ s.retries i + 1 =
          subst (λ z. fails_by z (since i (of_core i (s.core i) is_fail) os) (s.retries i)) m
          y.failed in omega (arith, f, le, y.most);
      transfers = λ m le k is notes. never notes (what.Spared (core_no k) ∷ []) refl;
      transfer_lost =
          λ m le k is notes w. never notes (what.Uncorrectable w ∷ what.Stop ∷ []) refl;
    }

pub no_spare_law : (c : Config) (s : Cores) (i : ℕ) (x : Met) (os : List Outline) → Tallies c s os
    → list_any is_no_spare (does c.threshold s i x).whats ≡ true
    → since i (of_core i (s.core i) is_fail) os ≡ c.threshold + 1
no_spare_law c s i x os y =
    does_by c.threshold s i x (λ d. list_any is_no_spare d.whats ≡ true
    → since i (of_core i (s.core i) is_fail) os ≡ c.threshold + 1)
    (no_spare_rows c.threshold s i x.waits os (y i))

pub retries_run : (c : Config) (xs : List Choice) (i : ℕ)
    → since i (of_cpu i is_retry) (pushed (outlines c (first_cores c) xs) []) ≤ c.threshold
retries_run c xs i = (tally_run c (first_cores c) xs [] (tally_first c) i).at_most

pub no_spare_run : (c : Config) (xs : List Choice) (i : ℕ) (x : Met)
    → list_any is_no_spare (does c.threshold (cores_after c (first_cores c) xs) i x).whats ≡ true
    → since i (of_core i ((cores_after c (first_cores c) xs).core i) is_fail)
    (pushed (outlines c (first_cores c) xs) []) ≡ c.threshold + 1
no_spare_run c xs i x h =
    no_spare_law c (cores_after c (first_cores c) xs) i x
    (pushed (outlines c (first_cores c) xs) [])
    (tally_run c (first_cores c) xs [] (tally_first c)) h
