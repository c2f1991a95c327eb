-- The laws on turns by what they meet, said of what the turns of a run tell.
use Rattle.std.proofs.Common.{◌≡◌, ℕ, suc, ◌+◌, ◌≤◌, Bool, true, false, List, [], ◌∷◌, ◌++◌, refl, sym, ap, ◌∙◌, subst, inl, inr, length}
use Rattle.std.specs.Prelude.{map, ◌==◌, ◌&&◌, ◌||◌}
use Rattle.std.specs.List.{list_any}
use Rattle.std.proofs.lemmas.Bool.{cases_eq, ne_eqb, false≢true}
use Rattle.esa_model.specs.Machine.{Machine}
use Rattle.run_model.specs.declared.faults.Strike.{Strike}
use Rattle.run_model.specs.declared.logs.Config.{Config}
use Rattle.run_model.specs.declared.logs.What.{What}
use Rattle.run_model.specs.declared.schedules.RunKind.{RunKind}
use Rattle.run_model.specs.declared.schedules.RunKind.TheVariants as kind
use Rattle.run_model.specs.Cores.{Cores, Met, Choice, Outline, outlines, make, return_by, is_fenced, does, stamped, first_cores}
use Rattle.run_model.specs.Counts.{counts}
use Rattle.run_model.specs.Lawful.{AllMeet, Lawful}
use Rattle.run_model.specs.Runs.{Model, Told, turned, first_model, run_tells, choices, outline_of, entries}
use Rattle.run_model.specs.Since.{since, pushed}
use Rattle.run_model.specs.Sorts.{is_fail, is_retry, is_no_spare, of_core, of_cpu}
use Rattle.run_laws.specs.Runs.{logged, turns_of_run, ValidTurns, ValidKinds, Tells}
use Rattle.run_laws.proofs.Counting.{Tallies, no_spare_law, tally_first, tally_make, retries_run}
use Rattle.run_laws.proofs.Logs.{lawful_run}
use Rattle.run_laws.proofs.Summing.{counted}
use Rattle.run_laws.proofs.Turns.{run_outlines}

-- ---- logs

logged_told : (ts : List Told) → logged (map outline_of ts) ≡ entries ts
logged_told [] = refl
logged_told (t ∷ ts) = ap (λ es. t.entries ++ es) (logged_told ts)

length_map : (ts : List Told) → length (map outline_of ts) ≡ length ts
length_map [] = refl
length_map (t ∷ ts) = ap suc (length_map ts)

length_outlines : (c : Config) (s : Cores) (xs : List Choice)
    → length (outlines c s xs) ≡ length xs
length_outlines c s [] = refl
length_outlines c s (x ∷ xs) = ap suc (length_outlines c (make c s x.kind x.met).after xs)

-- the log of turns that tell what some choices make
pub lawful_told : (c : Config) (xs : List Choice) (ts : List Told) → c.cpus ≤ 8 → ValidTurns c xs
    → Tells c xs ts → Lawful c (length ts) (counts ts).returned (entries ts)
lawful_told c xs ts few valid told =
    let same : logged (turns_of_run c xs) ≡ entries ts = ap logged (sym told) ∙ logged_told ts in
    let size : length xs ≡ length ts = sym (length_outlines c (first_cores c) xs)
    ∙ ap (λ os. length os) (sym told) ∙ length_map ts in
    record {
      all = subst (λ n. AllMeet c n [] (entries ts)) size
          (subst (λ es. AllMeet c (length xs) [] es) same (lawful_run c xs few valid));
      tail = sym (counted ts).returned;
    }

-- ---- retries
pub retries_told : (c : Config) (xs : List Choice) (ts : List Told) (i : ℕ) → Tells c xs ts
    → since i (of_cpu i is_retry) (pushed (map outline_of ts) []) ≤ c.threshold
retries_told c xs ts i told =
    subst (λ os. since i (of_cpu i is_retry) (pushed os []) ≤ c.threshold) (sym told)
    (retries_run c xs i)

-- ---- the end of a core

of_turn : (i k t j core : ℕ) (ws : List What)
    → list_any (of_core i k is_no_spare) (stamped t j core ws) ≡ true
    → (j ≡ i) × (core ≡ k) × (list_any is_no_spare ws ≡ true)
of_turn i k t j core [] h = absurd (false≢true h)
of_turn i k t j core (w ∷ ws) h = elim (cases_eq j i) [
  | inr ne ↦
      let rest : list_any (of_core i k is_no_spare) (stamped t j core ws) ≡ true =
      sym (ap (λ b. (b && ((core == k) && is_no_spare w))
      || list_any (of_core i k is_no_spare) (stamped t j core ws)) (ne_eqb j i ne)) ∙ h in
      let q = of_turn i k t j core ws rest in
      absurd (ne q.0)
  | inl is ↦ elim (cases_eq core k) [
    | inr ne ↦
        let no_core : ((j == i) && ((core == k) && is_no_spare w)) ≡ false =
        ap (λ b. (j == i) && (b && is_no_spare w)) (ne_eqb core k ne) ∙ and_none (j == i) in
        let rest : list_any (of_core i k is_no_spare) (stamped t j core ws) ≡ true =
        sym (ap (λ b. b
        || list_any (of_core i k is_no_spare) (stamped t j core ws)) no_core) ∙ h in
        absurd (ne (of_turn i k t j core ws rest).1)
    | inl own ↦ (
      is,
      own,
      by_first (is_no_spare w) ((j == i) && ((core == k) && is_no_spare w))
          (list_any (of_core i k is_no_spare) (stamped t j core ws))
          (list_any is_no_spare ws) (inner (j == i) (core == k) (is_no_spare w))
          (λ r. (of_turn i k t j core ws r).2) h,
    )
  ]
]
  where
    and_none : (b : Bool) → (b && false) ≡ false
    and_none true = refl
    and_none false = refl

    inner : (a b d : Bool) → (a && (b && d)) ≡ true → d ≡ true
    inner true true d e = e
    inner true false d e = absurd (false≢true e)
    inner false b d e = absurd (false≢true e)

    by_first : (w one rest more : Bool) → (one ≡ true → w ≡ true) → (rest ≡ true → more ≡ true)
        → (one || rest) ≡ true → (w || more) ≡ true
    by_first true one rest more f g e = refl
    by_first false true rest more f g e = absurd (false≢true (f refl))
    by_first false false rest more f g e = g e

no_return : (c : Config) (s : Cores) (i k n : ℕ) (b : Bool)
    → list_any (of_core i k is_no_spare) (return_by s n b).outline.entries ≡ false
no_return c s i k n false = refl
no_return c s i k n true = ap (λ b. b || false) (and_none (255 == i) (n == k))
  where
    and_none : (a b : Bool) → (a && (b && false)) ≡ false
    and_none true true = refl
    and_none true false = refl
    and_none false b = refl

here : (c : Config) (s : Cores) (os : List Outline) (r : RunKind) (x : Met) (i k : ℕ)
    → Tallies c s os → list_any (of_core i k is_no_spare) (make c s r x).outline.entries ≡ true
    → since i (of_core i k is_fail) os ≡ c.threshold + 1
here c s os (kind.Turns j) x i k y h =
    let q = of_turn i k (s.turns + 1) j.0 (s.core j.0) (does c.threshold s j.0 x).whats h in
    let mine : since j.0 (of_core j.0 (s.core j.0) is_fail) os ≡ c.threshold + 1 =
    no_spare_law c s j.0 x os y q.2 in
    subst (λ n. since i (of_core i n is_fail) os ≡ c.threshold + 1) q.1
    (subst (λ n. since n (of_core n (s.core j.0) is_fail) os ≡ c.threshold + 1) q.0 mine)
here c s os (kind.Key j) x i k y h = absurd (false≢true h)
here c s os (kind.Return n) x i k y h =
    absurd (false≢true (sym (no_return c s i k n.0 (is_fenced c s n.0)) ∙ h))

head_same : (o p : Outline) (os ps : List Outline) → (o ∷ os) ≡ (p ∷ ps) → o ≡ p
head_same o p os ps e = cc

tail_same : (o p : Outline) (os ps : List Outline) → (o ∷ os) ≡ (p ∷ ps) → os ≡ ps
tail_same o p os ps e = cc

no_spare_from : (c : Config) (s : Cores) (os : List Outline) (xs : List Choice) (ts : List Told)
    (t : Told) (i k : ℕ) → Tallies c s os → map outline_of (ts ++ t ∷ []) ≡ outlines c s xs
    → list_any (of_core i k is_no_spare) t.entries ≡ true
    → since i (of_core i k is_fail) (pushed (map outline_of ts) os) ≡ c.threshold + 1
no_spare_from c s os [] [] t i k y e h = absurd (cc e)
no_spare_from c s os [] (u ∷ ts) t i k y e h = absurd (cc e)
no_spare_from c s os (x ∷ xs) [] t i k y e h =
    let same : t.entries ≡ (make c s x.kind x.met).outline.entries =
    ap (λ (o : Outline). o.entries)
    (head_same (outline_of t) (make c s x.kind x.met).outline []
    (outlines c (make c s x.kind x.met).after xs) e) in
    here c s os x.kind x.met i k y (sym (ap (list_any (of_core i k is_no_spare)) same) ∙ h)
no_spare_from c s os (x ∷ xs) (u ∷ ts) t i k y e h =
    let one : outline_of u ≡ (make c s x.kind x.met).outline =
    head_same (outline_of u) (make c s x.kind x.met).outline (map outline_of (ts ++ t ∷ []))
    (outlines c (make c s x.kind x.met).after xs) e in
    let rest : map outline_of (ts ++ t ∷ []) ≡ outlines c (make c s x.kind x.met).after xs =
    tail_same (outline_of u) (make c s x.kind x.met).outline (map outline_of (ts ++ t ∷ []))
    (outlines c (make c s x.kind x.met).after xs) e in
    subst (λ o. since i (of_core i k is_fail) (pushed (map outline_of ts) (o ∷ os))
    ≡ c.threshold + 1) (sym one)
    (no_spare_from c (make c s x.kind x.met).after
    ((make c s x.kind x.met).outline ∷ os) xs ts t i k
    (tally_make c s x.kind x.met os y) rest h)

-- where a turn tells that no spare is left, its core failed once more than the threshold
pub no_spare_told : (c : Config) (xs : List Choice) (ts : List Told) (t : Told) (i k : ℕ)
    → Tells c xs (ts ++ t ∷ []) → list_any (of_core i k is_no_spare) t.entries ≡ true
    → since i (of_core i k is_fail) (pushed (map outline_of ts) []) ≡ c.threshold + 1
no_spare_told c xs ts t i k told h =
    no_spare_from c (first_cores c) [] xs ts t i k (tally_first c) told h

-- ---- the runs of the definitions are such turns

pub run_told : (ls : List Strike) (c : Config) (m : Machine) (ks : List RunKind)
    → Tells c (choices ls c (first_model c m) ks) (run_tells ls c (first_model c m) ks)
run_told ls c m ks = run_outlines ls c (first_model c m) ks

pub choices_valid : (ls : List Strike) (c : Config) (x : Model) (ks : List RunKind)
    → ValidKinds c ks → ValidTurns c (choices ls c x ks)
choices_valid ls c x [] v = tt
choices_valid ls c x (k ∷ ks) v = (v.0, choices_valid ls c (turned ls c x k) ks v.1)

pub run_lawful : (ls : List Strike) (c : Config) (m : Machine) (ks : List RunKind) → c.cpus ≤ 8
    → ValidKinds c ks
    → Lawful c (length (run_tells ls c (first_model c m) ks))
    (counts (run_tells ls c (first_model c m) ks)).returned
    (entries (run_tells ls c (first_model c m) ks))
run_lawful ls c m ks few valid =
    lawful_told c (choices ls c (first_model c m) ks) (run_tells ls c (first_model c m) ks) few
    (choices_valid ls c (first_model c m) ks valid) (run_told ls c m ks)
