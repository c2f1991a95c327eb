-- A turn has at most one log entry of each of some sorts, so the counts of these are at most the turns.
use Rattle.std.proofs.Common.{◌≡◌, ℕ, suc, ◌+◌, ◌≤◌, List, [], ◌∷◌, ◌++◌, length, refl, sym, ap, ◌∙◌, subst, arith, true, false, Bool, Option, Some, None, if◌then◌else◌}
use Rattle.std.specs.Prelude.{map, take, drop}
use Rattle.std.proofs.lemmas.List.{length-take-le, take-append-drop, take_at}
use Rattle.program_model.specs.Accepted.{Job, first_machine, job_tells}
use Rattle.esa_model.specs.declared.machine.Event.{Event}
use Rattle.esa_model.specs.declared.machine.Event.TheVariants.{Commit, Idle, Stop, Key}
use Rattle.run_model.specs.declared.faults.Cause.{Cause}
use Rattle.run_model.specs.declared.faults.Note.{Note}
use Rattle.run_model.specs.declared.faults.Strike.{Strike}
use Rattle.run_model.specs.declared.logs.Config.{Config}
use Rattle.run_model.specs.declared.logs.Entry.{Entry}
use Rattle.run_model.specs.declared.logs.What.{What}
use Rattle.run_model.specs.declared.logs.What.TheVariants as what
use Rattle.run_model.specs.declared.schedules.RunKind.{RunKind}
use Rattle.run_model.specs.declared.schedules.RunKind.TheVariants as kind
use Rattle.run_model.specs.Cores.{Cores, Met, Outline, Choice, entries_of, stamped, is_fenced, return_by, does, make, outlines, first_cores}
use Rattle.run_model.specs.Counts.{counts}
use Rattle.run_model.specs.Runs.{Model, Told, choices, entries, events_of, first_model, order, outline_of, run_after, run_tells, turned}
use Rattle.run_model.specs.Schedule.{kinds_of}
use Rattle.run_model.specs.Script.{core_no}
use Rattle.run_model.specs.Sorts.{how_many, is_retry, is_returned, is_spared, is_stop, of_sort}
use Rattle.run_laws.specs.Counted.{is_commit}
use Rattle.run_laws.specs.Rules.{ByTable}
use Rattle.run_laws.proofs.Rows.{does_by}
use Rattle.run_laws.proofs.Summing.{counted}
use Rattle.run_laws.proofs.Turns.{run_outlines}
use Rattle.run_loop.proofs.Joining.{tells_append}
use Rattle.saved_runs.specs.Counting.{FewCounts}

-- entries of the sort stand at most once in a row of the table
record Once (p : What → Bool) : Type 0 where
  free : (w b : ℕ) → p (what.Corrected w b) ≡ false
  fenced : p what.Fenced ≡ false
  lost : (w : ℕ) → how_many p (what.Uncorrectable w ∷ what.Fenced ∷ what.Stop ∷ []) ≤ 1
  failed : (why : Cause) (n : ℕ) → how_many p (what.Fail why n ∷ []) ≤ 1
  retried : (r : ℕ) → how_many p (what.Retry r ∷ []) ≤ 1
  left : how_many p (what.NoSpare ∷ what.Stop ∷ []) ≤ 1
  spared : (k : ℕ) → how_many p (what.Spared (core_no k) ∷ []) ≤ 1
  spare_lost : (w : ℕ) → how_many p (what.Uncorrectable w ∷ what.Stop ∷ []) ≤ 1

le_notes : (p : What → Bool) → Once p → (notes : List Note) (ws : List What) → how_many p ws ≤ 1
    → how_many p (entries_of notes ++ ws) ≤ 1
le_notes p o [] ws le = le
le_notes p o (n ∷ ns) ws le =
    subst (λ b. (if b then 1 else 0) + how_many p (entries_of ns ++ ws) ≤ 1)
    (sym (o.free n.word n.bit)) (let h = le_notes p o ns ws le in omega (arith, h))

le_none : (p : What → Bool) → Once p → (notes : List Note) → how_many p (entries_of notes) ≤ 1
le_none p o [] = omega arith
le_none p o (n ∷ ns) =
    subst (λ b. (if b then 1 else 0) + how_many p (entries_of ns) ≤ 1)
    (sym (o.free n.word n.bit)) (let h = le_none p o ns in omega (arith, h))

le_fenced : (p : What → Bool) → Once p → (ws : List What) → how_many p ws ≤ 1
    → how_many p (what.Fenced ∷ ws) ≤ 1
le_fenced p o ws le =
    subst (λ b. (if b then 1 else 0) + how_many p ws ≤ 1) (sym o.fenced) (omega (arith, le))

few_does : (p : What → Bool) → Once p → (t : ℕ) (s : Cores) (i : ℕ) (x : Met)
    → how_many p (does t s i x).whats ≤ 1
few_does p o t s i x = does_by t s i x (λ d. how_many p d.whats ≤ 1) (record {
  gone = λ m. omega arith;
  waits = λ m w. omega arith;
  commits = λ m w notes. le_none p o notes;
  fails = λ m notes why n. le_notes p o notes _ (o.failed why n);
  scrub_lost = λ m notes w. le_notes p o notes _ (o.lost w);
  retries = λ m lt notes. le_notes p o notes _ (o.retried (s.retries i + 1));
  retry_lost = λ m lt notes w. le_notes p o notes _ (o.lost w);
  none_left = λ m le is. le_fenced p o (what.NoSpare ∷ what.Stop ∷ []) o.left;
  transfers = λ m le k is notes. le_fenced p o _ (le_notes p o notes _ (o.spared k));
  transfer_lost = λ m le k is notes w. le_fenced p o _ (le_notes p o notes _ (o.spare_lost w));
})

few_stamped : (p : What → Bool) (t i k : ℕ) (ws : List What)
    → how_many (of_sort p) (stamped t i k ws) ≡ how_many p ws
few_stamped p t i k [] = refl
few_stamped p t i k (w ∷ ws) = ap (λ z. (if p w then 1 else 0) + z) (few_stamped p t i k ws)

at_most_one : (b : Bool) → (if b then 1 else 0) + 0 ≤ 1
at_most_one true = omega arith
at_most_one false = omega arith

few_return : (p : What → Bool) (s : Cores) (k : ℕ) (b : Bool)
    → how_many (of_sort p) (return_by s k b).outline.entries ≤ 1
few_return p s k true = at_most_one (p what.Returned)
few_return p s k false = omega arith

few_make : (p : What → Bool) → Once p → (c : Config) (s : Cores) (k : RunKind) (x : Met)
    → how_many (of_sort p) (make c s k x).outline.entries ≤ 1
few_make p o c s (kind.Turns i) x =
    let e = few_stamped p (s.turns + 1) i.0 (s.core i.0) (does c.threshold s i.0 x).whats in
    let h = few_does p o c.threshold s i.0 x in
    omega (arith, e, h)
few_make p o c s (kind.Key i) x = omega arith
few_make p o c s (kind.Return k) x = few_return p s k.0 (is_fenced c s k.0)

-- ---- of the turns of a run

how_many_append : {A : Type 0} (p : A → Bool) (xs ys : List A)
    → how_many p (xs ++ ys) ≡ how_many p xs + how_many p ys
how_many_append p [] ys = omega arith
how_many_append p (x ∷ xs) ys = let rest = how_many_append p xs ys in omega (arith, rest)

head_same : (o p : Outline) (os ps : List Outline) → (o ∷ os) ≡ (p ∷ ps) → o ≡ p
head_same o p os ps e = cc

tail_same : (o p : Outline) (os ps : List Outline) → (o ∷ os) ≡ (p ∷ ps) → os ≡ ps
tail_same o p os ps e = cc

few_entries : (p : What → Bool) → Once p → (c : Config) (s : Cores) (xs : List Choice)
    (ts : List Told) → map outline_of ts ≡ outlines c s xs
    → how_many (of_sort p) (entries ts) ≤ length ts
few_entries p o c s xs [] e = omega arith
few_entries p o c s [] (t ∷ ts) e = absurd (cc e)
few_entries p o c s (x ∷ xs) (t ∷ ts) e =
    let m = make c s x.kind x.met in
    let one : outline_of t ≡ m.outline =
    head_same (outline_of t) m.outline (map outline_of ts) (outlines c m.after xs) e in
    let more : map outline_of ts ≡ outlines c m.after xs =
    tail_same (outline_of t) m.outline (map outline_of ts) (outlines c m.after xs) e in
    let here : how_many (of_sort p) t.entries ≤ 1 =
    subst (λ (q : Outline). how_many (of_sort p) q.entries ≤ 1) (sym one)
    (few_make p o c s x.kind x.met) in
    let rest = few_entries p o c m.after xs ts more in
    let both = how_many_append (of_sort p) t.entries (entries ts) in
    omega (arith, here, rest, both)

one_event : (e : Option Event) → how_many is_commit (events_of e) ≤ 1
one_event None = omega arith
one_event (Some (Commit i)) = omega arith
one_event (Some (Idle i)) = omega arith
one_event (Some (Stop i)) = omega arith
one_event (Some (Key i)) = omega arith

few_commits : (ts : List Told) → how_many is_commit (order ts) ≤ length ts
few_commits [] = omega arith
few_commits (t ∷ ts) =
    let one = one_event t.event in
    let rest = few_commits ts in
    let both = how_many_append is_commit (events_of t.event) (order ts) in
    omega (arith, one, rest, both)

-- ---- each sort

once_retry : Once is_retry
once_retry = record { free = λ w b. refl; fenced = refl; lost = λ w. omega arith; failed = λ why n. omega arith; retried = λ r. omega arith; left = omega arith; spared = λ k. omega arith; spare_lost = λ w. omega arith }

once_spared : Once is_spared
once_spared = record { free = λ w b. refl; fenced = refl; lost = λ w. omega arith; failed = λ why n. omega arith; retried = λ r. omega arith; left = omega arith; spared = λ k. omega arith; spare_lost = λ w. omega arith }

once_stop : Once is_stop
once_stop = record { free = λ w b. refl; fenced = refl; lost = λ w. omega arith; failed = λ why n. omega arith; retried = λ r. omega arith; left = omega arith; spared = λ k. omega arith; spare_lost = λ w. omega arith }

once_returned : Once is_returned
once_returned = record { free = λ w b. refl; fenced = refl; lost = λ w. omega arith; failed = λ why n. omega arith; retried = λ r. omega arith; left = omega arith; spared = λ k. omega arith; spare_lost = λ w. omega arith }

-- turns that some choices make, from any cores on
pub few_told : (c : Config) (s : Cores) (xs : List Choice) (ts : List Told)
    → map outline_of ts ≡ outlines c s xs → FewCounts (counts ts) (length ts)
few_told c s xs ts e =
    let n = counted ts in
    let retries = few_entries is_retry once_retry c s xs ts e in
    let spared = few_entries is_spared once_spared c s xs ts e in
    let stopped = few_entries is_stop once_stop c s xs ts e in
    let returned = few_entries is_returned once_returned c s xs ts e in
    let commits = few_commits ts in
    record {
      turns = n.turns;
      commits = omega (arith, n.commits, commits);
      retries = omega (arith, n.retries, retries);
      spared = omega (arith, n.spared, spared);
      stopped = omega (arith, n.stopped, stopped);
      returned = omega (arith, n.returned, returned);
    }

-- the turns of a run of the definitions
pub few_run : (ls : List Strike) (c : Config) (x : Model) (ks : List RunKind)
    → FewCounts (counts (run_tells ls c x ks)) (length (run_tells ls c x ks))
few_run ls c x ks =
    few_told c x.fate.cores (choices ls c x ks) (run_tells ls c x ks) (run_outlines ls c x ks)

-- turns by the table, whatever they meet
pub few_table : (c : Config) (ks : List RunKind) (ts : List Told) → ByTable c ks ts
    → FewCounts (counts ts) (length ts)
few_table c ks ts b = few_told c (first_cores c) b.choices ts b.tells

-- the first turns of a job
tells_each : (ls : List Strike) (c : Config) (x : Model) (ks : List RunKind)
    → length (run_tells ls c x ks) ≡ length ks
tells_each ls c x [] = refl
tells_each ls c x (k ∷ ks) = ap suc (tells_each ls c (turned ls c x k) ks)

pub tells_front : (ls : List Strike) (c : Config) (x : Model) (ks : List RunKind) (n : ℕ)
    → n ≤ length ks → run_tells ls c x (take n ks) ≡ take n (run_tells ls c x ks)
tells_front ls c x ks n le =
    let split : run_tells ls c x ks
    ≡ run_tells ls c x (take n ks)
    ++ run_tells ls c (run_after ls c x (take n ks)) (drop n ks) =
    ap (λ z. run_tells ls c x z) (sym (take-append-drop n ks))
    ∙ tells_append ls c x (take n ks) (drop n ks) in
    sym (ap (take n) split
    ∙ take_at (run_tells ls c x (take n ks))
    (run_tells ls c (run_after ls c x (take n ks)) (drop n ks)) n
    (tells_each ls c x (take n ks) ∙ length-take-le n ks le))

pub few_job : (c : Config) (j : Job) (n : ℕ) → n ≤ length (kinds_of j.runs)
    → FewCounts (counts (take n (job_tells c j))) n
unfolding job_tells
few_job c j n le =
    let x : Model = first_model c (first_machine c j) in
    let ks : List RunKind = kinds_of j.runs in
    let ts : List Told = run_tells j.strikes c x (take n ks) in
    let long : length ts ≡ n = tells_each j.strikes c x (take n ks) ∙ length-take-le n ks le in
    subst (λ z. FewCounts (counts z) n) (tells_front j.strikes c x ks n le)
    (subst (λ m. FewCounts (counts ts) m) long (few_run j.strikes c x (take n ks)))
