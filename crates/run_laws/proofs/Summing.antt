-- The counts of a run, added up turn by turn, count its turns, commits and log entries.
use Rattle.std.proofs.Common.{◌≡◌, ℕ, ◌+◌, Bool, List, [], ◌∷◌, ◌++◌, Option, Some, None, refl, ap, ◌∙◌, arith, if◌then◌else◌, length}
use Rattle.esa_model.specs.declared.machine.Event.{Event}
use Rattle.esa_model.specs.declared.machine.Event.TheVariants.{Commit}
use Rattle.run_model.specs.declared.logs.Entry.{Entry}
use Rattle.run_model.specs.declared.logs.What.{What}
use Rattle.run_model.specs.declared.logs.What.TheVariants as what
use Rattle.run_model.specs.declared.outputs.Counts.{Counts}
use Rattle.run_model.specs.Counts.{commits_by, commits_after, count_what, count_entries, count_turn, count_turns, counts, none_made}
use Rattle.run_model.specs.Runs.{Told, entries, events_of, order}
use Rattle.run_model.specs.Sorts.{how_many, of_sort, is_fail, is_retry, is_corrected, is_spared, is_stop, is_returned}
use Rattle.run_laws.specs.Counted.{is_commit, Counted}

-- ---- one sort of entries, whatever it is

-- a count that one entry raises exactly where it is of the sort
abbrev pub Raises : (Counts → ℕ) → (What → Bool) → Type 0
Raises f sort = (n : Counts) (w : What) → f (count_what n w) ≡ f n + (if sort w then 1 else 0)

-- and that turns and commits leave
abbrev pub Stays : (Counts → ℕ) → Type 0
Stays f = (n : Counts) (t c : ℕ) → f (record n { turns = t; commits = c }) ≡ f n

over_entries : (f : Counts → ℕ) (sort : What → Bool) → Raises f sort
    → (n : Counts) (es : List Entry) → f (count_entries n es) ≡ f n + how_many (of_sort sort) es
over_entries f sort r n [] = omega arith
over_entries f sort r n (e ∷ es) = let rest = over_entries f sort r (count_what n e.what) es in
    let one = r n e.what in omega (arith, rest, one)

how_many_append : {A : Type 0} (p : A → Bool) (xs ys : List A)
    → how_many p (xs ++ ys) ≡ how_many p xs + how_many p ys
how_many_append p [] ys = omega arith
how_many_append p (x ∷ xs) ys = let rest = how_many_append p xs ys in omega (arith, rest)

over_turns : (f : Counts → ℕ) (sort : What → Bool) → Raises f sort → Stays f
    → (n : Counts) (ts : List Told)
    → f (count_turns n ts) ≡ f n + how_many (of_sort sort) (entries ts)
over_turns f sort r s n [] = omega arith
over_turns f sort r s n (t ∷ ts) =
    let m : Counts = record n { turns = n.turns + 1; commits = commits_by t.event n.commits } in
    let rest = over_turns f sort r s (count_turn n t) ts in
    let one = over_entries f sort r m t.entries in
    let same = s n (n.turns + 1) (commits_by t.event n.commits) in
    let both = how_many_append (of_sort sort) t.entries (entries ts) in
    omega (arith, rest, one, same, both)

-- ---- each sort
none_more : (n : ℕ) → n ≡ n + 0
none_more n = omega arith

raises_fails : Raises (λ n. n.fails) is_fail
raises_fails n (what.Fail why at) = refl
raises_fails n _ = none_more n.fails

raises_retries : Raises (λ n. n.retries) is_retry
raises_retries n (what.Retry r) = refl
raises_retries n _ = none_more n.retries

raises_corrected : Raises (λ n. n.corrected) is_corrected
raises_corrected n (what.Corrected w b) = refl
raises_corrected n _ = none_more n.corrected

raises_spared : Raises (λ n. n.spared) is_spared
raises_spared n (what.Spared k) = refl
raises_spared n _ = none_more n.spared

raises_stopped : Raises (λ n. n.stopped) is_stop
raises_stopped n what.Stop = refl
raises_stopped n _ = none_more n.stopped

raises_returned : Raises (λ n. n.returned) is_returned
raises_returned n what.Returned = refl
raises_returned n _ = none_more n.returned

-- ---- turns and commits
turns_what : (n : Counts) (w : What) → (count_what n w).turns ≡ n.turns
turns_what n (what.Fail why at) = refl
turns_what n _ = refl

turns_entries : (n : Counts) (es : List Entry) → (count_entries n es).turns ≡ n.turns
turns_entries n [] = refl
turns_entries n (e ∷ es) = turns_entries (count_what n e.what) es ∙ turns_what n e.what

turns_counted : (n : Counts) (ts : List Told) → (count_turns n ts).turns ≡ n.turns + length ts
turns_counted n [] = omega arith
turns_counted n (t ∷ ts) =
    let rest = turns_counted (count_turn n t) ts in
    let one =
    turns_entries
    (record n { turns = n.turns + 1; commits = commits_by t.event n.commits })
    t.entries in
    omega (arith, rest, one)

commits_what : (n : Counts) (w : What) → (count_what n w).commits ≡ n.commits
commits_what n (what.Fail why at) = refl
commits_what n _ = refl

commits_entries : (n : Counts) (es : List Entry) → (count_entries n es).commits ≡ n.commits
commits_entries n [] = refl
commits_entries n (e ∷ es) = commits_entries (count_what n e.what) es ∙ commits_what n e.what

pub commits_counted : (n : Counts) (ts : List Told)
    → (count_turns n ts).commits ≡ commits_after n.commits ts
commits_counted n [] = refl
commits_counted n (t ∷ ts) = commits_counted (count_turn n t) ts
    ∙ ap (λ k. commits_after k ts)
    (commits_entries
    (record n { turns = n.turns + 1; commits = commits_by t.event n.commits }) t.entries)

one_commit : (e : Event) (n : ℕ) → commits_by (Some e) n ≡ n + (if is_commit e then 1 else 0)
one_commit (Commit i) n = refl
one_commit _ n = none_more n

commits_event : (o : Option Event) (n : ℕ) (es : List Event)
    → commits_by o n + how_many is_commit es ≡ n + how_many is_commit (events_of o ++ es)
commits_event None n es = refl
commits_event (Some e) n es = let one = one_commit e n in omega (arith, one)

commits_are : (n : ℕ) (ts : List Told) → commits_after n ts ≡ n + how_many is_commit (order ts)
commits_are n [] = omega arith
commits_are n (t ∷ ts) = commits_are (commits_by t.event n) ts
    ∙ commits_event t.event n (order ts)

from_none : (m n : ℕ) → m ≡ 0 + n → m ≡ n
from_none m n e = omega (arith, e)

pub counted : (ts : List Told) → Counted ts (counts ts)
counted ts = record {
  turns = from_none _ _ (turns_counted none_made ts);
  commits = from_none _ _ (commits_counted none_made ts ∙ commits_are 0 ts);
  fails = from_none _ _
      (over_turns (λ n. n.fails) is_fail raises_fails (λ n t c. refl) none_made ts);
  retries =
      from_none _ _
      (over_turns (λ n. n.retries) is_retry raises_retries (λ n t c. refl) none_made ts);
  corrected =
      from_none _ _
      (over_turns (λ n. n.corrected) is_corrected raises_corrected
      (λ n t c. refl) none_made ts);
  spared =
      from_none _ _
      (over_turns (λ n. n.spared) is_spared raises_spared (λ n t c. refl) none_made ts);
  stopped =
      from_none _ _
      (over_turns (λ n. n.stopped) is_stop raises_stopped (λ n t c. refl) none_made ts);
  returned =
      from_none _ _
      (over_turns (λ n. n.returned) is_returned raises_returned (λ n t c. refl) none_made ts);
}
