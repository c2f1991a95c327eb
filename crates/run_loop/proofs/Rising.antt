-- Counts rise by at most one at a log entry and at a turn.
use Rattle.std.proofs.Common.{◌≡◌, ℕ, ◌+◌, ◌<◌, ◌≤◌, List, length, drop, drop_of_length-le, arith, refl, sym, ap, ◌∙◌, get_or}
use Rattle.std.specs.Prelude.{Option, Some, None}
use Rattle.std.proofs.lemmas.List.{drop_more}
use Rattle.esa_model.specs.declared.machine.Event.{Event}
use Rattle.esa_model.specs.declared.machine.Event.TheVariants.{Commit, Idle, Stop, Key}
use Rattle.run_model.specs.declared.logs.Entry.{Entry}
use Rattle.run_model.specs.declared.logs.What.{What}
use Rattle.run_model.specs.declared.logs.What.TheVariants as what
use Rattle.run_model.specs.declared.outputs.Counts.{Counts}
use Rattle.run_model.specs.Counts.{commits_by, count_what, count_entries}
use Rattle.run_loop.specs.Bounds.{Below}

pub below_more : (most more : ℕ) (n : Counts) → most ≤ more → Below most n → Below more n
below_more most more n le b = record {
  turns = omega (arith, b.turns, le);
  commits = omega (arith, b.commits, le);
  fails = omega (arith, b.fails, le);
  retries = omega (arith, b.retries, le);
  corrected = omega (arith, b.corrected, le);
  spared = omega (arith, b.spared, le);
  stopped = omega (arith, b.stopped, le);
  returned = omega (arith, b.returned, le);
}

above : (most : ℕ) (n : Counts) → Below most n → Below (most + 1) n
above most n b = below_more most (most + 1) n (omega arith) b

pub below_what : (most : ℕ) (n : Counts) (w : What) → Below most n
    → Below (most + 1) (count_what n w)
below_what most n (what.Fail why at) b =
    let m = above most n b in
    record { turns = m.turns; commits = m.commits; fails = omega (arith, b.fails); retries = m.retries; corrected = m.corrected; spared = m.spared; stopped = m.stopped; returned = m.returned }
below_what most n (what.Retry r) b =
    let m = above most n b in
    record { turns = m.turns; commits = m.commits; fails = m.fails; retries = omega (arith, b.retries); corrected = m.corrected; spared = m.spared; stopped = m.stopped; returned = m.returned }
below_what most n (what.Corrected w k) b =
    let m = above most n b in
    record { turns = m.turns; commits = m.commits; fails = m.fails; retries = m.retries; corrected = omega (arith, b.corrected); spared = m.spared; stopped = m.stopped; returned = m.returned }
below_what most n (what.Uncorrectable w) b = above most n b
below_what most n what.Fenced b = above most n b
below_what most n (what.Spared k) b =
    let m = above most n b in
    record { turns = m.turns; commits = m.commits; fails = m.fails; retries = m.retries; corrected = m.corrected; spared = omega (arith, b.spared); stopped = m.stopped; returned = m.returned }
below_what most n what.NoSpare b = above most n b
below_what most n what.Stop b =
    let m = above most n b in
    record { turns = m.turns; commits = m.commits; fails = m.fails; retries = m.retries; corrected = m.corrected; spared = m.spared; stopped = omega (arith, b.stopped); returned = m.returned }
below_what most n what.Returned b =
    let m = above most n b in
    record { turns = m.turns; commits = m.commits; fails = m.fails; retries = m.retries; corrected = m.corrected; spared = m.spared; stopped = m.stopped; returned = omega (arith, b.returned) }

pub commits_rise : (e : Option Event) (n : ℕ) → commits_by e n ≤ n + 1
commits_rise None n = omega arith
commits_rise (Some (Commit i)) n = omega arith
commits_rise (Some (Idle i)) n = omega arith
commits_rise (Some (Stop i)) n = omega arith
commits_rise (Some (Key i)) n = omega arith

pub below_turn : (most : ℕ) (n : Counts) (e : Option Event) → Below most n
    → Below (most + 1) (record n { turns = n.turns + 1; commits = commits_by e n.commits })
below_turn most n e b =
    let m = above most n b in
    let c = commits_rise e n.commits in
    record { turns = omega (arith, b.turns); commits = omega (arith, b.commits, c); fails = m.fails; retries = m.retries; corrected = m.corrected; spared = m.spared; stopped = m.stopped; returned = m.returned }

-- ---- a loop that counts entries

pub record Counting (start : Counts) (es : List Entry) (i : ℕ) (sum : Counts) : Type 0 where
  pub counts : count_entries sum (drop i es) ≡ count_entries start es
  pub small : (most : ℕ) → Below most start → Below (most + i) sum

pub counting_start : (start : Counts) (es : List Entry) → Counting start es 0 start
counting_start start es = record {
  counts = refl;
  small = λ most b. below_more most (most + 0) start (omega arith) b;
}

pub counting_next : (start : Counts) (es : List Entry) (i : ℕ) (d : Entry) (sum next : Counts)
    → i < length es → Counting start es i sum → next ≡ count_what sum (get_or es i d).what
    → ((most : ℕ) → Below most sum → Below (most + 1) next) → Counting start es (i + 1) next
counting_next start es i d sum next lt so e small = record {
  counts = ap (λ n. count_entries n (drop (i + 1) es)) e
      ∙ sym (ap (λ xs. count_entries sum xs) (drop_more es i d lt)) ∙ so.counts;
  small = λ most b. below_more (most + i + 1) (most + (i + 1)) next (omega arith)
      (small (most + i) (so.small most b));
}

pub counting_end : (start : Counts) (es : List Entry) (i : ℕ) (sum : Counts) → length es ≤ i
    → Counting start es i sum → sum ≡ count_entries start es
counting_end start es i sum le so =
    sym (ap (λ xs. count_entries sum xs) (drop_of_length-le es le)) ∙ so.counts
