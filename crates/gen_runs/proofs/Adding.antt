-- Turns that are made one after another and counted.
use Rattle.std.proofs.Common.{◌≡◌, ℕ, ◌+◌, ◌*◌, ◌^◌, ◌<◌, ◌≤◌, List, [], ◌∷◌, ◌++◌, length, take, get_or, refl, sym, ap, ◌∙◌, subst, arith, length-append, append-nil}
use Rattle.std.specs.Prelude.{replicate}
use Rattle.std.specs.List.{All, flat_map}
use Rattle.std.proofs.lemmas.Grind.{flat_map-append}
use Rattle.std.proofs.lemmas.List.{take_all, take_more, length-replicate, replicate-append-replicate}
use Rattle.std.proofs.lemmas.List.Elements.{All-get_or}
use Rattle.std.proofs.lemmas.List.Sums.{sum_by_more_le, sum_by-take-le}
use Rattle.g5_writing.proofs.Putting.{text-append}
use Rattle.run_model.specs.declared.logs.Entry.{Entry}
use Rattle.run_model.specs.declared.outputs.Counts.{Counts}
use Rattle.run_model.specs.declared.outputs.Place.TheVariants.{Trace}
use Rattle.run_model.specs.declared.schedules.Run.{Run}
use Rattle.run_model.specs.declared.schedules.RunKind.{RunKind}
use Rattle.run_model.specs.Counts.{commits_after, commits_by, count_turn, count_turns, none_made}
use Rattle.run_model.specs.Pieces.{Piece, text}
use Rattle.run_model.specs.Runs.{Told}
use Rattle.run_model.specs.Schedule.{Fits, kinds_of, turns_of}
use Rattle.run_model.specs.Texts.{commit_pieces, entry_pieces, turn_pieces, turns_pieces}
use Rattle.run_laws.proofs.Summing.{commits_counted}
use Rattle.run_loop.specs.Bounds.{Below}
use Rattle.run_loop.specs.Engines.{EngineView}
use Rattle.run_loop.specs.Making.{Tells}
use Rattle.run_loop.proofs.Joining.{counts_append, pieces_append}
use Rattle.run_loop.proofs.Rising.{below_more, commits_rise}
use Rattle.run_loop.proofs.Runs.{fits_now, kinds_length}
use Rattle.run_loop.proofs.Telling.{tells_none, tells_then}
use Rattle.gen_runs.specs.Counted.{IsTally, RisesBy, Tallies, nothing_counted}
use Rattle.gen_runs.specs.declared.tallies.Tally.{Tally}

-- ---- one turn

no_trace : (es : List Entry) → text Trace (entry_pieces es) ≡ []
no_trace [] = refl
no_trace (e ∷ es) = no_trace es

-- a turn's trace is that of its event
pub trace_of_turn : (n : ℕ) (t : Told)
    → text Trace (turn_pieces n t) ≡ text Trace (commit_pieces n t t.event)
unfolding turn_pieces
trace_of_turn n t =
    text-append Trace (entry_pieces t.entries) (commit_pieces n t t.event)
    ∙ ap (λ z. z ++ text Trace (commit_pieces n t t.event)) (no_trace t.entries)

-- what it adds to a tally
pub rises_one : (before after : Tally) (t : Told) (n : ℕ)
    → after.counts ≡ count_turn before.counts t
    → ((most : ℕ) → Below most before.counts → Below (most + 45) after.counts)
    → after.trace ≡ before.trace + n → n ≤ 2048 → RisesBy 1 before after
rises_one before after t n counted small traced le =
    let one : after.counts.commits ≡ commits_by t.event before.counts.commits
    = ap (λ (k : Counts). k.commits) counted ∙ commits_counted before.counts (t ∷ []) in
    let most = commits_rise t.event before.counts.commits in
    record {
      counts = λ m b. below_more (m + 45) (m + 45 * 1) after.counts (omega arith) (small m b);
      commits = omega (arith, one, most);
      trace = omega (arith, traced, le);
    }

pub one_tallied : (k : RunKind) (t : Told) (before after : Tally) (old new : EngineView)
    → Tells (k ∷ []) (t ∷ []) old new → new.ready
    → after.counts ≡ count_turn before.counts t
    → after.trace ≡ before.trace + length (text Trace (turn_pieces before.counts.commits t))
    → RisesBy 1 before after → Tallies (k ∷ []) before after old new
one_tallied k t before after old new tells ready counted traced rises =
    let n : ℕ = before.counts.commits in
    let same : length (text Trace (turn_pieces n t ++ [])) ≡ length (text Trace (turn_pieces n t))
    = ap (λ ps. length (text Trace ps)) (append-nil (turn_pieces n t)) in
    record {
      told = t ∷ [];
      tells = tells;
      counted = counted;
      traced = omega (arith, traced, same);
      rises = rises;
      ready = ready;
    }

-- ---- no turn, and turns after turns

pub none_tallied : (start : Tally) (old : EngineView) → old.ready → Tallies [] start start old old
none_tallied start old ready = record {
  told = [];
  tells = tells_none old;
  counted = refl;
  traced = omega arith;
  rises = record {
    counts = λ most b. below_more most (most + 45 * 0) start.counts (omega arith) b;
    commits = omega arith;
    trace = omega arith;
  };
  ready = ready;
}

rises_then : (n m k : ℕ) (start mid sum : Tally) → k ≡ n + m → RisesBy n start mid
    → RisesBy m mid sum → RisesBy k start sum
rises_then n m k start mid sum e a b = record {
  counts = λ most h.
      below_more (most + 45 * n + 45 * m) (most + 45 * k) sum.counts (omega (arith, e))
      (b.counts (most + 45 * n) (a.counts most h));
  commits = omega (arith, e, a.commits, b.commits);
  trace = omega (arith, e, a.trace, b.trace);
}

-- the trace of turns after turns
trace_then : (n m : ℕ) (ts us : List Told) → m ≡ commits_after n ts
    → length (text Trace (turns_pieces n (ts ++ us)))
    ≡ length (text Trace (turns_pieces n ts)) + length (text Trace (turns_pieces m us))
trace_then n m ts us e =
    let front : List Piece = turns_pieces n ts in
    ap (λ ps. length (text Trace ps)) (pieces_append n ts us)
    ∙ ap length (text-append Trace front (turns_pieces (commits_after n ts) us))
    ∙ length-append (text Trace front) (text Trace (turns_pieces (commits_after n ts) us))
    ∙ ap (λ k. length (text Trace front) + length (text Trace (turns_pieces k us))) (sym e)

pub tallied_then : (ks js : List RunKind) (start mid sum : Tally) (old now new : EngineView)
    → Tallies ks start mid old now → Tallies js mid sum now new
    → Tallies (ks ++ js) start sum old new
tallied_then ks js start mid sum old now new a b =
    let number : mid.counts.commits ≡ commits_after start.counts.commits a.told
    = ap (λ (k : Counts). k.commits) a.counted ∙ commits_counted start.counts a.told in
    let long = trace_then start.counts.commits mid.counts.commits a.told b.told number in
    record {
      told = a.told ++ b.told;
      tells = tells_then ks js a.told b.told old now new a.tells b.tells;
      counted = b.counted ∙ ap (λ k. count_turns k b.told) a.counted
          ∙ sym (counts_append start.counts a.told b.told);
      traced = omega (arith, a.traced, b.traced, long);
      rises = rises_then (length ks) (length js) (length (ks ++ js)) start mid sum
          (length-append ks js) a.rises b.rises;
      ready = b.ready;
    }

-- ---- the turns of a run

pub turn_more : (k : RunKind) (i : ℕ) (start mid sum : Tally) (old now new : EngineView)
    → Tallies (replicate i k) start mid old now → Tallies (k ∷ []) mid sum now new
    → Tallies (replicate (i + 1) k) start sum old new
turn_more k i start mid sum old now new a b =
    subst (λ ks. Tallies ks start sum old new) (replicate-append-replicate i 1 k)
    (tallied_then (replicate i k) (k ∷ []) start mid sum old now new a b)

-- what is so before its next turn
pub record IsBetween (count : ℕ) (sum : Tally) (now : EngineView) : Type 0 where
  pub room : now.turns < 2 ^ 47
  pub below : Below (2 ^ 62) sum.counts
  pub commits : sum.counts.commits < 1000000
  pub trace : sum.trace < 2 ^ 62

pub between_turns : (k : RunKind) (count i : ℕ) (start sum : Tally) (old now : EngineView)
    → i < count → old.turns + count ≤ 2 ^ 47 → Below (2 ^ 61) start.counts
    → start.counts.commits + count ≤ 1000000 → start.trace < 2 ^ 61
    → Tallies (replicate i k) start sum old now → IsBetween count sum now
between_turns k count i start sum old now lt room below commits trace so =
    let long = length-replicate i k in
    record {
      room = omega (arith, lt, room, long, so.tells.turns);
      below = below_more (2 ^ 61 + 45 * length (replicate i k)) (2 ^ 62) sum.counts
          (omega (arith, lt, commits, long)) (so.rises.counts (2 ^ 61) below);
      commits = omega (arith, lt, commits, long, so.rises.commits);
      trace = omega (arith, lt, commits, long, trace, so.rises.trace);
    }

pub all_turns : (k : RunKind) (count i : ℕ) (start sum : Tally) (old now : EngineView)
    → i ≡ count → Tallies (replicate i k) start sum old now
    → Tallies (replicate count k) start sum old now
all_turns k count i start sum old now e so =
    subst (λ n. Tallies (replicate n k) start sum old now) e so

-- ---- the runs of a schedule

kinds_more : (rs : List Run) (i : ℕ) (d : Run) → i < length rs
    → kinds_of (take (i + 1) rs)
    ≡ kinds_of (take i rs) ++ replicate (get_or rs i d).count (get_or rs i d).what
unfolding kinds_of
kinds_more rs i d lt =
    let turns_in = λ (r : Run). replicate r.count r.what in
    ap (λ z. flat_map turns_in z) (take_more rs i d lt)
    ∙ flat_map-append turns_in (take i rs) (get_or rs i d ∷ [])
    ∙ ap (λ z. flat_map turns_in (take i rs) ++ z) (append-nil (turns_in (get_or rs i d)))

pub run_more : (rs : List Run) (i : ℕ) (d : Run) (start mid sum : Tally)
    (old now new : EngineView) → i < length rs
    → Tallies (kinds_of (take i rs)) start mid old now
    → Tallies (replicate (get_or rs i d).count (get_or rs i d).what) mid sum now new
    → Tallies (kinds_of (take (i + 1) rs)) start sum old new
run_more rs i d start mid sum old now new lt a b =
    let r : Run = get_or rs i d in
    subst (λ ks. Tallies ks start sum old new) (sym (kinds_more rs i d lt))
    (tallied_then (kinds_of (take i rs)) (replicate r.count r.what) start mid sum old now new a b)

pub first_runs : (rs : List Run) (sum : Tally) (old : EngineView) → sum ≡ nothing_counted
    → old.ready → Tallies (kinds_of (take 0 rs)) nothing_counted sum old old
unfolding kinds_of
first_runs rs sum old e ready =
    subst (λ t. Tallies [] nothing_counted t old old) (sym e) (none_tallied nothing_counted old ready)

below_none : Below 0 none_made
below_none = record {
  turns = omega arith;
  commits = omega arith;
  fails = omega arith;
  retries = omega arith;
  corrected = omega arith;
  spared = omega arith;
  stopped = omega arith;
  returned = omega arith;
}

-- what is so before the next run
pub record IsBefore (run : Run) (sum : Tally) (now : EngineView) : Type 0 where
  pub fits : Fits now.config.cpus run.what
  pub room : now.turns + run.count ≤ 2 ^ 47
  pub commits : sum.counts.commits + run.count ≤ 1000000

pub between_runs : (rs : List Run) (i : ℕ) (d : Run) (sum : Tally) (old now : EngineView)
    → i < length rs → All (λ (r : Run). Fits old.config.cpus r.what) rs
    → old.turns + turns_of rs ≤ 2 ^ 47 → turns_of rs ≤ 1000000
    → Tallies (kinds_of (take i rs)) nothing_counted sum old now → IsBefore (get_or rs i d) sum now
between_runs rs i d sum old now lt fits room few so =
    let long : length (kinds_of (take i rs)) ≡ turns_of (take i rs) = kinds_length (take i rs) in
    let more : turns_of (take i rs) + (get_or rs i d).count ≤ turns_of rs
    = sum_by_more_le (λ (r : Run). r.count) rs i d lt in
    record {
      fits = fits_now (get_or rs i d).what old.config now.config so.tells.kept.config
          (All-get_or (λ (r : Run). Fits old.config.cpus r.what) rs i d lt fits);
      room = omega (arith, room, long, more, so.tells.turns);
      commits = omega (arith, few, long, more, so.rises.commits);
    }

-- what is counted is small
pub record IsSmall (sum : Tally) : Type 0 where
  pub below : Below (2 ^ 61) sum.counts
  pub trace : sum.trace < 2 ^ 61

pub small_runs : (rs : List Run) (i : ℕ) (sum : Tally) (old now : EngineView)
    → turns_of rs ≤ 1000000 → Tallies (kinds_of (take i rs)) nothing_counted sum old now
    → IsSmall sum
small_runs rs i sum old now few so =
    let long : length (kinds_of (take i rs)) ≡ turns_of (take i rs) = kinds_length (take i rs) in
    let front : turns_of (take i rs) ≤ turns_of rs = sum_by-take-le (λ (r : Run). r.count) rs i in
    record {
      below = below_more (0 + 45 * length (kinds_of (take i rs))) (2 ^ 61) sum.counts
          (omega (arith, few, long, front)) (so.rises.counts 0 below_none);
      trace = omega (arith, few, long, front, so.rises.trace);
    }

pub all_runs : (rs : List Run) (i : ℕ) (sum : Tally) (old now : EngineView) → length rs ≤ i
    → Tallies (kinds_of (take i rs)) nothing_counted sum old now
    → IsTally (kinds_of rs) sum old now
all_runs rs i sum old now le so =
    let all : kinds_of (take i rs) ≡ kinds_of rs = ap kinds_of (take_all i rs le) in
    record {
      told = so.told;
      tells = subst (λ ks. Tells ks so.told old now) all so.tells;
      counted = so.counted;
      traced = omega (arith, so.traced);
    }
