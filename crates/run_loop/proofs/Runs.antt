-- The turns of a run, and the runs of a schedule: how many they are, and where the next ones stand.
use Rattle.std.proofs.Common.{◌≡◌, ℕ, zero, suc, ◌+◌, ◌-◌, ◌*◌, ◌^◌, ◌<◌, ◌≤◌, List, [], ◌∷◌, ◌++◌, length, take, drop, get_or, refl, sym, ap, ◌∙◌, subst, arith, length-append, append-nil, Ok, Err}
use Rattle.std.specs.Prelude.{replicate}
use Rattle.std.specs.List.{flat_map, All}
use Rattle.std.proofs.Math.Seq.{split_at}
use Rattle.std.proofs.lemmas.Grind.{flat_map-append}
use Rattle.std.proofs.lemmas.List.{take_all, take_more, length-replicate}
use Rattle.std.proofs.lemmas.List.Elements.{All-get_or}
use Rattle.std.proofs.lemmas.List.Sums.{sum_by-cons, sum_by_more, sum_by_more_le, sum_by-take-le}
use Rattle.g5_outside.specs.Views.{ShelfView, SinkView}
use Rattle.g5_writing.specs.declared.outputs.OutputFiles.{OutputFiles}
use Rattle.run_model.specs.declared.logs.Config.{Config}
use Rattle.run_model.specs.declared.outputs.Counts.{Counts}
use Rattle.run_model.specs.declared.schedules.Run.{Run}
use Rattle.run_model.specs.declared.schedules.RunKind.{RunKind}
use Rattle.run_model.specs.Schedule.{Fits, kinds_of, turns_of}
use Rattle.run_loop.specs.Engines.{EngineView}
use Rattle.run_loop.specs.Making.{MakesTurn, MakesFrom}
use Rattle.run_loop.specs.Bounds.{Below}
use Rattle.run_loop.proofs.Rising.{below_more}
use Rattle.run_loop.proofs.Going.{Going, going_start, going_on, going_failed, going_done, going_commits, one_made}

-- ---- the loop over the turns of a run

replicate_split : (m n : ℕ) (k : RunKind)
    → replicate (m + n) k ≡ replicate m k ++ replicate n k
replicate_split zero n k = let e : 0 + n ≡ n = omega arith in ap (λ q. replicate q k) e
replicate_split (suc m) n k =
    let e : suc m + n ≡ suc (m + n) = omega arith in
    ap (λ q. replicate q k) e ∙ ap (λ z. k ∷ z) (replicate_split m n k)

pub record Turning (files : OutputFiles) (k : RunKind) (count i : ℕ) (start sum : Counts)
    (old now : EngineView) (a b : ShelfView) (o p : SinkView) : Type 0 where
  pub going : Going files (replicate i k) start sum old now a b o p
  pub ready : now.ready
  pub small : (most : ℕ) → Below most start → Below (most + 45 * i) sum
  pub inside : i ≤ count

pub turning_start : (files : OutputFiles) (k : RunKind) (count : ℕ) (start : Counts)
    (old : EngineView) (a : ShelfView) (o : SinkView) → old.ready
    → Turning files k count 0 start start old old a a o o
turning_start files k count start old a o ready = record {
  going = going_start files start old a o;
  ready = ready;
  small = λ most b. below_more most (most + 45 * 0) start (omega arith) b;
  inside = omega arith;
}

pub turning_next : {E : Type 0} (files : OutputFiles) (k : RunKind) (count i : ℕ)
    (start sum after : Counts) (old now new : EngineView) (a b c : ShelfView) (o p q : SinkView)
    → i < count → Turning files k count i start sum old now a b o p → new.ready
    → ((most : ℕ) → Below most sum → Below (most + 45) after)
    → MakesTurn {E = E} files k sum now new b c p q (Ok after)
    → Turning files k count (i + 1) start after old new a c o q
turning_next {E} files k count i start sum after old now new a b c o p q lt so ready small h =
    record {
      going = subst (λ ks. Going files ks start after old new a c o q)
          (sym (replicate_split i 1 k))
          (going_on {E = E} files (replicate i k) (k ∷ []) start sum after old now new a b c o p q so.going (one_made files k sum now new b c p q (Ok after) h));
      ready = ready;
      small = λ most bl. below_more (most + 45 * i + 45) (most + 45 * (i + 1)) after (omega arith)
          (small (most + 45 * i) (so.small most bl));
      inside = omega (arith, lt);
    }

pub turning_failed : {E : Type 0} (files : OutputFiles) (k : RunKind) (count i : ℕ)
    (start sum : Counts) (old now new : EngineView) (a b c : ShelfView) (o p q : SinkView) (f : E)
    → i < count → Turning files k count i start sum old now a b o p
    → MakesTurn files k sum now new b c p q (Err f)
    → MakesFrom files start (replicate count k) old new a c o q (Err f)
turning_failed files k count i start sum old now new a b c o p q f lt so h =
    let r : ℕ = count - (i + 1) in
    let split : i + suc r ≡ count = omega (arith, lt) in
    let kinds : replicate i k ++ ((k ∷ []) ++ replicate r k) ≡ replicate count k =
    sym (replicate_split i (suc r) k) ∙ ap (λ n. replicate n k) split in
    subst (λ ks. MakesFrom files start ks old new a c o q (Err f)) kinds
    (going_failed files (replicate i k) (k ∷ []) (replicate r k) start sum old now new a b c o p q f so.going (one_made files k sum now new b c p q (Err f) h))

pub turning_done : {E : Type 0} (files : OutputFiles) (k : RunKind) (count i : ℕ)
    (start sum : Counts) (old now : EngineView) (a b : ShelfView) (o p : SinkView) → count ≤ i
    → Turning files k count i start sum old now a b o p
    → MakesFrom {E = E} files start (replicate count k) old now a b o p (Ok sum)
turning_done {E} files k count i start sum old now a b o p le so =
    let all : i ≡ count = omega (arith, le, so.inside) in
    going_done {E = E} files (replicate count k) start sum old now a b o p
    (subst (λ n. Going files (replicate n k) start sum old now a b o p) all so.going)

-- what a turn needs
pub turn_room : (files : OutputFiles) (k : RunKind) (count i : ℕ) (start sum : Counts)
    (old now : EngineView) (a b : ShelfView) (o p : SinkView) (most : ℕ) → i < count
    → old.turns + count ≤ most → Turning files k count i start sum old now a b o p
    → now.turns < most
turn_room files k count i start sum old now a b o p most lt le so =
    let long = length-replicate i k in
    omega (arith, lt, le, long, so.going.tells.turns)

pub turn_commits : (files : OutputFiles) (k : RunKind) (count i : ℕ) (start sum : Counts)
    (old now : EngineView) (a b : ShelfView) (o p : SinkView) (most : ℕ) → i < count
    → start.commits + count ≤ most → Turning files k count i start sum old now a b o p
    → sum.commits < most
turn_commits files k count i start sum old now a b o p most lt le so =
    let long = length-replicate i k in
    let few = going_commits files (replicate i k) start sum old now a b o p so.going in
    omega (arith, lt, le, long, few)

pub fits_now : (k : RunKind) (old now : Config) → now ≡ old → Fits old.cpus k → Fits now.cpus k
fits_now k old now e h = subst (λ c. Fits c.cpus k) (sym e) h

-- ---- the kinds of the runs

abbrev turns_in : Run → List RunKind
turns_in r = replicate r.count r.what

kinds_more : (rs : List Run) (i : ℕ) (d : Run) → i < length rs
    → kinds_of (take (i + 1) rs) ≡ kinds_of (take i rs) ++ turns_in (get_or rs i d)
unfolding kinds_of
kinds_more rs i d lt =
    ap (λ z. flat_map turns_in z) (take_more rs i d lt)
    ∙ flat_map-append turns_in (take i rs) (get_or rs i d ∷ [])
    ∙ ap (λ z. flat_map turns_in (take i rs) ++ z) (append-nil (turns_in (get_or rs i d)))

kinds_split : (rs : List Run) (i : ℕ) (d : Run) → i < length rs
    → kinds_of rs
    ≡ kinds_of (take i rs) ++ (turns_in (get_or rs i d) ++ kinds_of (drop (suc i) rs))
unfolding kinds_of
kinds_split rs i d lt =
    ap (λ z. flat_map turns_in z) (split_at rs i d lt)
    ∙ flat_map-append turns_in (take i rs) (get_or rs i d ∷ drop (suc i) rs)

pub kinds_length : (rs : List Run) → length (kinds_of rs) ≡ turns_of rs
unfolding kinds_of
kinds_length [] = refl
kinds_length (r ∷ rs) =
    let long : length (kinds_of (r ∷ rs)) ≡ length (turns_in r) + length (kinds_of rs) =
    length-append (turns_in r) (kinds_of rs) in
    let one : length (turns_in r) ≡ r.count = length-replicate r.count r.what in
    let all : turns_of (r ∷ rs) ≡ r.count + turns_of rs = sum_by-cons (λ (x : Run). x.count) r rs in
    let rest : length (kinds_of rs) ≡ turns_of rs = kinds_length rs in
    omega (arith, long, one, all, rest)

-- ---- the loop over the runs of a schedule

pub record Running (files : OutputFiles) (rs : List Run) (i : ℕ) (start sum : Counts)
    (old now : EngineView) (a b : ShelfView) (o p : SinkView) : Type 0 where
  pub going : Going files (kinds_of (take i rs)) start sum old now a b o p
  pub ready : now.ready
  pub small : (most : ℕ) → Below most start → Below (most + 45 * turns_of (take i rs)) sum

pub running_start : (files : OutputFiles) (rs : List Run) (start : Counts) (old : EngineView)
    (a : ShelfView) (o : SinkView) → old.ready → Running files rs 0 start start old old a a o o
unfolding kinds_of
running_start files rs start old a o ready = record {
  going = going_start files start old a o;
  ready = ready;
  small = λ most b. below_more most (most + 45 * turns_of (take 0 rs)) start (omega arith) b;
}

pub running_next : {E : Type 0} (files : OutputFiles) (rs : List Run) (i : ℕ) (d : Run)
    (start sum after : Counts) (old now new : EngineView) (a b c : ShelfView) (o p q : SinkView)
    → i < length rs → Running files rs i start sum old now a b o p → new.ready
    → ((most : ℕ) → Below most sum → Below (most + 45 * (get_or rs i d).count) after)
    → MakesFrom {E = E} files sum (replicate (get_or rs i d).count (get_or rs i d).what) now new b c p q (Ok after)
    → Running files rs (i + 1) start after old new a c o q
running_next {E} files rs i d start sum after old now new a b c o p q lt so ready small h =
    let n : ℕ = (get_or rs i d).count in
    let more : turns_of (take (i + 1) rs) ≡ turns_of (take i rs) + n =
    sum_by_more (λ (x : Run). x.count) rs i d lt in
    record {
      going = subst (λ ks. Going files ks start after old new a c o q)
          (sym (kinds_more rs i d lt))
          (going_on {E = E} files (kinds_of (take i rs)) (turns_in (get_or rs i d)) start sum after old now new a b c o p q so.going h);
      ready = ready;
      small = λ most bl.
          below_more (most + 45 * turns_of (take i rs) + 45 * n)
          (most + 45 * turns_of (take (i + 1) rs)) after (omega (arith, more))
          (small (most + 45 * turns_of (take i rs)) (so.small most bl));
    }

pub running_failed : {E : Type 0} (files : OutputFiles) (rs : List Run) (i : ℕ) (d : Run)
    (start sum : Counts) (old now new : EngineView) (a b c : ShelfView) (o p q : SinkView) (f : E)
    → i < length rs → Running files rs i start sum old now a b o p
    → MakesFrom files sum (replicate (get_or rs i d).count (get_or rs i d).what) now new b c p q (Err f)
    → MakesFrom files start (kinds_of rs) old new a c o q (Err f)
running_failed files rs i d start sum old now new a b c o p q f lt so h =
    subst (λ ks. MakesFrom files start ks old new a c o q (Err f)) (sym (kinds_split rs i d lt))
    (going_failed files (kinds_of (take i rs)) (turns_in (get_or rs i d)) (kinds_of (drop (suc i) rs)) start sum old now new a b c o p q f so.going h)

pub running_done : {E : Type 0} (files : OutputFiles) (rs : List Run) (i : ℕ)
    (start sum : Counts) (old now : EngineView) (a b : ShelfView) (o p : SinkView)
    → length rs ≤ i → Running files rs i start sum old now a b o p
    → MakesFrom {E = E} files start (kinds_of rs) old now a b o p (Ok sum)
running_done {E} files rs i start sum old now a b o p le so =
    going_done {E = E} files (kinds_of rs) start sum old now a b o p
    (subst (λ z. Going files (kinds_of z) start sum old now a b o p) (take_all i rs le) so.going)

-- what a run needs
pub run_room : (files : OutputFiles) (rs : List Run) (i : ℕ) (d : Run) (start sum : Counts)
    (old now : EngineView) (a b : ShelfView) (o p : SinkView) (most : ℕ) → i < length rs
    → old.turns + turns_of rs ≤ most → Running files rs i start sum old now a b o p
    → now.turns + (get_or rs i d).count ≤ most
run_room files rs i d start sum old now a b o p most lt le so =
    let long : length (kinds_of (take i rs)) ≡ turns_of (take i rs) = kinds_length (take i rs) in
    let more : turns_of (take i rs) + (get_or rs i d).count ≤ turns_of rs =
    sum_by_more_le (λ (x : Run). x.count) rs i d lt in
    omega (arith, le, long, more, so.going.tells.turns)

pub run_commits : (files : OutputFiles) (rs : List Run) (i : ℕ) (d : Run) (start sum : Counts)
    (old now : EngineView) (a b : ShelfView) (o p : SinkView) (most : ℕ) → i < length rs
    → start.commits + turns_of rs ≤ most → Running files rs i start sum old now a b o p
    → sum.commits + (get_or rs i d).count ≤ most
run_commits files rs i d start sum old now a b o p most lt le so =
    let long : length (kinds_of (take i rs)) ≡ turns_of (take i rs) = kinds_length (take i rs) in
    let more : turns_of (take i rs) + (get_or rs i d).count ≤ turns_of rs =
    sum_by_more_le (λ (x : Run). x.count) rs i d lt in
    let few = going_commits files (kinds_of (take i rs)) start sum old now a b o p so.going in
    omega (arith, le, long, more, few)

pub run_below : (files : OutputFiles) (rs : List Run) (i : ℕ) (start sum : Counts)
    (old now : EngineView) (a b : ShelfView) (o p : SinkView) (most : ℕ)
    → start.commits + turns_of rs ≤ most → Below (2 ^ 60) start
    → Running files rs i start sum old now a b o p → Below (2 ^ 60 + 45 * most) sum
run_below files rs i start sum old now a b o p most le below so =
    let front : turns_of (take i rs) ≤ turns_of rs =
    sum_by-take-le (λ (x : Run). x.count) rs i in
    below_more (2 ^ 60 + 45 * turns_of (take i rs)) (2 ^ 60 + 45 * most) sum
    (omega (arith, front, le)) (so.small (2 ^ 60) below)

pub run_fits : (rs : List Run) (i : ℕ) (d : Run) (old now : Config) → now ≡ old → i < length rs
    → All (λ (r : Run). Fits old.cpus r.what) rs → Fits now.cpus (get_or rs i d).what
run_fits rs i d old now e lt h =
    fits_now (get_or rs i d).what old now e
    (All-get_or (λ (r : Run). Fits old.cpus r.what) rs i d lt h)
