-- The loop over the runs of a schedule, of which a part of the turns is made.
use Rattle.std.proofs.Common.{◌≡◌, ℕ, zero, suc, ◌+◌, ◌-◌, ◌*◌, ◌^◌, ◌<◌, ◌≤◌, List, [], ◌∷◌, ◌++◌, length, take, drop, get_or, refl, sym, ap, ◌∙◌, subst, arith, append-nil, append_assoc, Ok, Err}
use Rattle.std.specs.Prelude.{replicate}
use Rattle.std.specs.List.{flat_map}
use Rattle.std.proofs.lemmas.Grind.{flat_map-append}
use Rattle.std.proofs.lemmas.List.{take_all, take_more, take-append-drop, length-take, length-drop}
use Rattle.std.proofs.lemmas.List.Sums.{sum_by_more, sum_by_more_le, sum_by-take-le}
use Rattle.g5_outside.specs.Views.{ShelfView, SinkView}
use Rattle.g5_writing.specs.declared.outputs.OutputFiles.{OutputFiles}
use Rattle.run_model.specs.declared.outputs.Counts.{Counts}
use Rattle.run_model.specs.declared.schedules.Run.{Run}
use Rattle.run_model.specs.declared.schedules.RunKind.{RunKind}
use Rattle.run_model.specs.Schedule.{kinds_of, turns_of}
use Rattle.run_loop.specs.Engines.{EngineView}
use Rattle.run_loop.specs.Making.{MakesFrom}
use Rattle.run_loop.specs.Bounds.{Below}
use Rattle.run_loop.proofs.Rising.{below_more}
use Rattle.run_loop.proofs.Runs.{kinds_length}
use Rattle.run_loop.proofs.Going.{Going, going_start, going_on, going_failed, going_done, going_commits}
use Rattle.saved_runs.proofs.Lists.{part_append}

-- ---- the kinds of the turns

abbrev turns_in : Run → List RunKind
turns_in r = replicate r.count r.what

abbrev front_kinds : List Run → ℕ → ℕ → ℕ → List RunKind
front_kinds rs i s most = take most (drop s (kinds_of (take i rs)))

kinds_more : (rs : List Run) (i : ℕ) (d : Run) → i < length rs
    → kinds_of (take (i + 1) rs) ≡ kinds_of (take i rs) ++ turns_in (get_or rs i d)
unfolding kinds_of
kinds_more rs i d lt =
    ap (λ z. flat_map turns_in z) (take_more rs i d lt)
    ∙ flat_map-append turns_in (take i rs) (get_or rs i d ∷ [])
    ∙ ap (λ z. flat_map turns_in (take i rs) ++ z) (append-nil (turns_in (get_or rs i d)))

kinds_split : (rs : List Run) (i : ℕ)
    → kinds_of rs ≡ kinds_of (take i rs) ++ kinds_of (drop i rs)
unfolding kinds_of
kinds_split rs i =
    ap (λ z. flat_map turns_in z) (sym (take-append-drop i rs))
    ∙ flat_map-append turns_in (take i rs) (drop i rs)

-- what the part of one more run adds
next_part : (rs : List Run) (i s most skipped left : ℕ) (d part : Run) → i < length rs
    → skipped ≡ s - turns_of (take i rs) → left ≡ most - (turns_of (take i rs) - s)
    → turns_in part ≡ take left (drop skipped (turns_in (get_or rs i d)))
    → front_kinds rs (i + 1) s most ≡ front_kinds rs i s most ++ turns_in part
next_part rs i s most skipped left d part lt skips lefts is =
    let before : List RunKind = kinds_of (take i rs) in
    let here : List RunKind = turns_in (get_or rs i d) in
    let long : length before ≡ turns_of (take i rs) = kinds_length (take i rs) in
    let skip : s - length before ≡ skipped = omega (arith, long, skips) in
    let keep : most - (length before - s) ≡ left = omega (arith, long, lefts) in
    ap (λ z. take most (drop s z)) (kinds_more rs i d lt)
    ∙ part_append most s before here
    ∙ ap (λ q. take most (drop s before) ++ take (most - (length before - s)) (drop q here)) skip
    ∙ ap (λ q. take most (drop s before) ++ take q (drop skipped here)) keep
    ∙ ap (λ z. take most (drop s before) ++ z) (sym is)

abbrev rest_kinds : List Run → ℕ → ℕ → ℕ → List RunKind
rest_kinds rs i s most =
    take (most - (length (kinds_of (take i rs)) - s))
    (drop (s - length (kinds_of (take i rs))) (kinds_of (drop i rs)))

-- and what the runs behind it add
all_parts : (rs : List Run) (i s most : ℕ) (done part : List RunKind)
    → front_kinds rs (i + 1) s most ≡ done ++ part
    → take most (drop s (kinds_of rs)) ≡ done ++ (part ++ rest_kinds rs (i + 1) s most)
all_parts rs i s most done part e =
    ap (λ z. take most (drop s z)) (kinds_split rs (i + 1))
    ∙ part_append most s (kinds_of (take (i + 1) rs)) (kinds_of (drop (i + 1) rs))
    ∙ ap (λ z. z ++ rest_kinds rs (i + 1) s most) e
    ∙ append_assoc done part (rest_kinds rs (i + 1) s most)

-- ---- the loop

pub record Parting (files : OutputFiles) (rs : List Run) (most i : ℕ) (start sum : Counts)
    (skipped left : ℕ) (old now : EngineView) (a b : ShelfView) (o p : SinkView) : Type 0 where
  pub going : Going files (front_kinds rs i start.turns most) start sum old now a b o p
  pub ready : now.ready
  pub small : (bound : ℕ) → Below bound start → Below (bound + 45 * turns_of (take i rs)) sum
  pub skips : skipped ≡ start.turns - turns_of (take i rs)
  pub lefts : left ≡ most - (turns_of (take i rs) - start.turns)

abbrev no_kinds : List RunKind
no_kinds = []

none_of_none : (most s : ℕ) → no_kinds ≡ take most (drop s no_kinds)
none_of_none zero zero = refl
none_of_none zero (suc s) = refl
none_of_none (suc n) zero = refl
none_of_none (suc n) (suc s) = refl

pub parting_start : (files : OutputFiles) (rs : List Run) (most : ℕ) (start : Counts)
    (old : EngineView) (a : ShelfView) (o : SinkView) → old.ready
    → Parting files rs most 0 start start start.turns most old old a a o o
unfolding kinds_of
parting_start files rs most start old a o ready =
    let none : turns_of (take 0 rs) ≡ 0 = refl in
    record {
      going = subst (λ ks. Going files ks start start old old a a o o)
          (none_of_none most start.turns) (going_start files start old a o);
      ready = ready;
      small = λ bound b. below_more bound (bound + 45 * turns_of (take 0 rs)) start (omega arith) b;
      skips = omega (arith, none);
      lefts = omega (arith, none);
    }

-- how many turns a part has
abbrev pub IsPart : Run → ℕ → ℕ → Run → Type 0
IsPart run skipped left part = part.count ≡ run.count - skipped - (run.count - skipped - left)

pub parting_next : {E : Type 0} (files : OutputFiles) (rs : List Run) (most i : ℕ) (d part : Run)
    (start sum after : Counts) (skipped left skip keep : ℕ) (old now new : EngineView)
    (a b c : ShelfView) (o p q : SinkView) → i < length rs
    → Parting files rs most i start sum skipped left old now a b o p → new.ready
    → IsPart (get_or rs i d) skipped left part
    → skip ≡ skipped - (get_or rs i d).count → keep ≡ left - part.count
    → turns_in part ≡ take left (drop skipped (turns_in (get_or rs i d)))
    → ((bound : ℕ) → Below bound sum → Below (bound + 45 * part.count) after)
    → MakesFrom {E = E} files sum (turns_in part) now new b c p q (Ok after)
    → Parting files rs most (i + 1) start after skip keep old new a c o q
parting_next {E} files rs most i d part start sum after skipped left skip keep old now new a b c o p q lt so ready many fewer less is small h =
    let n : ℕ = (get_or rs i d).count in
    let more : turns_of (take (i + 1) rs) ≡ turns_of (take i rs) + n =
    sum_by_more (λ (x : Run). x.count) rs i d lt in
    record {
      going = subst (λ ks. Going files ks start after old new a c o q)
          (sym (next_part rs i start.turns most skipped left d part lt so.skips so.lefts is))
          (going_on {E = E} files (front_kinds rs i start.turns most) (turns_in part) start sum after old now new a b c o p q so.going h);
      ready = ready;
      small = λ bound bl.
          below_more (bound + 45 * turns_of (take i rs) + 45 * part.count)
          (bound + 45 * turns_of (take (i + 1) rs)) after (omega (arith, more, many))
          (small (bound + 45 * turns_of (take i rs)) (so.small bound bl));
      skips = omega (arith, more, so.skips, fewer);
      lefts = omega (arith, more, so.skips, so.lefts, many, less);
    }

pub parting_failed : {E : Type 0} (files : OutputFiles) (rs : List Run) (most i : ℕ) (d part : Run)
    (start sum : Counts) (skipped left : ℕ) (old now new : EngineView) (a b c : ShelfView)
    (o p q : SinkView) (f : E) → i < length rs
    → Parting files rs most i start sum skipped left old now a b o p
    → turns_in part ≡ take left (drop skipped (turns_in (get_or rs i d)))
    → MakesFrom files sum (turns_in part) now new b c p q (Err f)
    → MakesFrom files start (take most (drop start.turns (kinds_of rs))) old new a c o q (Err f)
parting_failed files rs most i d part start sum skipped left old now new a b c o p q f lt so is h =
    let done : List RunKind = front_kinds rs i start.turns most in
    let rest : List RunKind = rest_kinds rs (i + 1) start.turns most in
    subst (λ ks. MakesFrom files start ks old new a c o q (Err f))
    (sym (all_parts rs i start.turns most done (turns_in part)
    (next_part rs i start.turns most skipped left d part lt so.skips so.lefts is)))
    (going_failed files done (turns_in part) rest start sum old now new a b c o p q f so.going h)

pub parting_done : {E : Type 0} (files : OutputFiles) (rs : List Run) (most i : ℕ)
    (start sum : Counts) (skipped left : ℕ) (old now : EngineView) (a b : ShelfView)
    (o p : SinkView) → length rs ≤ i
    → Parting files rs most i start sum skipped left old now a b o p
    → MakesFrom {E = E} files start (take most (drop start.turns (kinds_of rs))) old now a b o p
    (Ok sum)
parting_done {E} files rs most i start sum skipped left old now a b o p le so =
    going_done {E = E} files (take most (drop start.turns (kinds_of rs))) start sum old now a b o p
    (subst (λ z. Going files (take most (drop start.turns (kinds_of z))) start sum old now a b o p)
    (take_all i rs le) so.going)

-- ---- what the turns of a part need

-- so many turns were made up to it
made_few : (rs : List Run) (i s most : ℕ)
    → length (front_kinds rs i s most) ≤ turns_of (take i rs) - s
made_few rs i s most =
    let long : length (kinds_of (take i rs)) ≡ turns_of (take i rs) = kinds_length (take i rs) in
    let dropped = length-drop s (kinds_of (take i rs)) in
    let taken = length-take most (drop s (kinds_of (take i rs))) in
    omega (arith, long, dropped, taken)

pub part_room : (files : OutputFiles) (rs : List Run) (most i : ℕ) (d part : Run)
    (start sum : Counts) (skipped left : ℕ) (old now : EngineView) (a b : ShelfView)
    (o p : SinkView) (bound : ℕ) → i < length rs → old.turns + turns_of rs ≤ bound
    → Parting files rs most i start sum skipped left old now a b o p
    → IsPart (get_or rs i d) skipped left part → now.turns + part.count ≤ bound
part_room files rs most i d part start sum skipped left old now a b o p bound lt le so many =
    let few = made_few rs i start.turns most in
    let more : turns_of (take i rs) + (get_or rs i d).count ≤ turns_of rs =
    sum_by_more_le (λ (x : Run). x.count) rs i d lt in
    omega (arith, le, few, more, many, so.going.tells.turns)

pub part_commits : (files : OutputFiles) (rs : List Run) (most i : ℕ) (d part : Run)
    (start sum : Counts) (skipped left : ℕ) (old now : EngineView) (a b : ShelfView)
    (o p : SinkView) (bound : ℕ) → i < length rs → turns_of rs ≤ bound
    → start.turns ≤ turns_of rs → start.commits ≤ start.turns
    → Parting files rs most i start sum skipped left old now a b o p
    → IsPart (get_or rs i d) skipped left part → sum.commits + part.count ≤ bound
part_commits files rs most i d part start sum skipped left old now a b o p bound lt le made few so many =
    let done = made_few rs i start.turns most in
    let more : turns_of (take i rs) + (get_or rs i d).count ≤ turns_of rs =
    sum_by_more_le (λ (x : Run). x.count) rs i d lt in
    let so_far = going_commits files (front_kinds rs i start.turns most) start sum old now a b o p so.going in
    omega (arith, le, made, few, done, more, so_far, many, so.skips)

pub part_below : (files : OutputFiles) (rs : List Run) (most i : ℕ) (start sum : Counts)
    (skipped left : ℕ) (old now : EngineView) (a b : ShelfView) (o p : SinkView) (bound : ℕ)
    → turns_of rs ≤ bound → Below (2 ^ 60) start
    → Parting files rs most i start sum skipped left old now a b o p
    → Below (2 ^ 60 + 45 * bound) sum
part_below files rs most i start sum skipped left old now a b o p bound le below so =
    let front : turns_of (take i rs) ≤ turns_of rs =
    sum_by-take-le (λ (x : Run). x.count) rs i in
    below_more (2 ^ 60 + 45 * turns_of (take i rs)) (2 ^ 60 + 45 * bound) sum
    (omega (arith, front, le)) (so.small (2 ^ 60) below)
