-- The generated schedule is accepted for 8 CPUs, with its turns.
use Rattle.std.proofs.Common.{◌≡◌, ℕ, zero, suc, ◌+◌, ◌-◌, ◌*◌, ◌/◌, ◌%◌, ◌^◌, ◌<◌, ◌≤◌, true, false, List, [], ◌∷◌, ◌++◌, length, map, filter, min, Some, Ok, refl, sym, ◌∙◌, ap, subst, arith, append_assoc, append-nil}
use Rattle.std.specs.Prelude.{codes, ◌==◌, nat_lt, nat_le, option_map}
use Rattle.std.specs.Fmt.{decimal}
use Rattle.std.specs.List.{slice_split}
use Rattle.std.proofs.lemmas.Fmt.{decimal_digit, decimal_nonempty, decimal_is_IsNumeral}
use Rattle.std.proofs.lemmas.Bool.Decides.{nat_tests}
use Rattle.std.proofs.lemmas.List.Sums.{sum_by-cons, sum_by-append}
use Rattle.esa_words.proofs.Digits.{is_decimal_text}
use Rattle.run_model.specs.Numbers.{number}
use Rattle.run_model.specs.Schedule.{is_separator, is_word, words, run_of, is_turn, is_key, is_return, is_count, turns_of_digit, count, from_one, judged, runs_from, schedule, is_beyond}
use Rattle.run_model.specs.Schedule.{after as step}
use Rattle.run_model.specs.Schedule.{turns_of as all_turns}
use Rattle.run_model.specs.declared.schedules.Run.{Run}
use Rattle.program_model.specs.Draws.{draw, after}
use Rattle.program_model.specs.Generator.{turns_of, run_text, drawn_runs, later_runs, schedule_runs}
use Rattle.program_model.specs.Generator.{schedule as generated_schedule}
use Rattle.deck_gen.specs.Parts.{behind_blanks}
use Rattle.deck_gen.proofs.Runs.{taken, next_run, one_run}
use Rattle.deck_gen.proofs.Splits.{Avoids, SparesDigits, split_none, split_at, avoids_decimal}

-- ---- turns of one of 8 CPUs

pub record IsTurns (r : Run) : Type 0 where
  pub cpu : ℕ
  pub few : cpu < 8
  pub same : r ≡ turns_of cpu r.count
  pub some : 1 ≤ r.count
  pub small : r.count ≤ 1000000

abbrev pub AllTurns : List Run → Type 0
AllTurns [] = Unit {0}
AllTurns (r ∷ rs) = IsTurns r × AllTurns rs

-- ---- one word

abbrev word : ℕ → ℕ → List ℕ
word cpu n = (48 + cpu) ∷ 42 ∷ decimal n

word_is : (cpu n : ℕ) → cpu < 8 → run_text (turns_of cpu n) ≡ word cpu n
word_is cpu n h = ap (λ ds. ds ++ codes "*" ++ decimal n) (decimal_digit cpu (omega arith))

spares : SparesDigits is_separator
spares b low high = grind (arith, nat_tests)

avoids : (cpu n : ℕ) → cpu < 8 → n < 2 ^ 64 → Avoids is_separator (word cpu n)
avoids cpu n h k =
    let d : is_separator (48 + cpu) ≡ false = grind (arith, nat_tests) in
    (d, (refl, avoids_decimal is_separator n spares k))

number_back : (n : ℕ) → n < 2 ^ 64 → number (decimal n) ≡ Some n
unfolding number
number_back n h =
    rw (is_decimal_text n h) (ap (λ v. Some v) (decimal_is_IsNumeral n h).1)

count_back : (n : ℕ) → 1 ≤ n → n < 2 ^ 64 → count (decimal n) ≡ Some n
unfolding count
count_back n some h =
    let z : (n == 0) ≡ false = grind (arith, nat_tests) in
    ap from_one (number_back n h) ∙ rw z refl

word_back :
    (cpu n : ℕ) → cpu < 8 → 1 ≤ n → n < 2 ^ 64 → run_of (word cpu n) ≡ Some (turns_of cpu n)
unfolding run_of
word_back cpu n h some k =
    let w = word cpu n in
    let l : 0 < length (decimal n) = decimal_nonempty n k in
    let turn : is_turn w ≡ false = grind (arith, nat_tests) in
    let key : is_key w ≡ false = grind (arith, nat_tests) in
    let back : is_return w ≡ false = grind (arith, nat_tests) in
    let counted : is_count w ≡ true = grind (arith, nat_tests) in
    let e : 48 + cpu - 48 ≡ cpu = omega arith in
    rw (turn, key, back, counted)
    (ap (option_map (turns_of_digit (48 + cpu))) (count_back n some k)
    ∙ ap (λ c. Some (turns_of c n)) e)

-- ---- all words

texts_of : List Run → List (List ℕ)
texts_of rs = map run_text rs

run_avoids : (r : Run) → IsTurns r → Avoids is_separator (run_text r)
run_avoids r t =
    subst (Avoids is_separator) (sym (ap run_text t.same ∙ word_is t.cpu r.count t.few))
    (avoids t.cpu r.count t.few (omega (arith, t.small)))

run_back : (r : Run) → IsTurns r → run_of (run_text r) ≡ Some r
run_back r t =
    ap run_of (ap run_text t.same ∙ word_is t.cpu r.count t.few)
    ∙ word_back t.cpu r.count t.few t.some (omega (arith, t.small))
    ∙ ap (λ x. Some x) (sym t.same)

split_back :
    (r : Run) (rs : List Run) → IsTurns r → AllTurns rs
    → slice_split is_separator (run_text r ++ behind_blanks rs) ≡ map run_text (r ∷ rs)
split_back r [] t ts =
    ap (slice_split is_separator) (append-nil (run_text r))
    ∙ split_none is_separator (run_text r) (run_avoids r t)
split_back r (s ∷ rs) t ts =
    split_at is_separator (run_text r) 32 (run_text s ++ behind_blanks rs) (run_avoids r t) refl
    ∙ ap (λ ws. run_text r ∷ ws) (split_back s rs ts.0 ts.1)

is_some : (r : Run) → IsTurns r → is_word (run_text r) ≡ true
is_some r t =
    ap is_word (ap run_text t.same ∙ word_is t.cpu r.count t.few)
    ∙ grind (arith, nat_tests)

all_words : (rs : List Run) → AllTurns rs → filter is_word (map run_text rs) ≡ map run_text rs
all_words [] ts = refl
all_words (r ∷ rs) ts =
    rw (is_some r ts.0) (ap (λ ws. run_text r ∷ ws) (all_words rs ts.1))

-- ---- the runs

total_both :
    (earlier : List Run) (r : Run) → all_turns (earlier ++ r ∷ []) ≡ all_turns earlier + r.count
total_both earlier r = sum_by-append (λ (x : Run). x.count) earlier (r ∷ []) ∙ omega arith

total_first : (r : Run) (rs : List Run) → all_turns (r ∷ rs) ≡ r.count + all_turns rs
total_first r rs = sum_by-cons (λ (x : Run). x.count) r rs

accepted :
    (number : ℕ) (earlier : List Run) (r : Run) → IsTurns r
    → all_turns earlier + r.count ≤ 1000000
    → judged 8 number (all_turns earlier) (Some r) ≡ Ok r
accepted number earlier r t le =
    let beyond : nat_le 8 t.cpu ≡ false = grind (arith, nat_tests) in
    let b : is_beyond 8 r.what ≡ false = ap (λ (x : Run). is_beyond 8 x.what) t.same ∙ beyond in
    let l : nat_lt 1000000 (all_turns earlier + r.count) ≡ false = grind (arith, nat_tests) in
    rw (b, l) refl

runs_back :
    (number : ℕ) (earlier rs : List Run) → AllTurns rs
    → all_turns earlier + all_turns rs ≤ 1000000
    → runs_from 8 number earlier (map run_text rs) ≡ Ok (earlier ++ rs)
runs_back number earlier [] ts le = ap (λ x. Ok x) (sym (append-nil earlier))
runs_back number earlier (r ∷ rs) ts le =
    let f = total_first r rs in
    let g = total_both earlier r in
    let read = ap (judged 8 number (all_turns earlier)) (run_back r ts.0) in
    let a = accepted number earlier r ts.0 (omega arith) in
    ap (λ j. step j (λ x. runs_from 8 (number + 1) (earlier ++ x ∷ []) (map run_text rs)))
    (read ∙ a)
    ∙ runs_back (number + 1) (earlier ++ r ∷ []) rs ts.1 (omega arith)
    ∙ ap (λ x. Ok x) (append_assoc earlier (r ∷ []) rs)

-- ---- what is generated

later_are :
    (most left x : ℕ) → left ≤ 1000000 → left ≤ 8 * most → AllTurns (drawn_runs most left x)
later_are zero left x small h = tt
later_are (suc most) zero x small h = tt
later_are (suc most) (suc left) x small h =
    let n : ℕ = suc left in
    let one : IsTurns (next_run n x) = record {
      cpu = draw 1 x % 8;
      few = omega arith;
      same = refl;
      some = omega arith;
      small = omega arith;
    } in
    let more = later_are most (n - taken n x) (after 2 x) (omega arith) (omega arith) in
    subst AllTurns (sym (one_run most n x (omega arith))) (one, more)

later_turns : (most left x : ℕ) → left ≤ 8 * most → all_turns (drawn_runs most left x) ≡ left
later_turns zero left x h = omega arith
later_turns (suc most) zero x h = refl
later_turns (suc most) (suc left) x h =
    let n : ℕ = suc left in
    let rest = drawn_runs most (n - taken n x) (after 2 x) in
    let r = later_turns most (n - taken n x) (after 2 x) (omega arith) in
    ap all_turns (one_run most n x (omega arith)) ∙ total_first (next_run n x) rest
    ∙ omega (arith, r)

abbrev first : ℕ → Run
first turns = turns_of 0 (min turns 32)

first_is : (turns : ℕ) → 1 ≤ turns → IsTurns (first turns)
first_is turns h = record {
  cpu = 0;
  few = omega arith;
  same = refl;
  some = omega arith;
  small = omega arith;
}

enough : (turns : ℕ) → turns - 32 ≤ 8 * ((turns - 32 + 7) / 8)
enough turns = omega arith

all_are :
    (turns x : ℕ) → 1 ≤ turns → turns ≤ 1000000 → AllTurns (schedule_runs turns x)
unfolding later_runs
all_are turns x h k =
    (first_is turns h, later_are ((turns - 32 + 7) / 8) (turns - 32) x (omega arith) (enough turns))

pub turns_back : (turns x : ℕ) → all_turns (schedule_runs turns x) ≡ turns
unfolding later_runs
turns_back turns x =
    let r = later_turns ((turns - 32 + 7) / 8) (turns - 32) x (enough turns) in
    total_first (first turns) (later_runs turns x) ∙ omega (arith, r)

pub schedule_back :
    (turns x : ℕ) → 1 ≤ turns → turns ≤ 1000000
    → schedule 8 (generated_schedule turns x) ≡ Ok (schedule_runs turns x)
unfolding schedule generated_schedule words
schedule_back turns x h k =
    let runs = schedule_runs turns x in
    let are = all_are turns x h k in
    let t = turns_back turns x in
    ap (λ ws. runs_from 8 1 [] (filter is_word ws))
    (split_back (first turns) (later_runs turns x) are.0 are.1)
    ∙ ap (runs_from 8 1 []) (all_words runs are)
    ∙ runs_back 1 [] runs are (omega (arith, t))
