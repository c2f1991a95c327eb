-- Every log that a run writes is lawful.
use Rattle.std.proofs.Common.{◌≡◌, ◌≢◌, ℕ, ◌+◌, ◌≤◌, Bool, true, false, List, [], ◌∷◌, ◌++◌, refl, sym, ap, ◌∙◌, subst, arith, if◌then◌else◌, eq-eqb, inl, inr, length}
use Rattle.std.specs.Prelude.{◌==◌, ◌&&◌, ◌||◌, nat_lt, nat_le}
use Rattle.std.proofs.lemmas.Bool.{cases_eq, ne_eqb, lt-ltb, ltb-true, le-leb}
use Rattle.run_model.specs.declared.faults.Mode.{Mode}
use Rattle.run_model.specs.declared.faults.Mode.TheVariants.{Running, Recovering, Lost}
use Rattle.run_model.specs.declared.schedules.RunKind.{RunKind}
use Rattle.run_model.specs.declared.schedules.RunKind.TheVariants as kind
use Rattle.run_model.specs.declared.logs.What.{What}
use Rattle.run_model.specs.declared.logs.What.TheVariants as what
use Rattle.run_model.specs.declared.logs.Entry.{Entry}
use Rattle.run_model.specs.declared.logs.Config.{Config}
use Rattle.esa_model.specs.Machine.{at}
use Rattle.run_model.specs.Cores.{outlines, Cores, Met, Did, Choice, is_spare_number, is_fenced, counted, stopped, make, return_by, does, first_cores, entry, stamped}
use Rattle.run_model.specs.Since.{pushed}
use Rattle.run_model.specs.Sorts.{is_stop}
use Rattle.run_model.specs.Lawful.{has_stop, fence_by, fence, core_by, core_at, mine_by, mine, retried, retried_in_vain, back, fences, bit, AllMeet}
use Rattle.run_laws.specs.Runs.{logged, ValidKind, ValidTurns}
use Rattle.run_model.specs.Places.{Apart}
use Rattle.run_laws.proofs.At.{at_same, at_other}
use Rattle.run_laws.proofs.Rows.{Rows, does_by}
use Rattle.run_laws.proofs.Standing.{and_both, serves_it, fenced_parts, apart_make, apart_first}
use Rattle.run_laws.proofs.Midst.{last_turn, no_and, and_yes, OnCore, FitsMode, End}
use Rattle.run_laws.proofs.Fencing.{fenced_not, fenced_no, fenced_alike}
use Rattle.run_laws.proofs.Tails.{Fits, fits_as, follows_new}
use Rattle.run_laws.proofs.Judging.{Judged, judge_rows}

-- ---- the other CPUs
other_on : (t i k j core : ℕ) (w : What) (past : List Entry) → i ≢ j → OnCore j core past
    → OnCore j core (entry t i k w ∷ past)
other_on t i k j core w past ne o = record {
  stop = ap (λ b. (b && is_stop w) || has_stop j past) (ne_eqb i j ne) ∙ o.stop;
  fence_is = ap (λ b. if b then fence_by w t (fence j past) else fence j past) (ne_eqb i j ne)
      ∙ o.fence_is;
  core_is = ap (λ b. if b then core_by w (core_at j past) else core_at j past) (ne_eqb i j ne)
      ∙ o.core_is;
}

other_mine : (t i k j : ℕ) (w : What) (past : List Entry) → i ≢ j
    → mine j (entry t i k w ∷ past) ≡ mine j past
other_mine t i k j w past ne =
    ap (λ b. if b then mine_by w (mine j past) else mine j past) (ne_eqb i j ne)

other_push : (c t i k j core r : ℕ) (w : What) (m : Mode) (past : List Entry) → i ≢ j
    → FitsMode c m core r past j → FitsMode c m core r (entry t i k w ∷ past) j
other_push c t i k j core r w Running past ne f = (
  other_on t i k j core w past ne f.0,
  f.1,
  ap (retried r) (other_mine t i k j w past ne)
      ∙ f.2,
)
other_push c t i k j core r w Recovering past ne f = (
  other_on t i k j core w past ne f.0,
  f.1,
  ap (retried_in_vain r) (other_mine t i k j w past ne) ∙ f.2,
)
other_push c t i k j core r w Lost past ne f = tt

other_stays : (c t i k j core r : ℕ) (ws : List What) (m : Mode) (past : List Entry) → i ≢ j
    → FitsMode c m core r past j → FitsMode c m core r (pushed (stamped t i k ws) past) j
other_stays c t i k j core r [] m past ne f = f
other_stays c t i k j core r (w ∷ ws) m past ne f =
    other_stays c t i k j core r ws m (entry t i k w ∷ past) ne
    (other_push c t i k j core r w m past ne f)

last_is : (t i k : ℕ) (ws : List What) (past : List Entry) → last_turn past ≤ t
    → last_turn (pushed (stamped t i k ws) past) ≤ t
last_is t i k [] past le = le
last_is t i k (w ∷ ws) past le = last_is t i k ws (entry t i k w ∷ past) (omega arith)

pub record Leaves (i : ℕ) (s s2 : Cores) : Type 0 where
  pub turns : s2.turns ≡ s.turns
  pub core : (j : ℕ) → j ≢ i → s2.core j ≡ s.core j
  pub mode : (j : ℕ) → j ≢ i → s2.mode j ≡ s.mode j
  pub retries : (j : ℕ) → j ≢ i → s2.retries j ≡ s.retries j

leaves_rows : (t : ℕ) (s : Cores) (i : ℕ) (v : Bool) → Rows t s i v (λ d. Leaves i s d.after)
leaves_rows t s i v =
    let stop : Leaves i s (stopped s i) =
    record {
      turns = refl;
      core = λ j ne. refl;
      mode = λ j ne. at_other s.mode i Lost j ne;
      retries = λ j ne. refl;
    } in
    let same : Leaves i s s =
    record {
      turns = refl;
      core = λ j ne. refl;
      mode = λ j ne. refl;
      retries = λ j ne. refl;
    } in
    record {
      gone = λ m. same;
      waits = λ m w. same;
      commits =
          λ m w notes. record {
            turns = refl;
            core = λ j ne. refl;
            mode = λ j ne. refl;
            retries = λ j ne. at_other s.retries i 0 j ne;
          };
      fails = λ m notes why n. record {
        turns = refl;
        core = λ j ne. refl;
        mode = λ j ne. at_other s.mode i Recovering j ne;
        retries = λ j ne. refl;
      };
      scrub_lost = λ m notes w. stop;
      retries =
          λ m lt notes. record {
            turns = refl;
            core = λ j ne. refl;
            mode = λ j ne. at_other s.mode i Running j ne;
            retries = λ j ne. at_other s.retries i (s.retries i + 1) j ne;
          };
      retry_lost = λ m lt notes w. stop;
      none_left = λ m le none. stop;
      transfers =
          λ m le k is notes. record {
            turns = refl;
            core = λ j ne. at_other s.core i k j ne;
            mode = λ j ne. at_other s.mode i Running j ne;
            retries = λ j ne. at_other s.retries i 0 j ne;
          };
      transfer_lost = λ m le k is notes w. stop;
    }

fenced_counted : (c : Config) (s : Cores) (k : ℕ) → is_fenced c (counted s) k ≡ is_fenced c s k
fenced_counted c s k = fenced_alike c s (counted s) k refl (λ j. refl) (λ j. refl)

-- ---- one turn
turn_fits : (c : Config) (s : Cores) (i : ℕ) (d : Did) (past : List Entry) → Fits c s past
    → Leaves i s d.after
    → End c i (d.after.mode i) (d.after.core i) (d.after.retries i) d.after.spare
    (is_fenced c d.after) (pushed (stamped (s.turns + 1) i (s.core i) d.whats) past)
    → Fits c (counted d.after) (pushed (stamped (s.turns + 1) i (s.core i) d.whats) past)
turn_fits c s i d past f l e =
    let after : List Entry = pushed (stamped (s.turns + 1) i (s.core i) d.whats) past in
    record {
      turns = let top =
          last_is (s.turns + 1) i (s.core i) d.whats past (omega (arith, f.turns)) in
          omega (arith, top, l.turns);
      cpus = λ j lt. elim (cases_eq j i) [
        | inl is ↦
            subst (λ z.
            FitsMode c.threshold (d.after.mode z) (d.after.core z)
            (d.after.retries z) after z) (sym is) e.fits
        | inr ne ↦
            fits_as c.threshold (s.mode j) (d.after.mode j) (s.core j) (d.after.core j)
            (s.retries j) (d.after.retries j) after j (l.mode j ne) (l.core j ne)
            (l.retries j ne)
            (other_stays c.threshold (s.turns + 1) i (s.core i) j (s.core j)
            (s.retries j) d.whats (s.mode j) past (λ h. ne (sym h))
            (f.cpus j lt))
      ];
      spares = e.spares;
      fenced = λ k. e.fenced k
          ∙ ap (λ b. back k after + bit b) (sym (fenced_counted c d.after k));
    }

return_fits : (c : Config) (last : ℕ) (s : Cores) (k : ℕ) (past : List Entry) (b : Bool)
    → is_fenced c s k ≡ b → c.cpus ≤ 8 → s.turns + 1 ≤ last → Apart c s → Fits c s past
    → AllMeet c last past (return_by s k b).outline.entries
    × Fits c (return_by s k b).after (pushed (return_by s k b).outline.entries past)
return_fits c last s k past false e few room a f = (
  tt,
  record {
    turns = omega (arith, f.turns);
    cpus = f.cpus;
    spares = f.spares;
    fenced = λ n. f.fenced n ∙ ap (λ b. back n past + bit b) (sym (fenced_counted c s n));
  },
)
return_fits c last s k past true e few room a f =
    let r : Entry = entry (s.turns + 1) 255 k what.Returned in
    let parts = fenced_parts c s k e in
    let s2 : Cores = counted (record s { spare = at s.spare k true }) in
    let more : fences k past ≡ back k past + 1 = f.fenced k ∙ ap (λ b. back k past + bit b) e in (
      (
        record {
          turn = and_both (nat_le 1 (s.turns + 1)) _ (le-leb 1 (s.turns + 1) (omega arith))
              (and_both (nat_le (s.turns + 1) last) _ (le-leb (s.turns + 1) last room)
              (follows_new past r (omega (arith, f.turns))));
          core = refl;
          retry = refl;
          fenced = refl;
          spared = refl;
          stop = refl;
          returned = lt-ltb (back k past) (fences k past) (omega (arith, more));
        },
        tt,
      ),
      record {
        turns = omega arith;
        cpus = λ j lt.
            other_push c.threshold (s.turns + 1) 255 k j (s.core j) (s.retries j) what.Returned
            (s.mode j) past (λ h. let far : j ≡ 255 = sym h in
            absurd (omega (arith, far, lt, few))) (f.cpus j lt);
        spares = λ n. elim (cases_eq n k) [
          | inl is ↦
              let one : bit ((k == n) && true) ≡ 1 =
              ap bit (and_yes (k == n) ∙ eq-eqb k n (sym is)) in
              let old : bit (s.spare n) ≡ 0 = ap bit (ap s.spare is ∙ parts.1) in
              let new : bit (at s.spare k true n) ≡ 1 =
              ap bit (ap (at s.spare k true) is ∙ at_same s.spare k true) in
              omega (arith, one, old, new, f.spares n)
          | inr ne ↦
              let none : bit ((k == n) && true) ≡ 0 =
              ap bit (and_yes (k == n) ∙ ne_eqb k n (λ h. ne (sym h))) in
              let same : bit (at s.spare k true n) ≡ bit (s.spare n) =
              ap bit (at_other s.spare k true n ne) in
              omega (arith, none, same, f.spares n)
        ];
        fenced = λ n. elim (cases_eq n k) [
          | inl is ↦
              let one : bit ((k == n) && true) ≡ 1 =
              ap bit (and_yes (k == n) ∙ eq-eqb k n (sym is)) in
              let none : bit ((k == n) && false) ≡ 0 = ap bit (no_and (k == n)) in
              let old : bit (is_fenced c s n) ≡ 1 = ap bit (ap (is_fenced c s) is ∙ e) in
              let new : bit (is_fenced c s2 n) ≡ 0 =
              ap bit (fenced_not c s2 n
              (inl (ap (at s.spare k true) is ∙ at_same s.spare k true))) in
              omega (arith, one, none, old, new, f.fenced n)
          | inr ne ↦
              let one : bit ((k == n) && true) ≡ 0 =
              ap bit (and_yes (k == n) ∙ ne_eqb k n (λ h. ne (sym h))) in
              let none : bit ((k == n) && false) ≡ 0 = ap bit (no_and (k == n)) in
              let same : bit (is_fenced c s2 n) ≡ bit (is_fenced c s n) =
              ap bit (fenced_alike c s s2 n (at_other s.spare k true n ne) (λ j. refl)
              (λ j. refl)) in
              omega (arith, one, none, same, f.fenced n)
        ];
      },
    )

judge_make : (c : Config) (last : ℕ) (s : Cores) (k : RunKind) (x : Met) (past : List Entry)
    → ValidKind c k → c.cpus ≤ 8 → s.turns + 1 ≤ last → Apart c s → Fits c s past
    → AllMeet c last past (make c s k x).outline.entries
    × Fits c (make c s k x).after (pushed (make c s k x).outline.entries past)
judge_make c last s (kind.Turns i) x past valid few room a f =
    let d : Did = does c.threshold s i.0 x in
    let j : Judged c last s i.0 past d =
    does_by c.threshold s i.0 x (Judged c last s i.0 past)
    (judge_rows c last s i.0 past x.waits valid room a f) in (
      j.0,
      turn_fits c s i.0 d past f
          (does_by c.threshold s i.0 x (λ d. Leaves i.0 s d.after)
          (leaves_rows c.threshold s i.0 x.waits)) j.1,
    )
judge_make c last s (kind.Key i) x past valid few room a f = (
  tt,
  record {
    turns = omega (arith, f.turns);
    cpus = f.cpus;
    spares = f.spares;
    fenced = λ n. f.fenced n ∙ ap (λ b. back n past + bit b) (sym (fenced_counted c s n));
  },
)
judge_make c last s (kind.Return k) x past valid few room a f =
    return_fits c last s k.0 past (is_fenced c s k.0) refl few room a f

all_append : (c : Config) (last : ℕ) (past xs ys : List Entry) → AllMeet c last past xs
    → AllMeet c last (pushed xs past) ys → AllMeet c last past (xs ++ ys)
all_append c last past [] ys a b = b
all_append c last past (x ∷ xs) ys a b = (a.0, all_append c last (x ∷ past) xs ys a.1 b)

returned_turns : (s : Cores) (k : ℕ) (b : Bool) → (return_by s k b).after.turns ≡ s.turns + 1
returned_turns s k true = refl
returned_turns s k false = refl

make_turns : (c : Config) (s : Cores) (k : RunKind) (x : Met)
    → (make c s k x).after.turns ≡ s.turns + 1
make_turns c s (kind.Turns i) x = let l =
    does_by c.threshold s i.0 x (λ d. Leaves i.0 s d.after)
    (leaves_rows c.threshold s i.0 x.waits) in ap (λ n. n + 1) l.turns
make_turns c s (kind.Key i) x = refl
make_turns c s (kind.Return k) x = returned_turns s k.0 (is_fenced c s k.0)

judge_run : (c : Config) (last : ℕ) (s : Cores) (xs : List Choice) (past : List Entry)
    → ValidTurns c xs → c.cpus ≤ 8 → s.turns + length xs ≤ last → Apart c s → Fits c s past
    → AllMeet c last past (logged (outlines c s xs))
judge_run c last s [] past valid few room a f = tt
judge_run c last s (x ∷ xs) past valid few room a f =
    let one = judge_make c last s x.kind x.met past valid.0 few (omega (arith, room)) a f in
    let turns = make_turns c s x.kind x.met in
    all_append c last past (make c s x.kind x.met).outline.entries
    (logged (outlines c (make c s x.kind x.met).after xs)) one.0
    (judge_run c last (make c s x.kind x.met).after xs
    (pushed (make c s x.kind x.met).outline.entries past) valid.1 few
    (omega (arith, room, turns)) (apart_make c s x.kind x.met a) one.1)

-- ---- the start
first_fenced : (c : Config) (k : ℕ) (b d : Bool) → nat_lt k c.cpus ≡ b → is_spare_number c k ≡ d
    → is_fenced c (first_cores c) k ≡ false
first_fenced c k true d e h =
    fenced_not c (first_cores c) k
    (inr (serves_it (first_cores c) k c.cpus k (ltb-true k c.cpus e) refl refl))
first_fenced c k false true e h = fenced_not c (first_cores c) k (inl h)
first_fenced c k false false e h = fenced_no c (first_cores c) k (rw (e, h) refl)

pub fits_first : (c : Config) → Fits c (first_cores c) []
fits_first c = record {
  turns = omega arith;
  cpus = λ i lt. (record { stop = refl; fence_is = refl; core_is = refl }, omega arith, refl);
  spares = λ k. refl;
  fenced = λ k. let none : bit (is_fenced c (first_cores c) k) ≡ 0 =
      ap bit (first_fenced c k (nat_lt k c.cpus) (is_spare_number c k) refl refl) in
      omega (arith, none);
}

-- every log that a run writes is lawful
pub lawful_run : (c : Config) (xs : List Choice) → c.cpus ≤ 8 → ValidTurns c xs
    → AllMeet c (length xs) [] (logged (outlines c (first_cores c) xs))
lawful_run c xs few valid =
    judge_run c (length xs) (first_cores c) xs [] valid few (omega arith) (apart_first c few)
    (fits_first c)
