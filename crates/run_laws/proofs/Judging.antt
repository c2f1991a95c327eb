-- What each row of the table of a turn writes is lawful.
use Rattle.std.proofs.Common.{◌≡◌, ℕ, ◌+◌, ◌<◌, ◌≤◌, Bool, true, false, List, [], ◌∷◌, Some, None, refl, sym, ap, ◌∙◌, subst, arith, if◌then◌else◌, eq-eqb, append-nil}
use Rattle.std.specs.Prelude.{⊤, ◌==◌, ◌&&◌, ◌||◌, nat_le}
use Rattle.std.proofs.lemmas.Bool.{le-leb}
use Rattle.run_model.specs.declared.faults.Mode.TheVariants.{Running, Recovering, Lost}
use Rattle.run_model.specs.declared.faults.Note.{Note}
use Rattle.run_model.specs.declared.logs.What.{What}
use Rattle.run_model.specs.declared.logs.What.TheVariants as what
use Rattle.run_model.specs.declared.logs.Entry.{Entry}
use Rattle.run_model.specs.declared.logs.Config.{Config}
use Rattle.run_model.specs.Script.{core_no}
use Rattle.esa_model.specs.Machine.{at}
use Rattle.run_model.specs.Cores.{entries_of, Cores, Did, lowest, is_lost, is_spare_number, is_fenced, stopped, entry, stamped}
use Rattle.run_model.specs.Since.{pushed}
use Rattle.run_model.specs.Sorts.{is_fence, is_uncorrectable, is_reason}
use Rattle.run_model.specs.Lawful.{has_stop, fence, core_at, mine, retried, retried_in_vain, may_retry, in_turn, back, bit, on_hand, after_fence, is_none, is_some_of, AllMeet}
use Rattle.run_model.specs.Places.{Apart}
use Rattle.run_laws.proofs.At.{at_same}
use Rattle.run_laws.proofs.Rows.{Rows, commit, fail, retry, lost_word, spared}
use Rattle.run_laws.proofs.Standing.{and_both, or_l, or_r, lowest_is}
use Rattle.run_laws.proofs.Midst.{Mid, meets, no_and, push_plain, push_fenced, notes_then, OnCore, FitsMode, End}
use Rattle.run_laws.proofs.Fencing.{stop_leaves, spare_leaves, fenced_alike, mode_alike}
use Rattle.run_laws.proofs.Tails.{Fits, fits_as, start, lowest_hand, stop_end, now, lost_tail, none_tail, retried_more, follow, spare_gone}

-- ---- what a row writes is lawful
abbrev pub Judged : Config → ℕ → Cores → ℕ → List Entry → Did → Type 0
Judged c last s i past d =
    AllMeet c last past (stamped (s.turns + 1) i (s.core i) d.whats)
    × End c i (d.after.mode i) (d.after.core i) (d.after.retries i) d.after.spare
    (is_fenced c d.after) (pushed (stamped (s.turns + 1) i (s.core i) d.whats) past)

on_core : (c : Config) (last t i core : ℕ) (ws : List What) (spare : ℕ → Bool) (fc : ℕ
    → ℕ) (past : List Entry) → Mid c last t i core None ws spare fc past → OnCore i core past
on_core c last t i core ws spare fc past m =
    record { stop = m.stop; fence_is = m.fence_is; core_is = m.core_is }

pub judge_rows : (c : Config) (last : ℕ) (s : Cores) (i : ℕ) (past : List Entry) (v : Bool)
    → i < c.cpus → s.turns + 1 ≤ last → Apart c s → Fits c s past
    → Rows c.threshold s i v (Judged c last s i past)
judge_rows c last s i past v lt room a f =
    let t : ℕ = s.turns + 1 in
    let core : ℕ = s.core i in
    let r : ℕ = s.retries i in
    let ws : List What = mine i past in
    let fc : ℕ → ℕ = λ k. bit (is_fenced c s k) in
    let T : ℕ = c.threshold in
    let run : s.mode i ≡ Running
    → FitsMode T Running core r past i =
    λ m. fits_as T (s.mode i) Running core core r r past i (sym m) refl refl (f.cpus i lt) in
    let rec : s.mode i ≡ Recovering
    → FitsMode T Recovering core r past i =
    λ m. fits_as T (s.mode i) Recovering core core r r past i (sym m) refl refl
    (f.cpus i lt) in
    let mid : OnCore i core past
    → Mid c last t i core None ws s.spare fc past = λ o. start c last s i past lt room f o in
    let run_alive : s.mode i ≡ Running → is_lost (s.mode i) ≡ false = λ m. ap is_lost m in
    let rec_alive : s.mode i ≡ Recovering → is_lost (s.mode i) ≡ false = λ m. ap is_lost m in
    let stays : End c i (s.mode i) core r s.spare (is_fenced c s) past =
    record { fits = f.cpus i lt; spares = f.spares; fenced = f.fenced } in
    let lost_row : (is_lost (s.mode i) ≡ false) → OnCore i core past → (notes : List Note) (w : ℕ)
    → Judged c last s i past (lost_word s i notes w) = λ l o notes w.
    notes_then c last t i core None ws s.spare fc
    (λ p. End c i (at s.mode i Lost i) core r s.spare (is_fenced c (stopped s i)) p) (λ p. ⊤)
    (what.Uncorrectable w ∷ what.Fenced ∷ what.Stop ∷ []) (λ p x b z. tt)
    (λ p m z.
    lost_tail c last t i core r ws s.spare (is_fenced c (stopped s i)) fc
    (at s.mode i Lost i) w (at_same s.mode i Lost) (stop_leaves c s i lt a l) p m) notes
    past (mid o) tt in
    record {
      gone = λ m. (tt, stays);
      waits = λ m w. (tt, stays);
      commits =
          λ m w notes.
          subst (λ xs. AllMeet c last past (stamped t i core xs)
          × End c i (s.mode i) core (at s.retries i 0 i) s.spare
          (is_fenced c (commit s i notes).after) (pushed (stamped t i core xs) past))
          (append-nil (entries_of notes))
          (notes_then c last t i core None ws s.spare fc
          (λ p. End c i (s.mode i) core (at s.retries i 0 i) s.spare
          (is_fenced c (commit s i notes).after) p) (λ p. ⊤) [] (λ p x b z. tt)
          (λ p q z. (
            tt,
            record {
              fits = fits_as T Running (s.mode i) core core 0 (at s.retries i 0 i) p i m refl
                  (at_same s.retries i 0)
                  (on_core c last t i core ws s.spare fc p q, omega arith, refl);
              spares = q.spares;
              fenced = λ k. q.fenced k
                  ∙ ap (λ b. back k p + bit b)
                  (sym (fenced_alike c s (commit s i notes).after k refl (λ j. refl)
                  (λ j. refl)));
            },
          )) notes past (mid (run m).0) tt);
      fails = λ m notes why n.
          notes_then c last t i core None ws s.spare fc
          (λ p. End c i (at s.mode i Recovering i) core r s.spare
          (is_fenced c (fail s i notes why n).after) p) (λ p. ⊤) (what.Fail why n ∷ [])
          (λ p x b z. tt)
          (λ p q z.
          let q2 =
          push_plain c last t i core None ws s.spare fc p (what.Fail why n) q
          (record {
            returned = refl;
            stop = refl;
            fence = refl;
            keeps = λ t o. refl;
            core = λ k. refl;
            spared = λ k. refl;
          }) in
          let p2 : List Entry = entry t i core (what.Fail why n) ∷ p in (
            (
              meets c last t i core None ws s.spare fc p
                  (what.Fail why n) q refl refl refl refl refl refl,
              tt,
            ),
            record {
              fits = fits_as T Recovering (at s.mode i Recovering i) core core r r p2 i
                  (at_same s.mode i Recovering) refl refl (
                    on_core c last t i core (what.Fail why n ∷ ws) s.spare fc p2 q2,
                    (run m).1,
                    ap (retried_in_vain r) q2.mine_is ∙ (run m).2,
                  );
              spares = q2.spares;
              fenced = λ k. q2.fenced k
                  ∙ ap (λ b. back k p2 + bit b)
                  (sym (fenced_alike c s (fail s i notes why n).after k refl (λ j. refl)
                  (mode_alike s i Recovering (run_alive m) refl)));
            },
          )) notes past (mid (run m).0) tt;
      scrub_lost = λ m notes w. lost_row (run_alive m) (run m).0 notes w;
      retries = λ m less notes.
          notes_then c last t i core None ws s.spare fc
          (λ p. End c i (at s.mode i Running i) core (at s.retries i (r + 1) i) s.spare
          (is_fenced c (retry s i notes).after) p) (λ p. ⊤) (what.Retry (r + 1) ∷ [])
          (λ p x b z. tt)
          (λ p q z.
          let q2 =
          push_plain c last t i core None ws s.spare fc p (what.Retry (r + 1)) q
          (record {
            returned = refl;
            stop = refl;
            fence = refl;
            keeps = λ t o. refl;
            core = λ k. refl;
            spared = λ k. refl;
          }) in
          let p2 : List Entry = entry t i core (what.Retry (r + 1)) ∷ p in
          let ok : (nat_le 1 (r + 1) && (nat_le (r + 1) T && may_retry (r + 1) (mine i p)))
          ≡ true =
          and_both (nat_le 1 (r + 1)) _ (le-leb 1 (r + 1) (omega arith))
          (and_both (nat_le (r + 1) T) _ (le-leb (r + 1) T (omega (arith, less)))
          (ap (may_retry (r + 1)) q.mine_is ∙ follow r ws (rec m).2)) in (
            (
              meets c last t i core None ws s.spare fc p
                  (what.Retry (r + 1)) q refl ok refl refl refl refl,
              tt,
            ),
            record {
              fits = fits_as T Running (at s.mode i Running i) core core (r + 1)
                  (at s.retries i (r + 1) i) p2 i (at_same s.mode i Running) refl
                  (at_same s.retries i (r + 1)) (
                    on_core c last t i core (what.Retry (r + 1) ∷ ws) s.spare fc p2 q2,
                    omega (arith, less),
                    ap (retried (r + 1)) q2.mine_is
                        ∙ retried_more r ws (rec m).2,
                  );
              spares = q2.spares;
              fenced = λ k. q2.fenced k
                  ∙ ap (λ b. back k p2 + bit b)
                  (sym (fenced_alike c s (retry s i notes).after k refl (λ j. refl)
                  (mode_alike s i Running (rec_alive m) refl)));
            },
          )) notes past (mid (rec m).0) tt;
      retry_lost = λ m less notes w. lost_row (rec_alive m) (rec m).0 notes w;
      none_left = λ m le none.
          let same : r ≡ T = omega (arith, le, (rec m).1) in
          none_tail c last t i core r ws s.spare (is_fenced c (stopped s i)) fc
          (at s.mode i Lost i) (at_same s.mode i Lost) (stop_leaves c s i lt a (rec_alive m))
          (subst (λ n. retried_in_vain n ws ≡ true) same (rec m).2) none past
          (mid (rec m).0);
      transfers = λ m le k2 is notes.
          let same : r ≡ T = omega (arith, le, (rec m).1) in
          let m0 = mid (rec m).0 in
          let past1 : List Entry = entry t i core what.Fenced ∷ past in
          let fc1 : ℕ → ℕ = λ k. fc k + bit (core == k) in
          let m1 = push_fenced c last t i core None ws s.spare fc past m0 in
          let fence_ok :
          (is_none (fence i past)
          && (in_turn t is_uncorrectable past || retried_in_vain T (mine i past)))
          ≡ true =
          and_both (is_none (fence i past)) _ (ap is_none m0.fence_is)
          (or_r (in_turn t is_uncorrectable past) _
          (subst (λ n. retried_in_vain n ws ≡ true) same (rec m).2)) in
          let after : Cores = (spared s i k2 notes).after in
          let spare2 : ℕ → Bool = at s.spare k2 false in
          let rest =
          notes_then c last t i core (Some t) (what.Fenced ∷ ws) s.spare fc1
          (λ p. End c i (at s.mode i Running i) (at s.core i k2 i)
          (at s.retries i 0 i) spare2 (is_fenced c after) p)
          (λ p. after_fence t p ≡ true) (what.Spared (core_no k2) ∷ [])
          (λ p x b z. z)
          (λ p q z.
          let p2 : List Entry = entry t i core (what.Spared (core_no k2)) ∷ p in
          let ok : (after_fence t p && is_some_of k2 (lowest (on_hand c p) 0 16)) ≡ true =
          and_both (after_fence t p) _ z
          (ap (is_some_of k2) (lowest_hand c s.spare p q.spares ∙ is)
          ∙ eq-eqb k2 k2 refl) in (
            (
              meets c last t i core (Some t) (what.Fenced ∷ ws) s.spare fc1 p
                  (what.Spared (core_no k2)) q refl refl refl ok refl refl,
              tt,
            ),
            record {
              fits = fits_as T Running (at s.mode i Running i) k2 (at s.core i k2 i) 0
                  (at s.retries i 0 i) p2 i (at_same s.mode i Running) (at_same s.core i k2)
                  (at_same s.retries i 0) (
                    record {
                      stop = ap (λ b. b || has_stop i p) (no_and (i == i)) ∙ q.stop;
                      fence_is = ap (λ b. if b then None else fence i p) (eq-eqb i i refl);
                      core_is = ap (λ b. if b then k2 else core_at i p) (eq-eqb i i refl);
                    },
                    omega arith,
                    refl,
                  );
              spares =
                  λ k. spare_gone k2 k p s.spare (bit (is_spare_number c k)) (core == k)
                  (lowest_is s.spare 0 16 k2 is) (q.spares k);
              fenced = λ k. let none : bit ((core == k) && false) ≡ 0 =
                  ap bit (no_and (core == k)) in
                  let left =
                  spare_leaves c s i k2 notes lt a (rec_alive m)
                  (lowest_is s.spare 0 16 k2 is) k in
                  omega (arith, none, q.fenced k, left);
            },
          )) notes past1 m1 (eq-eqb t t refl) in (
            (
              meets c last t i core None ws s.spare fc past what.Fenced m0 refl refl fence_ok refl
                  refl refl,
              rest.0,
            ),
            rest.1,
          );
      transfer_lost = λ m le k2 is notes w.
          let same : r ≡ T = omega (arith, le, (rec m).1) in
          let m0 = mid (rec m).0 in
          let past1 : List Entry = entry t i core what.Fenced ∷ past in
          let fc1 : ℕ → ℕ = λ k. fc k + bit (core == k) in
          let m1 = push_fenced c last t i core None ws s.spare fc past m0 in
          let fence_ok :
          (is_none (fence i past)
          && (in_turn t is_uncorrectable past || retried_in_vain T (mine i past)))
          ≡ true =
          and_both (is_none (fence i past)) _ (ap is_none m0.fence_is)
          (or_r (in_turn t is_uncorrectable past) _
          (subst (λ n. retried_in_vain n ws ≡ true) same (rec m).2)) in
          let u : What = what.Uncorrectable w in
          let rest =
          notes_then c last t i core (Some t) (what.Fenced ∷ ws) s.spare fc1
          (λ p. End c i (at s.mode i Lost i) core r s.spare (is_fenced c (stopped s i)) p)
          (λ p. in_turn t is_fence p ≡ true) (u ∷ what.Stop ∷ [])
          (λ p x b z. or_r ((t == t) && false) _ z)
          (λ p q z.
          let p1 : List Entry = entry t i core u ∷ p in
          let q1 =
          push_plain c last t i core (Some t) (what.Fenced ∷ ws) s.spare fc1 p u q
          (record {
            returned = refl;
            stop = refl;
            fence = refl;
            keeps = λ t o. refl;
            core = λ k. refl;
            spared = λ k. refl;
          }) in
          let reason : in_turn t is_reason p1 ≡ true = or_l ((t == t) && true) _ (now t true) in
          let there : in_turn t is_fence p1 ≡ true = or_r ((t == t) && false) _ z in (
            (
              meets c last t i core (Some t)
                  (what.Fenced ∷ ws) s.spare fc1 p u q refl refl refl refl refl refl,
              (
                meets c last t i core (Some t)
                    (u ∷ what.Fenced ∷ ws) s.spare fc1 p1 what.Stop q1 refl refl refl refl
                    (and_both (in_turn t is_reason p1) (in_turn t is_fence p1) reason there)
                    refl,
                tt,
              ),
            ),
            stop_end c last t i core r (Some t) (u ∷ what.Fenced ∷ ws) s.spare
                (is_fenced c (stopped s i)) fc1 p1 (at s.mode i Lost i) (at_same s.mode i Lost) q1
                (stop_leaves c s i lt a (rec_alive m)),
          )) notes past1 m1 (or_l ((t == t) && true) _ (now t true)) in (
            (
              meets c last t i core None ws s.spare fc past what.Fenced m0 refl refl fence_ok refl
                  refl refl,
              rest.0,
            ),
            rest.1,
          );
    }
