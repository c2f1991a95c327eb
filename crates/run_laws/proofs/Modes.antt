-- Each row of the table of a turn keeps modes, retries and log entries together.
use Rattle.std.proofs.Common.{◌≡◌, ℕ, ◌+◌, ◌≤◌, Bool, true, false, List, [], ◌∷◌, ◌++◌, refl, sym, ap, ◌∙◌, eq-eqb, eqb-true, append-nil}
use Rattle.std.specs.Prelude.{◌==◌, ◌||◌}
use Rattle.std.specs.List.{list_any}
use Rattle.std.proofs.lemmas.Bool.{false≢true, true≢false}
use Rattle.run_model.specs.declared.faults.Mode.{Mode}
use Rattle.run_model.specs.declared.faults.Mode.TheVariants.{Running, Recovering, Lost}
use Rattle.run_model.specs.declared.faults.Note.{Note}
use Rattle.run_model.specs.declared.logs.What.{What}
use Rattle.run_model.specs.declared.logs.What.TheVariants as what
use Rattle.run_model.specs.Cores.{Cores, Met, Did, does, entries_of}
use Rattle.run_model.specs.Script.{core_no}
use Rattle.run_model.specs.Since.{commits_of}
use Rattle.run_model.specs.Sorts.{is_fail, is_retry, is_retry_of, is_spared, is_no_spare, is_stop, is_reason}
use Rattle.run_laws.specs.TurnModes.{TurnModes}
use Rattle.run_laws.proofs.At.{at_same}
use Rattle.run_laws.proofs.Rows.{Rows, does_by, commit, lost_word, no_spare, spare_lost}
use Rattle.run_laws.proofs.Tallies.{any_notes}

-- a sort that no correction is
abbrev pub Other : (What → Bool) → Type 0
Other p = (w b : ℕ) → p (what.Corrected w b) ≡ false

none_here : (p : What → Bool) → Other p → (notes : List Note) (ws : List What)
    → list_any p ws ≡ false → list_any p (entries_of notes ++ ws) ≡ false
none_here p other notes ws e = any_notes p other notes ws ∙ e

some_here : (p : What → Bool) → Other p → (notes : List Note) (ws : List What)
    → list_any p ws ≡ true → list_any p (entries_of notes ++ ws) ≡ true
some_here p other notes ws e = any_notes p other notes ws ∙ e

never : {P : Type 0} (b : Bool) → b ≡ false → b ≡ true → P
never b is_not is = absurd (false≢true (sym is_not ∙ is))

not_so : {P : Type 0} (b : Bool) → b ≡ true → b ≡ false → P
not_so b is is_not = absurd (true≢false (sym is ∙ is_not))

mode_kept : (s : Cores) (i : ℕ) (m n : Mode) → s.mode i ≡ m → s.mode i ≡ n → m ≡ n
mode_kept s i m n a b = sym a ∙ b

running_is_not : {P : Type 0} → Running ≡ Recovering → P
running_is_not e = absurd cc

lost_is_not : {P : Type 0} → Lost ≡ Recovering → P
lost_is_not e = absurd cc

-- a turn without entries that leaves the CPU's mode and retries
quiet : (t : ℕ) (s : Cores) (i : ℕ) (m : Mode) (d : Did) → s.mode i ≡ m
    → (d.after.mode i ≡ Recovering → m ≡ Recovering) → (m ≡ Recovering → ⊥)
    → list_any is_fail d.whats ≡ false → ((n : ℕ) → list_any (is_retry_of n) d.whats ≡ false)
    → list_any is_no_spare d.whats ≡ false → list_any is_stop d.whats ≡ false
    → ((commits_of i d.event || list_any is_spared d.whats) ≡ true → d.after.retries i ≡ 0)
    → ((commits_of i d.event || list_any is_spared d.whats) ≡ false
    → d.after.retries i ≡ s.retries i) → TurnModes t s i d
quiet t s i m d is after other no_fail no_retry no_none no_stop cleared kept = record {
  fails = λ h. never (list_any is_fail d.whats) no_fail h;
  recovers = λ h. absurd (other (after h));
  retries = λ n h. never (list_any (is_retry_of n) d.whats) (no_retry n) h;
  none_left = λ h. never (list_any is_no_spare d.whats) no_none h;
  stops = λ h. never (list_any is_stop d.whats) no_stop h;
  cleared = cleared;
  kept = λ h g. kept h;
}

-- a turn that stops the CPU
stopping : (t : ℕ) (s : Cores) (i : ℕ) (d : Did) → d.after.mode i ≡ Lost
    → list_any is_fail d.whats ≡ false → ((n : ℕ) → list_any (is_retry_of n) d.whats ≡ false)
    → (list_any is_no_spare d.whats ≡ true → (s.mode i ≡ Recovering) × (t ≤ s.retries i))
    → list_any is_reason d.whats ≡ true
    → (commits_of i d.event || list_any is_spared d.whats) ≡ false → d.after.retries i ≡ s.retries i
    → TurnModes t s i d
stopping t s i d lost no_fail no_retry none_left reason not_cleared same = record {
  fails = λ h. never (list_any is_fail d.whats) no_fail h;
  recovers = λ h. lost_is_not (sym lost ∙ h);
  retries = λ n h. never (list_any (is_retry_of n) d.whats) (no_retry n) h;
  none_left = none_left;
  stops = λ h. reason;
  cleared = λ h. never (commits_of i d.event || list_any is_spared d.whats) not_cleared h;
  kept = λ h g. same;
}

lost_row : (t : ℕ) (s : Cores) (i : ℕ) (notes : List Note) (w : ℕ)
    → TurnModes t s i (lost_word s i notes w)
lost_row t s i notes w =
    let tail : List What = what.Uncorrectable w ∷ what.Fenced ∷ what.Stop ∷ [] in
    stopping t s i (lost_word s i notes w) (at_same s.mode i Lost)
    (none_here is_fail (λ w b. refl) notes tail refl)
    (λ n. none_here (is_retry_of n) (λ w b. refl) notes tail refl)
    (λ h. never (list_any is_no_spare (entries_of notes ++ tail))
    (none_here is_no_spare (λ w b. refl) notes tail refl) h)
    (some_here is_reason (λ w b. refl) notes tail refl)
    (none_here is_spared (λ w b. refl) notes tail refl) refl

modes_rows : (t : ℕ) (s : Cores) (i : ℕ) (v : Bool) → Rows t s i v (TurnModes t s i)
modes_rows t s i v = record {
  gone = λ m.
      quiet t s i Lost _ m (λ h. sym m ∙ h) lost_is_not refl (λ n. refl) refl refl
      (λ h. absurd (false≢true h)) (λ h. refl);
  waits = λ m w.
      quiet t s i Running _ m (λ h. sym m ∙ h) running_is_not refl (λ n. refl) refl refl
      (λ h. absurd (false≢true h)) (λ h. refl);
  commits = λ m w notes.
      let none : (p : What → Bool) → Other p
      → list_any p (entries_of notes) ≡ false =
      λ p other. ap (list_any p) (sym (append-nil (entries_of notes)))
      ∙ none_here p other notes [] refl in
      quiet t s i Running (commit s i notes) m (λ h. sym m ∙ h) running_is_not
      (none is_fail (λ w b. refl)) (λ n. none (is_retry_of n) (λ w b. refl))
      (none is_no_spare (λ w b. refl)) (none is_stop (λ w b. refl))
      (λ h. at_same s.retries i 0)
      (λ h. not_so ((i == i) || list_any is_spared (entries_of notes))
      (ap (λ b. b || list_any is_spared (entries_of notes)) (eq-eqb i i refl)) h);
  fails = λ m notes why n.
      let tail : List What = what.Fail why n ∷ [] in
      record {
        fails = λ h. (m, at_same s.mode i Recovering);
        recovers = λ h. some_here is_fail (λ w b. refl) notes tail refl;
        retries =
            λ k h. never (list_any (is_retry_of k) (entries_of notes ++ tail))
            (none_here (is_retry_of k) (λ w b. refl) notes tail refl) h;
        none_left =
            λ h. never (list_any is_no_spare (entries_of notes ++ tail))
            (none_here is_no_spare (λ w b. refl) notes tail refl) h;
        stops = λ h.
            never (list_any is_stop (entries_of notes ++ tail))
            (none_here is_stop (λ w b. refl) notes tail refl) h;
        cleared =
            λ h. never (list_any is_spared (entries_of notes ++ tail))
            (none_here is_spared (λ w b. refl) notes tail refl) h;
        kept = λ h g. refl;
      };
  scrub_lost = λ m notes w. lost_row t s i notes w;
  retries = λ m lt notes.
      let tail : List What = what.Retry (s.retries i + 1) ∷ [] in
      record {
        fails = λ h.
            never (list_any is_fail (entries_of notes ++ tail))
            (none_here is_fail (λ w b. refl) notes tail refl) h;
        recovers = λ h. running_is_not (sym (at_same s.mode i Running) ∙ h);
        retries = λ n h.
            let one : (((s.retries i + 1) == n) || false) ≡ true =
            sym (any_notes (is_retry_of n) (λ w b. refl) notes tail) ∙ h in
            let is : s.retries i + 1 ≡ n =
            eqb-true (s.retries i + 1) n (or_no ((s.retries i + 1) == n) one) in
            (m, lt, sym is, at_same s.mode i Running, at_same s.retries i (s.retries i + 1) ∙ is);
        none_left =
            λ h. never (list_any is_no_spare (entries_of notes ++ tail))
            (none_here is_no_spare (λ w b. refl) notes tail refl) h;
        stops = λ h.
            never (list_any is_stop (entries_of notes ++ tail))
            (none_here is_stop (λ w b. refl) notes tail refl) h;
        cleared =
            λ h. never (list_any is_spared (entries_of notes ++ tail))
            (none_here is_spared (λ w b. refl) notes tail refl) h;
        kept = λ h g.
            not_so (list_any is_retry (entries_of notes ++ tail))
            (some_here is_retry (λ w b. refl) notes tail refl) g;
      };
  retry_lost = λ m lt notes w. lost_row t s i notes w;
  none_left =
      λ m le none.
      stopping t s i (no_spare s i) (at_same s.mode i Lost) refl (λ n. refl)
      (λ h. (m, le)) refl refl refl;
  transfers = λ m le k is notes.
      let tail : List What = what.Spared (core_no k) ∷ [] in
      record {
        fails = λ h.
            never (list_any is_fail (entries_of notes ++ tail))
            (none_here is_fail (λ w b. refl) notes tail refl) h;
        recovers = λ h. running_is_not (sym (at_same s.mode i Running) ∙ h);
        retries =
            λ n h. never (list_any (is_retry_of n) (entries_of notes ++ tail))
            (none_here (is_retry_of n) (λ w b. refl) notes tail refl) h;
        none_left =
            λ h. never (list_any is_no_spare (entries_of notes ++ tail))
            (none_here is_no_spare (λ w b. refl) notes tail refl) h;
        stops = λ h.
            never (list_any is_stop (entries_of notes ++ tail))
            (none_here is_stop (λ w b. refl) notes tail refl) h;
        cleared = λ h. at_same s.retries i 0;
        kept = λ h g.
            not_so (list_any is_spared (entries_of notes ++ tail))
            (some_here is_spared (λ w b. refl) notes tail refl) h;
      };
  transfer_lost = λ m le k is notes w.
      let tail : List What = what.Uncorrectable w ∷ what.Stop ∷ [] in
      stopping t s i (spare_lost s i notes w) (at_same s.mode i Lost)
      (none_here is_fail (λ w b. refl) notes tail refl)
      (λ n. none_here (is_retry_of n) (λ w b. refl) notes tail refl)
      (λ h. (m, le))
      (some_here is_reason (λ w b. refl) notes tail refl)
      (none_here is_spared (λ w b. refl) notes tail refl) refl;
}
  where
    or_no : (b : Bool) → (b || false) ≡ true → b ≡ true
    or_no true e = refl
    or_no false e = e

pub modes_of_turn : (t : ℕ) (s : Cores) (i : ℕ) (x : Met) → TurnModes t s i (does t s i x)
modes_of_turn t s i x = does_by t s i x (TurnModes t s i) (modes_rows t s i x.waits)
