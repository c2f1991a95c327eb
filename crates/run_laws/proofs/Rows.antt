-- The rows of the table of a turn, as one case analysis.
use Rattle.std.proofs.Common.{◌≡◌, ℕ, ◌+◌, ◌<◌, ◌≤◌, Bool, true, false, List, [], ◌∷◌, ◌++◌, Option, Some, None, refl, sym, ap, ◌∙◌, subst, if◌then◌else◌, append_assoc, append-nil}
use Rattle.std.specs.Prelude.{nat_lt}
use Rattle.std.proofs.lemmas.Bool.{ltb-true, ltb-false}
use Rattle.run_model.specs.declared.faults.Note.{Note}
use Rattle.run_model.specs.declared.faults.Cause.{Cause}
use Rattle.run_model.specs.declared.faults.Mode.{Mode}
use Rattle.run_model.specs.declared.faults.Mode.TheVariants.{Running, Recovering, Lost}
use Rattle.run_model.specs.declared.logs.What.{What}
use Rattle.run_model.specs.declared.logs.What.TheVariants as what
use Rattle.esa_model.specs.declared.machine.Event.TheVariants as event
use Rattle.run_model.specs.Script.{core_no}
use Rattle.run_model.specs.Reading.{Reading}
use Rattle.esa_model.specs.Machine.{at}
use Rattle.esa_model.specs.Bus.{cpu_no}
use Rattle.run_model.specs.Cores.{Cores, Met, Did, entries_of, lost_entry, read_entries, lowest, stopped, stops, idles, recover_by, spare_by, transfer_by, attempt_by, scrub_by, by_mode, does}

-- what each row leaves
abbrev pub lost_word : Cores → ℕ → List Note → ℕ → Did
lost_word s i notes w =
    record {
      whats = entries_of notes ++ (what.Uncorrectable w ∷ what.Fenced ∷ what.Stop ∷ []);
      event = Some (event.Stop (cpu_no i));
      after = stopped s i;
    }

abbrev pub commit : Cores → ℕ → List Note → Did
commit s i notes =
    record {
      whats = entries_of notes;
      event = Some (event.Commit (cpu_no i));
      after = record s { retries = at s.retries i 0; commits = s.commits + 1 };
    }

abbrev pub fail : Cores → ℕ → List Note → Cause → ℕ → Did
fail s i notes why n =
    record {
      whats = entries_of notes ++ (what.Fail why n ∷ []);
      event = None;
      after = record s { mode = at s.mode i Recovering };
    }

abbrev pub retry : Cores → ℕ → List Note → Did
retry s i notes =
    record {
      whats = entries_of notes ++ (what.Retry (s.retries i + 1) ∷ []);
      event = None;
      after = record s {
        mode = at s.mode i Running;
        retries = at s.retries i (s.retries i + 1);
      };
    }

abbrev pub no_spare : Cores → ℕ → Did
no_spare s i =
    record {
      whats = what.Fenced ∷ what.NoSpare ∷ what.Stop ∷ [];
      event = Some (event.Stop (cpu_no i));
      after = stopped s i;
    }

abbrev pub spared : Cores → ℕ → ℕ → List Note → Did
spared s i k notes =
    record {
      whats = what.Fenced ∷ (entries_of notes ++ (what.Spared (core_no k) ∷ []));
      event = None;
      after = record s {
        core = at s.core i k;
        mode = at s.mode i Running;
        retries = at s.retries i 0;
        spare = at s.spare k false;
      };
    }

abbrev pub spare_lost : Cores → ℕ → List Note → ℕ → Did
spare_lost s i notes w =
    record {
      whats = what.Fenced ∷ (entries_of notes ++ (what.Uncorrectable w ∷ what.Stop ∷ []));
      event = Some (event.Stop (cpu_no i));
      after = stopped s i;
    }

-- what holds in each row
pub record Rows (t : ℕ) (s : Cores) (i : ℕ) (w : Bool) (P : Did → Type 0) : Type 0 where
  pub gone : s.mode i ≡ Lost → P (idles s i)
  pub waits : s.mode i ≡ Running → w ≡ true → P (idles s i)
  pub commits : s.mode i ≡ Running → w ≡ false → (notes : List Note) → P (commit s i notes)
  pub fails : s.mode i ≡ Running → (notes : List Note) (why : Cause) (n : ℕ)
      → P (fail s i notes why n)
  pub scrub_lost : s.mode i ≡ Running → (notes : List Note) (w : ℕ) → P (lost_word s i notes w)
  pub retries : s.mode i ≡ Recovering → s.retries i < t → (notes : List Note)
      → P (retry s i notes)
  pub retry_lost : s.mode i ≡ Recovering → s.retries i < t → (notes : List Note) (w : ℕ)
      → P (lost_word s i notes w)
  pub none_left : s.mode i ≡ Recovering → t ≤ s.retries i → lowest s.spare 0 16 ≡ None
      → P (no_spare s i)
  pub transfers : s.mode i ≡ Recovering → t ≤ s.retries i → (k : ℕ) → lowest s.spare 0 16 ≡ Some k
      → (notes : List Note) → P (spared s i k notes)
  pub transfer_lost : s.mode i ≡ Recovering → t ≤ s.retries i → (k : ℕ)
      → lowest s.spare 0 16 ≡ Some k → (notes : List Note) (w : ℕ) → P (spare_lost s i notes w)

none_lost : (r : Reading) → r.lost ≡ None → read_entries r ≡ entries_of r.notes
none_lost r e = ap (λ o. entries_of r.notes ++ lost_entry o) e ∙ append-nil (entries_of r.notes)

one_lost : (r : Reading) (w : ℕ) → r.lost ≡ Some w
    → read_entries r ≡ entries_of r.notes ++ (what.Uncorrectable w ∷ [])
one_lost r w e = ap (λ o. entries_of r.notes ++ lost_entry o) e

with_whats : (P : Did → Type 0) (d : Did) (ws : List What) → d.whats ≡ ws
    → P (record { whats = ws; event = d.event; after = d.after }) → P d
with_whats P d ws e h =
    subst (λ z. P (record { whats = z; event = d.event; after = d.after })) (sym e) h

lost_row : (P : Did → Type 0) (s : Cores) (i : ℕ) (r : Reading) (w : ℕ) → r.lost ≡ Some w
    → P (lost_word s i r.notes w)
    → P (stops s i (read_entries r ++ (what.Fenced ∷ what.Stop ∷ [])))
lost_row P s i r w e h =
    with_whats P (stops s i (read_entries r ++ (what.Fenced ∷ what.Stop ∷ [])))
    (lost_word s i r.notes w).whats
    (ap (λ z. z ++ (what.Fenced ∷ what.Stop ∷ [])) (one_lost r w e)
    ∙ append_assoc (entries_of r.notes) (what.Uncorrectable w ∷ [])
    (what.Fenced ∷ what.Stop ∷ [])) h

recover_row : (t : ℕ) (s : Cores) (i : ℕ) (w : Bool) (P : Did → Type 0) → Rows t s i w P
    → s.mode i ≡ Recovering → s.retries i < t → (r : Reading) (o : Option ℕ) → r.lost ≡ o
    → P (recover_by s i r o)
recover_row t s i v P rows m lt r None e =
    with_whats P (recover_by s i r None) (retry s i r.notes).whats
    (ap (λ z. z ++ (what.Retry (s.retries i + 1) ∷ [])) (none_lost r e))
    (rows.retries m lt r.notes)
recover_row t s i v P rows m lt r (Some w) e =
    lost_row P s i r w e (rows.retry_lost m lt r.notes w)

spare_row : (t : ℕ) (s : Cores) (i : ℕ) (w : Bool) (P : Did → Type 0) → Rows t s i w P
    → s.mode i ≡ Recovering → t ≤ s.retries i → (k : ℕ) → lowest s.spare 0 16 ≡ Some k
    → (r : Reading) (o : Option ℕ) → r.lost ≡ o → P (spare_by s i k r o)
spare_row t s i v P rows m le k is r None e =
    with_whats P (spare_by s i k r None) (spared s i k r.notes).whats
    (ap (λ z. what.Fenced ∷ (z ++ (what.Spared (core_no k) ∷ []))) (none_lost r e))
    (rows.transfers m le k is r.notes)
spare_row t s i v P rows m le k is r (Some w) e =
    with_whats P (spare_by s i k r (Some w)) (spare_lost s i r.notes w).whats
    (ap (λ z. what.Fenced ∷ (z ++ (what.Stop ∷ []))) (one_lost r w e)
    ∙ ap (λ z. what.Fenced ∷ z)
    (append_assoc (entries_of r.notes) (what.Uncorrectable w ∷ []) (what.Stop ∷ [])))
    (rows.transfer_lost m le k is r.notes w)

transfer_row : (t : ℕ) (s : Cores) (i : ℕ) (w : Bool) (P : Did → Type 0) → Rows t s i w P
    → s.mode i ≡ Recovering → t ≤ s.retries i → (r : Reading) (o : Option ℕ)
    → lowest s.spare 0 16 ≡ o → P (transfer_by s i r o)
transfer_row t s i v P rows m le r None is = rows.none_left m le is
transfer_row t s i v P rows m le r (Some k) is = spare_row t s i v P rows m le k is r r.lost refl

attempt_row : (t : ℕ) (s : Cores) (i : ℕ) (w : Bool) (P : Did → Type 0) → Rows t s i w P
    → s.mode i ≡ Running → w ≡ false → (notes : List Note) (n : ℕ) (o : Option Cause)
    → P (attempt_by s i (entries_of notes) n o)
attempt_row t s i v P rows m busy notes n None = rows.commits m busy notes
attempt_row t s i v P rows m busy notes n (Some why) = rows.fails m notes why n

scrub_row : (t : ℕ) (s : Cores) (i : ℕ) (x : Met) (P : Did → Type 0) → Rows t s i x.waits P
    → s.mode i ≡ Running → x.waits ≡ false → (o : Option ℕ) → x.reading.lost ≡ o
    → P (scrub_by s i x o)
scrub_row t s i x P rows m busy None e =
    subst (λ z. P (attempt_by s i z x.attempt x.cause)) (sym (none_lost x.reading e))
    (attempt_row t s i x.waits P rows m busy x.reading.notes x.attempt x.cause)
scrub_row t s i x P rows m busy (Some w) e =
    lost_row P s i x.reading w e (rows.scrub_lost m x.reading.notes w)

run_row : (t : ℕ) (s : Cores) (i : ℕ) (x : Met) (P : Did → Type 0) → Rows t s i x.waits P
    → s.mode i ≡ Running → (a b : Bool) → x.waits ≡ a
    → P (if a then idles s i
    else (if b then scrub_by s i x x.reading.lost else attempt_by s i [] x.attempt x.cause))
run_row t s i x P rows m true b is = rows.waits m is
run_row t s i x P rows m false true is = scrub_row t s i x P rows m is x.reading.lost refl
run_row t s i x P rows m false false is =
    attempt_row t s i x.waits P rows m is [] x.attempt x.cause

recovers_row : (t : ℕ) (s : Cores) (i : ℕ) (x : Met) (P : Did → Type 0) → Rows t s i x.waits P
    → s.mode i ≡ Recovering → (b : Bool) → nat_lt (s.retries i) t ≡ b
    → P (if b then recover_by s i x.reading x.reading.lost
    else transfer_by s i x.reading (lowest s.spare 0 16))
recovers_row t s i x P rows m true e =
    recover_row t s i x.waits P rows m (ltb-true (s.retries i) t e) x.reading x.reading.lost refl
recovers_row t s i x P rows m false e =
    transfer_row t s i x.waits P rows m (ltb-false (s.retries i) t e) x.reading
    (lowest s.spare 0 16) refl

mode_row : (t : ℕ) (s : Cores) (i : ℕ) (x : Met) (P : Did → Type 0) → Rows t s i x.waits P
    → (m : Mode) → s.mode i ≡ m → P (by_mode t s i x m)
mode_row t s i x P rows Running e = run_row t s i x P rows e x.waits x.scrubs refl
mode_row t s i x P rows Recovering e = recovers_row t s i x P rows e (nat_lt (s.retries i) t) refl
mode_row t s i x P rows Lost e = rows.gone e

-- what holds in each row holds of the turn
pub does_by : (t : ℕ) (s : Cores) (i : ℕ) (x : Met) (P : Did → Type 0) → Rows t s i x.waits P
    → P (does t s i x)
unfolding does
does_by t s i x P rows = mode_row t s i x P rows (s.mode i) refl
