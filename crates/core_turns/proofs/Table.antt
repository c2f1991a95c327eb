-- What the table of turns does where this is met on the silicon: each row with its literal entries.
use Rattle.std.proofs.Common.{◌≡◌, ℕ, ◌+◌, ◌<◌, ◌≤◌, Bool, true, false, List, [], ◌∷◌, ◌++◌, Option, Some, None, refl, sym, ap, ◌∙◌, append-nil, append_assoc, if◌then◌else◌}
use Rattle.std.specs.Prelude.{nat_lt}
use Rattle.std.proofs.lemmas.Bool.{lt-ltb, le-ltb}
use Rattle.run_model.specs.declared.faults.Cause.{Cause}
use Rattle.run_model.specs.declared.faults.Mode.{Mode}
use Rattle.run_model.specs.declared.faults.Mode.TheVariants.{Running, Recovering, Lost}
use Rattle.run_model.specs.declared.faults.Note.{Note}
use Rattle.run_model.specs.declared.logs.What.{What}
use Rattle.run_model.specs.declared.logs.What.TheVariants as what
use Rattle.run_model.specs.Reading.{Reading}
use Rattle.run_model.specs.Cores.{Cores, Met, does, by_mode, idles, recover_by, spare_by, transfer_by, attempt_by, scrub_by, stops, lowest, entries_of, read_entries}
use Rattle.run_laws.proofs.Rows.{lost_word, commit, fail, retry, no_spare, spared, spare_lost}
use Rattle.silicon.specs.Chip.{Chip}
use Rattle.core_states.specs.Words.{is_due, read_core, scrub_reading, nothing_read}
use Rattle.core_turns.specs.Meeting.{met_on_chip}

abbrev pub reads : List Note → Option ℕ → Reading
reads notes lost = record { notes = notes; lost = lost }

does_at : (t : ℕ) (s : Cores) (i : ℕ) (x : Met) (m : Mode) → s.mode i ≡ m
    → does t s i x ≡ by_mode t s i x m
unfolding does
does_at t s i x m e = ap (by_mode t s i x) e

pub gone : (t : ℕ) (s : Cores) (i : ℕ) (x : Met) → s.mode i ≡ Lost → does t s i x ≡ idles s i
gone t s i x m = does_at t s i x Lost m

pub waited : (t : ℕ) (s : Cores) (i : ℕ) (z : Chip) (why : Option Cause) → s.mode i ≡ Running
    → does t s i (met_on_chip z true (s.core i) why) ≡ idles s i
waited t s i z why m = does_at t s i (met_on_chip z true (s.core i) why) Running m

-- ---- running

pub none_read : (notes : List Note) (lost : Option ℕ) → nothing_read ≡ reads notes lost
    → (notes ≡ []) × (lost ≡ None)
none_read notes lost e =
    (sym (ap (λ (r : Reading). r.notes) e), sym (ap (λ (r : Reading). r.lost) e))

-- the attempt is made: the words were read well where that was due
attempted_by : (s : Cores) (i : ℕ) (x : Met) (b : Bool) (notes : List Note)
    → (if b then x.reading else nothing_read) ≡ reads notes None
    → (if b then scrub_by s i x x.reading.lost else attempt_by s i [] x.attempt x.cause)
    ≡ attempt_by s i (entries_of notes) x.attempt x.cause
attempted_by s i x true notes e =
    ap (scrub_by s i x) (ap (λ (r : Reading). r.lost) e)
    ∙ ap (λ (ws : List What). attempt_by s i ws x.attempt x.cause)
    (ap read_entries e ∙ append-nil (entries_of notes))
attempted_by s i x false notes e =
    ap (λ (ns : List Note). attempt_by s i (entries_of ns) x.attempt x.cause)
    (sym (none_read notes None e).0 ∙ refl)

attempted : (t : ℕ) (s : Cores) (i : ℕ) (z : Chip) (why : Option Cause) (notes : List Note)
    → s.mode i ≡ Running → scrub_reading z (s.core i) ≡ reads notes None
    → does t s i (met_on_chip z false (s.core i) why)
    ≡ attempt_by s i (entries_of notes) (z.begun (s.core i)) why
unfolding scrub_reading
attempted t s i z why notes m read =
    does_at t s i (met_on_chip z false (s.core i) why) Running m
    ∙ attempted_by s i (met_on_chip z false (s.core i) why) (is_due z (s.core i)) notes read

pub committed : (t : ℕ) (s : Cores) (i : ℕ) (z : Chip) (notes : List Note) → s.mode i ≡ Running
    → scrub_reading z (s.core i) ≡ reads notes None
    → does t s i (met_on_chip z false (s.core i) None) ≡ commit s i notes
committed t s i z notes m read = attempted t s i z None notes m read

pub failed : (t : ℕ) (s : Cores) (i : ℕ) (z : Chip) (why : Cause) (notes : List Note)
    → s.mode i ≡ Running → scrub_reading z (s.core i) ≡ reads notes None
    → does t s i (met_on_chip z false (s.core i) (Some why))
    ≡ fail s i notes why (z.begun (s.core i))
failed t s i z why notes m read = attempted t s i z (Some why) notes m read

lost_entries : (notes : List Note) (w : ℕ)
    → read_entries (reads notes (Some w)) ++ (what.Fenced ∷ what.Stop ∷ [])
    ≡ entries_of notes ++ (what.Uncorrectable w ∷ what.Fenced ∷ what.Stop ∷ [])
lost_entries notes w =
    append_assoc (entries_of notes) (what.Uncorrectable w ∷ []) (what.Fenced ∷ what.Stop ∷ [])

scrub_lost_by : (s : Cores) (i : ℕ) (x : Met) (b : Bool) (notes : List Note) (w : ℕ)
    → (if b then x.reading else nothing_read) ≡ reads notes (Some w)
    → (if b then scrub_by s i x x.reading.lost else attempt_by s i [] x.attempt x.cause)
    ≡ lost_word s i notes w
scrub_lost_by s i x true notes w e =
    ap (scrub_by s i x) (ap (λ (r : Reading). r.lost) e)
    ∙ ap (λ (r : Reading). stops s i (read_entries r ++ (what.Fenced ∷ what.Stop ∷ []))) e
    ∙ ap (stops s i) (lost_entries notes w)
scrub_lost_by s i x false notes w e = let l = (none_read notes (Some w) e).1 in absurd cc

pub scrub_lost : (t : ℕ) (s : Cores) (i : ℕ) (z : Chip) (why : Option Cause) (notes : List Note)
    (w : ℕ) → s.mode i ≡ Running → scrub_reading z (s.core i) ≡ reads notes (Some w)
    → does t s i (met_on_chip z false (s.core i) why) ≡ lost_word s i notes w
unfolding scrub_reading
scrub_lost t s i z why notes w m read =
    does_at t s i (met_on_chip z false (s.core i) why) Running m
    ∙ scrub_lost_by s i (met_on_chip z false (s.core i) why) (is_due z (s.core i)) notes w read

-- ---- recovering

recovering_is : (t : ℕ) (s : Cores) (i : ℕ) (x : Met) (b : Bool) → s.mode i ≡ Recovering
    → nat_lt (s.retries i) t ≡ b
    → does t s i x ≡ (if b then recover_by s i x.reading x.reading.lost
    else transfer_by s i x.reading (lowest s.spare 0 16))
recovering_is t s i x b m e =
    does_at t s i x Recovering m
    ∙ ap (λ (c : Bool). if c then recover_by s i x.reading x.reading.lost
    else transfer_by s i x.reading (lowest s.spare 0 16)) e

pub recovered : (t : ℕ) (s : Cores) (i : ℕ) (z : Chip) (waits : Bool) (why : Option Cause)
    (notes : List Note) → s.mode i ≡ Recovering → s.retries i < t
    → read_core z (s.core i) ≡ reads notes None
    → does t s i (met_on_chip z waits (s.core i) why) ≡ retry s i notes
recovered t s i z waits why notes m lt read =
    recovering_is t s i (met_on_chip z waits (s.core i) why) true m (lt-ltb (s.retries i) t lt)
    ∙ ap (λ (r : Reading). recover_by s i r r.lost) read
    ∙ ap (λ (ws : List What). record (retry s i notes) {
      whats = ws ++ what.Retry (s.retries i + 1) ∷ [];
    }) (append-nil (entries_of notes))

pub unrecovered : (t : ℕ) (s : Cores) (i : ℕ) (z : Chip) (waits : Bool) (why : Option Cause)
    (notes : List Note) (w : ℕ) → s.mode i ≡ Recovering → s.retries i < t
    → read_core z (s.core i) ≡ reads notes (Some w)
    → does t s i (met_on_chip z waits (s.core i) why) ≡ lost_word s i notes w
unrecovered t s i z waits why notes w m lt read =
    recovering_is t s i (met_on_chip z waits (s.core i) why) true m (lt-ltb (s.retries i) t lt)
    ∙ ap (λ (r : Reading). recover_by s i r r.lost) read
    ∙ ap (stops s i) (lost_entries notes w)

transferred : (t : ℕ) (s : Cores) (i : ℕ) (x : Met) (o : Option ℕ) → s.mode i ≡ Recovering
    → t ≤ s.retries i → lowest s.spare 0 16 ≡ o → does t s i x ≡ transfer_by s i x.reading o
transferred t s i x o m le is =
    recovering_is t s i x false m (le-ltb (s.retries i) t le)
    ∙ ap (transfer_by s i x.reading) is

pub none_left : (t : ℕ) (s : Cores) (i : ℕ) (z : Chip) (waits : Bool) (why : Option Cause)
    → s.mode i ≡ Recovering → t ≤ s.retries i → lowest s.spare 0 16 ≡ None
    → does t s i (met_on_chip z waits (s.core i) why) ≡ no_spare s i
none_left t s i z waits why m le is =
    transferred t s i (met_on_chip z waits (s.core i) why) None m le is

pub handed : (t : ℕ) (s : Cores) (i : ℕ) (z : Chip) (waits : Bool) (why : Option Cause) (k : ℕ)
    (notes : List Note) → s.mode i ≡ Recovering → t ≤ s.retries i → lowest s.spare 0 16 ≡ Some k
    → read_core z (s.core i) ≡ reads notes None
    → does t s i (met_on_chip z waits (s.core i) why) ≡ spared s i k notes
handed t s i z waits why k notes m le is read =
    transferred t s i (met_on_chip z waits (s.core i) why) (Some k) m le is
    ∙ ap (λ (r : Reading). spare_by s i k r r.lost) read
    ∙ ap (λ (ws : List What). record (spared s i k notes) {
      whats = what.Fenced ∷ (ws ++ what.Spared (record { 0 = k }) ∷ []);
    })
    (append-nil (entries_of notes))

pub not_handed : (t : ℕ) (s : Cores) (i : ℕ) (z : Chip) (waits : Bool) (why : Option Cause) (k : ℕ)
    (notes : List Note) (w : ℕ) → s.mode i ≡ Recovering → t ≤ s.retries i
    → lowest s.spare 0 16 ≡ Some k → read_core z (s.core i) ≡ reads notes (Some w)
    → does t s i (met_on_chip z waits (s.core i) why) ≡ spare_lost s i notes w
not_handed t s i z waits why k notes w m le is read =
    transferred t s i (met_on_chip z waits (s.core i) why) (Some k) m le is
    ∙ ap (λ (r : Reading). spare_by s i k r r.lost) read
    ∙ ap (λ (ws : List What). stops s i (what.Fenced ∷ ws))
    (append_assoc (entries_of notes) (what.Uncorrectable w ∷ []) (what.Stop ∷ []))
