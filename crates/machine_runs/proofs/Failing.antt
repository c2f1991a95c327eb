-- A turn of a CPU tells FAIL of what it met alone: of its attempt, with its cause.
use Rattle.std.proofs.Common.{◌≡◌, ℕ, ◌+◌, Bool, true, false, List, [], ◌∷◌, ◌++◌, Option, Some, None, refl, sym, ◌∙◌, subst, if◌then◌else◌}
use Rattle.std.specs.Prelude.{⊤, nat_lt}
use Rattle.std.proofs.lemmas.List.Elements.{All-cons, All-nil}
use Rattle.run_model.specs.declared.faults.Cause.{Cause}
use Rattle.run_model.specs.declared.faults.Mode.{Mode}
use Rattle.run_model.specs.declared.faults.Mode.TheVariants.{Running, Recovering, Lost}
use Rattle.run_model.specs.declared.faults.Note.{Note}
use Rattle.run_model.specs.declared.faults.Strike.{Strike}
use Rattle.run_model.specs.declared.logs.Entry.{Entry}
use Rattle.run_model.specs.declared.logs.What.{What}
use Rattle.run_model.specs.declared.logs.What.TheVariants as what
use Rattle.run_model.specs.Cores.{Cores, Met, attempt_by, by_mode, does, entries_of, idles, lost_entry, lowest, read_entries, recover_by, return_by, scrub_by, spare_by, stamped, transfer_by}
use Rattle.run_model.specs.Reading.{Reading}
use Rattle.run_model.specs.Script.{core_no}
use Rattle.run_model.specs.Strikes.{cause}
use Rattle.run_loop.specs.Engines.{FailsAsStruck, IsStruck}

-- of what was met
abbrev AsMet : Met → What → Type 0
AsMet x (what.Fail why n) = (x.cause ≡ Some why) × (n ≡ x.attempt)
AsMet x w = ⊤

abbrev pub AllAsMet : Met → List What → Type 0
AllAsMet x [] = ⊤
AllAsMet x (w ∷ ws) = AsMet x w × AllAsMet x ws

met_append : (x : Met) (ws vs : List What) → AllAsMet x ws → AllAsMet x vs
    → AllAsMet x (ws ++ vs)
met_append x [] vs a b = b
met_append x (w ∷ ws) vs a b = (a.0, met_append x ws vs a.1 b)

notes_met : (x : Met) (notes : List Note) → AllAsMet x (entries_of notes)
notes_met x [] = tt
notes_met x (n ∷ notes) = (tt, notes_met x notes)

lost_met : (x : Met) (lost : Option ℕ) → AllAsMet x (lost_entry lost)
lost_met x None = tt
lost_met x (Some w) = (tt, tt)

read_met : (x : Met) (r : Reading) → AllAsMet x (read_entries r)
read_met x r = met_append x (entries_of r.notes) (lost_entry r.lost) (notes_met x r.notes)
    (lost_met x r.lost)

attempt_met : (x : Met) (s : Cores) (i : ℕ) (ws : List What) (o : Option Cause) → x.cause ≡ o
    → AllAsMet x ws → AllAsMet x (attempt_by s i ws x.attempt o).whats
attempt_met x s i ws None e h = h
attempt_met x s i ws (Some why) e h =
    met_append x ws (what.Fail why x.attempt ∷ []) h ((e, refl), tt)

scrub_met : (x : Met) (s : Cores) (i : ℕ) (lost : Option ℕ)
    → AllAsMet x (scrub_by s i x lost).whats
scrub_met x s i None = attempt_met x s i (read_entries x.reading) x.cause refl (read_met x x.reading)
scrub_met x s i (Some w) =
    met_append x (read_entries x.reading) (what.Fenced ∷ what.Stop ∷ []) (read_met x x.reading)
    (tt, (tt, tt))

runs_met : (x : Met) (s : Cores) (i : ℕ) (waits scrubs : Bool)
    → AllAsMet x (if waits then idles s i
    else (if scrubs then scrub_by s i x x.reading.lost
    else attempt_by s i [] x.attempt x.cause)).whats
runs_met x s i true scrubs = tt
runs_met x s i false true = scrub_met x s i x.reading.lost
runs_met x s i false false = attempt_met x s i [] x.cause refl tt

recover_met : (x : Met) (s : Cores) (i : ℕ) (r : Reading) (lost : Option ℕ)
    → AllAsMet x (recover_by s i r lost).whats
recover_met x s i r None =
    met_append x (read_entries r) (what.Retry (s.retries i + 1) ∷ []) (read_met x r) (tt, tt)
recover_met x s i r (Some w) =
    met_append x (read_entries r) (what.Fenced ∷ what.Stop ∷ []) (read_met x r) (tt, (tt, tt))

spare_met : (x : Met) (s : Cores) (i k : ℕ) (r : Reading) (lost : Option ℕ)
    → AllAsMet x (spare_by s i k r lost).whats
spare_met x s i k r None =
    (tt, met_append x (read_entries r) (what.Spared (core_no k) ∷ []) (read_met x r) (tt, tt))
spare_met x s i k r (Some w) =
    (tt, met_append x (read_entries r) (what.Stop ∷ []) (read_met x r) (tt, tt))

transfer_met : (x : Met) (s : Cores) (i : ℕ) (r : Reading) (spare : Option ℕ)
    → AllAsMet x (transfer_by s i r spare).whats
transfer_met x s i r None = (tt, (tt, (tt, tt)))
transfer_met x s i r (Some k) = spare_met x s i k r r.lost

recovers_met : (x : Met) (s : Cores) (i : ℕ) (below : Bool)
    → AllAsMet x (if below then recover_by s i x.reading x.reading.lost
    else transfer_by s i x.reading (lowest s.spare 0 16)).whats
recovers_met x s i true = recover_met x s i x.reading x.reading.lost
recovers_met x s i false = transfer_met x s i x.reading (lowest s.spare 0 16)

mode_met : (t : ℕ) (x : Met) (s : Cores) (i : ℕ) (m : Mode)
    → AllAsMet x (by_mode t s i x m).whats
mode_met t x s i Lost = tt
mode_met t x s i Recovering = recovers_met x s i (nat_lt (s.retries i) t)
mode_met t x s i Running = runs_met x s i x.waits x.scrubs

pub does_met : (t : ℕ) (x : Met) (s : Cores) (i : ℕ) → AllAsMet x (does t s i x).whats
unfolding does
does_met t x s i = mode_met t x s i (s.mode i)

-- ---- so it fails as it is struck, where the cause that is met is the script's

what_struck : (ls : List Strike) (c : ℕ) (x : Met) (w : What) → x.cause ≡ cause ls c x.attempt
    → AsMet x w → IsStruck ls c w
what_struck ls c x (what.Fail why n) e h =
    subst (λ k. cause ls c k ≡ Some why) (sym h.1) (sym e ∙ h.0)
what_struck ls c x (what.Retry r) e h = tt
what_struck ls c x (what.Corrected word bit) e h = tt
what_struck ls c x (what.Uncorrectable word) e h = tt
what_struck ls c x what.Fenced e h = tt
what_struck ls c x (what.Spared k) e h = tt
what_struck ls c x what.NoSpare e h = tt
what_struck ls c x what.Stop e h = tt
what_struck ls c x what.Returned e h = tt

pub stamped_struck : (ls : List Strike) (turn cpu c : ℕ) (x : Met) (ws : List What)
    → x.cause ≡ cause ls c x.attempt → AllAsMet x ws
    → FailsAsStruck ls (stamped turn cpu c ws)
stamped_struck ls turn cpu c x [] e h = All-nil (λ (y : Entry). IsStruck ls y.core.0 y.what)
stamped_struck ls turn cpu c x (w ∷ ws) e h =
    All-cons (λ (y : Entry). IsStruck ls y.core.0 y.what)
    (record { turn = turn; cpu = record { 0 = cpu }; core = core_no c; what = w })
    (stamped turn cpu c ws) (what_struck ls c x w e h.0) (stamped_struck ls turn cpu c x ws e h.1)

-- a turn that returns a core has no failure
pub returned_struck : (ls : List Strike) (s : Cores) (k : ℕ) (b : Bool)
    → FailsAsStruck ls (return_by s k b).outline.entries
returned_struck ls s k true =
    All-cons (λ (y : Entry). IsStruck ls y.core.0 y.what)
    (record { turn = s.turns + 1; cpu = record { 0 = 255 }; core = core_no k; what = what.Returned })
    [] tt (All-nil (λ (y : Entry). IsStruck ls y.core.0 y.what))
returned_struck ls s k false = All-nil (λ (y : Entry). IsStruck ls y.core.0 y.what)
