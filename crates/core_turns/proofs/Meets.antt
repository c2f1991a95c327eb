-- What a turn meets on the silicon is what it meets by the definitions; and where it commits, an
-- attempt begins.
use Rattle.std.proofs.Common.{◌≡◌, ℕ, ◌+◌, Bool, true, false, List, [], Option, Some, None, refl, sym, ap, ◌∙◌, if◌then◌else◌}
use Rattle.std.specs.Prelude.{◌==◌, ◌%◌, nat_lt}
use Rattle.esa_model.specs.Bus.{cpu_no}
use Rattle.esa_model.specs.Machine.{Machine, idle}
use Rattle.esa_model.specs.declared.machine.Event.TheVariants.{Commit}
use Rattle.esa_model.specs.declared.machine.Registers.{Registers}
use Rattle.run_model.specs.declared.faults.Cause.{Cause}
use Rattle.run_model.specs.declared.faults.Mode.{Mode}
use Rattle.run_model.specs.declared.faults.Mode.TheVariants.{Running, Recovering, Lost}
use Rattle.run_model.specs.declared.faults.Strike.{Strike}
use Rattle.run_model.specs.declared.logs.What.{What}
use Rattle.run_model.specs.Cores.{Cores, Did, Met, is_lost, lowest, idles, attempt_by, scrub_by, recover_by, spare_by, transfer_by, by_mode, does}
use Rattle.run_model.specs.Fate.{Bits, Fate, Sight, bits, bits_by, mend, met, met_on, read, scrub_bits, attempted, strike, sight, written}
use Rattle.run_model.specs.Reading.{Reading}
use Rattle.run_model.specs.Strikes.{cause}
use Rattle.run_laws.proofs.At.{at_same}
use Rattle.silicon.specs.Chip.{Chip}
use Rattle.checkpoint_laws.specs.Turn.{BeforeTurn}
use Rattle.checkpoint_laws.proofs.Begun.{fate_due, fate_reads}
use Rattle.core_turns.specs.Meeting.{met_on_chip}

-- ---- what is met

same_met : (w scrubs scrubs2 : Bool) (r r2 : Reading) (n n2 : ℕ) (o o2 : Option Cause)
    → scrubs ≡ scrubs2 → r ≡ r2 → n ≡ n2 → o ≡ o2
    → ◌≡◌ {A = Met} (record { waits = w; scrubs = scrubs; reading = r; attempt = n; cause = o })
    (record { waits = w; scrubs = scrubs2; reading = r2; attempt = n2; cause = o2 })
same_met w scrubs scrubs2 r r2 n n2 o o2 a b c d =
    λ i. record { waits = w; scrubs = a i; reading = b i; attempt = c i; cause = d i }

met_before : (m : Machine) (z : Chip) (s : Fate) (i : ℕ) (r : Registers) (why : Option Cause)
    → BeforeTurn z s (s.cores.core i) r
    → why ≡ cause z.lines (s.cores.core i) (z.begun (s.cores.core i))
    → met_on_chip z (idle m i) (s.cores.core i) why ≡ met z.lines (sight m i) s i
unfolding met
met_before m z s i r why h is =
    same_met (idle m i) _ _ _ _ _ _ _ _ (fate_due z s (s.cores.core i) r h)
    (fate_reads z s (s.cores.core i) r h) h.begun
    (is ∙ ap (cause z.lines (s.cores.core i)) h.begun)

does_as : (t : ℕ) (s : Cores) (i : ℕ) (x y : Met) (mode : Mode) → s.mode i ≡ mode
    → by_mode t s i x mode ≡ by_mode t s i y mode → does t s i x ≡ does t s i y
unfolding does
does_as t s i x y mode is same =
    ap (by_mode t s i x) is ∙ (same ∙ sym (ap (by_mode t s i y) is))

-- of a CPU that is lost nothing is met
pub same_turn : (m : Machine) (z : Chip) (t : ℕ) (s : Fate) (i : ℕ) (r : Registers)
    (why : Option Cause) (mode : Mode) → s.cores.mode i ≡ mode
    → (is_lost (s.cores.mode i) ≡ false → BeforeTurn z s (s.cores.core i) r)
    → why ≡ cause z.lines (s.cores.core i) (z.begun (s.cores.core i))
    → does t s.cores i (met_on_chip z (idle m i) (s.cores.core i) why)
    ≡ does t s.cores i (met z.lines (sight m i) s i)
same_turn m z t s i r why Lost is h cause_is =
    does_as t s.cores i (met_on_chip z (idle m i) (s.cores.core i) why)
    (met z.lines (sight m i) s i) Lost is refl
same_turn m z t s i r why Running is h cause_is =
    ap (does t s.cores i) (met_before m z s i r why (h (ap is_lost is)) cause_is)
same_turn m z t s i r why Recovering is h cause_is =
    ap (does t s.cores i) (met_before m z s i r why (h (ap is_lost is)) cause_is)

-- ---- a commit begins an attempt

abbrev Commits : ℕ → Did → Type 0
Commits i d = d.event ≡ Some (Commit (cpu_no i))

attempt_begun : (ls : List Strike) (g : Sight) (s : Cores) (i c n : ℕ) (b : Bits)
    (whats : List What) (o : Option Cause) → Commits i (attempt_by s i whats n o)
    → (written g c o (strike ls c n b)).begun c ≡ n + 1
attempt_begun ls g s i c n b whats None is = at_same b.begun c (n + 1)
attempt_begun ls g s i c n b whats (Some why) is = absurd (cc is)

scrub_begun : (ls : List Strike) (g : Sight) (s : Fate) (i c : ℕ) (w : Bool) (o : Option ℕ)
    → Commits i (scrub_by s.cores i (met_on ls w s c) o)
    → (scrub_bits ls g s c o).begun c ≡ s.begun c + 1
scrub_begun ls g s i c w None is =
    attempt_begun ls g s.cores i c (s.begun c) (mend s c None) _ (cause ls c (s.begun c)) is
scrub_begun ls g s i c w (Some k) is = absurd (cc is)

running_begun : (ls : List Strike) (g : Sight) (s : Fate) (i c : ℕ) (w a b : Bool)
    → Commits i (if a then idles s.cores i
    else (if b then scrub_by s.cores i (met_on ls w s c) (read s c).lost
    else attempt_by s.cores i [] (s.begun c) (cause ls c (s.begun c))))
    → (if a then bits s
    else (if b then scrub_bits ls g s c (read s c).lost
    else attempted ls g c (s.begun c) (bits s))).begun c ≡ s.begun c + 1
running_begun ls g s i c w true b is = absurd (cc is)
running_begun ls g s i c w false true is = scrub_begun ls g s i c w (read s c).lost is
running_begun ls g s i c w false false is =
    attempt_begun ls g s.cores i c (s.begun c) (bits s) [] (cause ls c (s.begun c)) is

no_commit_retry : (s : Cores) (i : ℕ) (r : Reading) (o : Option ℕ)
    → Commits i (recover_by s i r o) → ⊥
no_commit_retry s i r None is = cc is
no_commit_retry s i r (Some w) is = cc is

no_commit_spare : (s : Cores) (i k : ℕ) (r : Reading) (o : Option ℕ)
    → Commits i (spare_by s i k r o) → ⊥
no_commit_spare s i k r None is = cc is
no_commit_spare s i k r (Some w) is = cc is

no_commit_transfer : (s : Cores) (i : ℕ) (r : Reading) (o : Option ℕ)
    → Commits i (transfer_by s i r o) → ⊥
no_commit_transfer s i r None is = cc is
no_commit_transfer s i r (Some k) is = no_commit_spare s i k r r.lost is

no_commit_recovering : (s : Cores) (i : ℕ) (x : Met) (b : Bool)
    → Commits i (if b then recover_by s i x.reading x.reading.lost
    else transfer_by s i x.reading (lowest s.spare 0 16)) → ⊥
no_commit_recovering s i x true is = no_commit_retry s i x.reading x.reading.lost is
no_commit_recovering s i x false is =
    no_commit_transfer s i x.reading (lowest s.spare 0 16) is

begun_by : (ls : List Strike) (t : ℕ) (g : Sight) (s : Fate) (i : ℕ) (mode : Mode)
    → Commits i (by_mode t s.cores i (met_on ls g.waits s (s.cores.core i)) mode)
    → (bits_by ls t g s i mode).begun (s.cores.core i) ≡ s.begun (s.cores.core i) + 1
begun_by ls t g s i Lost is = absurd (cc is)
begun_by ls t g s i Running is =
    running_begun ls g s i (s.cores.core i) g.waits g.waits
    (s.begun (s.cores.core i) % 16 == 0) is
begun_by ls t g s i Recovering is =
    absurd (no_commit_recovering s.cores i (met_on ls g.waits s (s.cores.core i))
    (nat_lt (s.cores.retries i) t) is)

pub commit_begun : (ls : List Strike) (t : ℕ) (g : Sight) (s : Fate) (i : ℕ)
    → Commits i (does t s.cores i (met ls g s i))
    → (bits_by ls t g s i (s.cores.mode i)).begun (s.cores.core i) ≡ s.begun (s.cores.core i) + 1
unfolding does met
commit_begun ls t g s i is = begun_by ls t g s i (s.cores.mode i) is
