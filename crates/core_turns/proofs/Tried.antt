-- Whether a turn on a running core makes an attempt, by the table; and what follows for the attempts
-- begun and for the masks of its packets.
use Rattle.std.proofs.Common.{◌≡◌, ℕ, ◌+◌, ◌/◌, ◌%◌, ◌<◌, ◌≤◌, Bool, true, false, List, [], ◌∷◌, ◌++◌, Option, Some, None, refl, sym, ap, ◌∙◌, subst, arith, eqb, inl, inr, if◌then◌else◌}
use Rattle.std.specs.Prelude.{◌==◌, ◌&&◌}
use Rattle.std.proofs.lemmas.Bool.{cases_lt}
use Rattle.std.proofs.lemmas.Bool.Decides.{nat_tests}
use Rattle.run_model.specs.declared.faults.Cause.{Cause}
use Rattle.run_model.specs.declared.faults.Cause.TheVariants as causes
use Rattle.run_model.specs.declared.faults.Mode.{Mode}
use Rattle.run_model.specs.declared.faults.Mode.TheVariants as mode
use Rattle.run_model.specs.declared.faults.Note.{Note}
use Rattle.run_model.specs.declared.faults.Strike.{Strike}
use Rattle.run_model.specs.declared.faults.Strike.TheVariants.{Packet, Fetch, Store, Word}
use Rattle.run_model.specs.declared.faults.Unit.{Unit}
use Rattle.run_model.specs.declared.faults.Unit.TheVariants.{A}
use Rattle.run_model.specs.declared.logs.What.{What}
use Rattle.run_model.specs.declared.logs.What.TheVariants as what
use Rattle.run_model.specs.Cores.{Cores, Did, Met, attempt_by, by_mode, does, entries_of, idles, lost_entry, scrub_by}
use Rattle.run_model.specs.Fate.{Bits, Fate, Sight, attempted, bits, bits_by, mend, met, met_on, read, scrub_bits, strike, written}
use Rattle.run_model.specs.Premise.{covers, same_unit}
use Rattle.run_model.specs.Script.{AllInRange, InRange}
use Rattle.run_model.specs.Strikes.{cause, cause_by, fetch_bit, in_byte, mask_byte, same_masks, store_bit, weight}
use Rattle.run_laws.proofs.At.{at_same}
use Rattle.silicon.specs.Chip.{masked}
use Rattle.silicon.proofs.Masked.{masked_none}
use Rattle.core_turns.specs.Handing.{tries, tries_by}
use Rattle.core_turns.specs.Meeting.{came_to, outcome_by}
use Rattle.core_turns.specs.declared.outcomes.Outcome.{Outcome}
use Rattle.core_turns.specs.declared.outcomes.Outcome.TheVariants as outcome

-- ---- what the turn came to

-- it came to a commit or a failure exactly where an attempt is made
abbrev pub IsTriedAs : Outcome → Bool → Option Cause → Type 0
IsTriedAs outcome.Committed tried why = (tried ≡ true) × (why ≡ None)
IsTriedAs outcome.Idle tried why = tried ≡ false
IsTriedAs (outcome.Failed by) tried why = (tried ≡ true) × (why ≡ Some by)
IsTriedAs (outcome.Retried r) tried why = tried ≡ false
IsTriedAs (outcome.Spared k) tried why = tried ≡ false
IsTriedAs outcome.Stopped tried why = tried ≡ false

abbrev TriedAs : Did → Bool → Option Cause → Type 0
TriedAs d tried why = IsTriedAs (outcome_by d.event d.whats) tried why

came_lost : (o : Option ℕ) (ws : List What) → came_to (lost_entry o ++ ws) ≡ came_to ws
came_lost None ws = refl
came_lost (Some w) ws = refl

came_read : (notes : List Note) (o : Option ℕ) (ws : List What)
    → came_to ((entries_of notes ++ lost_entry o) ++ ws) ≡ came_to ws
came_read [] o ws = came_lost o ws
came_read (n ∷ ns) o ws = came_read ns o ws

tried_attempt : (s : Cores) (i : ℕ) (notes : List Note) (l : Option ℕ) (n : ℕ) (o : Option Cause)
    → TriedAs (attempt_by s i (entries_of notes ++ lost_entry l) n o) true o
tried_attempt s i notes l n None = (refl, refl)
tried_attempt s i notes l n (Some why) =
    subst (λ came. IsTriedAs came true (Some why)) (sym (came_read notes l (what.Fail why n ∷ [])))
    (refl, refl)

tried_at_once : (s : Cores) (i n : ℕ) (o : Option Cause) → TriedAs (attempt_by s i [] n o) true o
tried_at_once s i n None = (refl, refl)
tried_at_once s i n (Some why) = (refl, refl)

tried_scrub : (s : Cores) (i : ℕ) (x : Met) (o : Option ℕ)
    → TriedAs (scrub_by s i x o) (tries_by false true o) x.cause
tried_scrub s i x None = tried_attempt s i x.reading.notes x.reading.lost x.attempt x.cause
tried_scrub s i x (Some w) = refl

tried_running : (s : Cores) (i : ℕ) (x : Met) (w b : Bool)
    → TriedAs (if w then idles s i
    else (if b then scrub_by s i x x.reading.lost
    else attempt_by s i [] x.attempt x.cause)) (tries_by w b x.reading.lost) x.cause
tried_running s i x true b = refl
tried_running s i x false true = tried_scrub s i x x.reading.lost
tried_running s i x false false = tried_at_once s i x.attempt x.cause

pub tried_as : (t : ℕ) (s : Cores) (i : ℕ) (x : Met) → s.mode i ≡ mode.Running
    → TriedAs (does t s i x) (tries (s.mode i) x) x.cause
unfolding does
tried_as t s i x is =
    subst (λ (m : Mode). TriedAs (by_mode t s i x m) (tries m x) x.cause) (sym is)
    (tried_running s i x x.waits x.scrubs)

-- ---- an attempt is begun

written_begun : (g : Sight) (c : ℕ) (o : Option Cause) (b : Bits) → (written g c o b).begun ≡ b.begun
written_begun g c None b = refl
written_begun g c (Some why) b = refl

attempted_begun : (ls : List Strike) (g : Sight) (c n : ℕ) (b : Bits)
    → (attempted ls g c n b).begun c ≡ n + 1
attempted_begun ls g c n b =
    ap (λ (f : ℕ → ℕ). f c) (written_begun g c (cause ls c n) (strike ls c n b))
    ∙ at_same b.begun c (n + 1)

begun_scrub : (ls : List Strike) (g : Sight) (s : Fate) (c : ℕ) (o : Option ℕ)
    → tries_by false true o ≡ true → (scrub_bits ls g s c o).begun c ≡ s.begun c + 1
begun_scrub ls g s c None e = attempted_begun ls g c (s.begun c) (mend s c None)
begun_scrub ls g s c (Some w) e = absurd (cc e)

begun_running : (ls : List Strike) (g : Sight) (s : Fate) (c : ℕ) (w b : Bool)
    → tries_by w b (read s c).lost ≡ true
    → (if w then bits s
    else (if b then scrub_bits ls g s c (read s c).lost
    else attempted ls g c (s.begun c) (bits s))).begun c ≡ s.begun c + 1
begun_running ls g s c true b e = absurd (cc e)
begun_running ls g s c false true e = begun_scrub ls g s c (read s c).lost e
begun_running ls g s c false false e = attempted_begun ls g c (s.begun c) (bits s)

pub tried_begun : (ls : List Strike) (t : ℕ) (g : Sight) (s : Fate) (i : ℕ)
    → s.cores.mode i ≡ mode.Running → tries (s.cores.mode i) (met ls g s i) ≡ true
    → (bits_by ls t g s i (s.cores.mode i)).begun (s.cores.core i) ≡ s.begun (s.cores.core i) + 1
unfolding met
tried_begun ls t g s i is =
    let c : ℕ = s.cores.core i in
    subst (λ (m : Mode). tries m (met_on ls g.waits s c) ≡ true
    → (bits_by ls t g s i m).begun c ≡ s.begun c + 1) (sym is)
    (begun_running ls g s c g.waits (s.begun c % 16 == 0))

-- ---- masks that are the same, and none within the premise

same_stored : (o p : Option ℕ) (same : Bool) → cause_by o same p ≡ Some causes.Store → same ≡ true
same_stored None p true e = refl
same_stored None p false e = absurd (cc e)
same_stored (Some q) p same e = absurd (cc e)

pub same_if_store : (ls : List Strike) (c n : ℕ) → cause ls c n ≡ Some causes.Store
    → same_masks ls c n ≡ true
unfolding cause
same_if_store ls c n e = same_stored (fetch_bit ls c n) (store_bit ls c n) (same_masks ls c n) e

off : (a b d e : Bool) (w : ℕ) → e ≡ false → (if a && (b && (d && e)) then w else 0) ≡ 0
off false b d e w h = refl
off true false d e w h = refl
off true true false e w h = refl
off true true true false w h = refl
off true true true true w h = absurd (cc h)

not_byte : (bit k : ℕ) → bit < 4096 → 512 ≤ k → eqb (bit / 8) k ≡ false
not_byte bit k lt far =
    let small : bit / 8 < 512 = omega (arith, lt) in
    grind (arith, nat_tests)

-- bits of a packet lie in its 512 bytes
in_byte_beyond : (s : Strike) (c : ℕ) (u : Unit) (n k : ℕ) → InRange s → 512 ≤ k
    → in_byte s c u n k ≡ 0
in_byte_beyond (Packet core first unit bit count) c u n k h far =
    off (core.0 == c) (same_unit unit u) (covers first count n) (bit / 8 == k) (weight bit)
    (not_byte bit k h.2 far)
in_byte_beyond (Fetch core first bit) c u n k h far = refl
in_byte_beyond (Store core first bit) c u n k h far = refl
in_byte_beyond (Word core first word bit) c u n k h far = refl

mask_beyond : (ls : List Strike) (c : ℕ) (u : Unit) (n k : ℕ) → AllInRange ls → 512 ≤ k
    → mask_byte ls c u n k ≡ 0
unfolding mask_byte
mask_beyond [] c u n k h far = refl
mask_beyond (s ∷ ss) c u n k h far =
    rw (in_byte_beyond s c u n k h.0 far, mask_beyond ss c u n k h.1 far) refl

pub unstruck : (ls : List Strike) (c n : ℕ) (bs : List ℕ) → AllInRange ls
    → ((k : ℕ) → k < 512 → mask_byte ls c A n k ≡ 0) → masked (mask_byte ls c A n) 0 bs ≡ bs
unstruck ls c n bs form none =
    masked_none (mask_byte ls c A n) 0 bs (λ j l. elim (cases_lt j 512) [
      | inl lt ↦ none (0 + j) (omega (arith, lt))
      | inr ge ↦ mask_beyond ls c A n (0 + j) form (omega (arith, ge))
    ])
