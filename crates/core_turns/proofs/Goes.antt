-- Each exit of a turn, whatever is struck, is a row of the table.
use Rattle.std.proofs.Common.{◌≡◌, ℕ, ◌+◌, ◌<◌, ◌≤◌, Bool, true, false, List, [], ◌∷◌, ◌++◌, Option, Some, None, refl, sym, ap, ◌∙◌, subst, arith}
use Rattle.esa_model.specs.Line.{Side}
use Rattle.esa_model.specs.Machine.{at, is_idle}
use Rattle.run_model.specs.declared.faults.Cause.{Cause}
use Rattle.run_model.specs.declared.faults.CoreNo.{CoreNo}
use Rattle.run_model.specs.declared.faults.Mode.TheVariants as mode
use Rattle.run_model.specs.declared.faults.Note.{Note}
use Rattle.run_model.specs.declared.logs.Entry.{Entry}
use Rattle.run_model.specs.declared.logs.What.{What}
use Rattle.run_model.specs.declared.logs.What.TheVariants as what
use Rattle.run_model.specs.Cores.{Cores, Did, does, idles, entries_of, stamped}
use Rattle.run_laws.proofs.At.{at_same}
use Rattle.run_laws.proofs.Rows.{lost_word, commit, fail, retry, no_spare, spared, spare_lost}
use Rattle.silicon.specs.Chip.{Chip}
use Rattle.core_states.specs.declared.cores.RunningCore.{RunningCore}
use Rattle.core_states.specs.declared.cores.RecoveringCore.{RecoveringCore}
use Rattle.core_states.specs.declared.cores.SpareCore.{SpareCore}
use Rattle.core_states.specs.Words.{read_core, scrub_reading}
use Rattle.sparing.specs.Pools.{lowest_number, put}
use Rattle.twin_units.specs.Units.{due_beside}
use Rattle.core_turns.specs.declared.held.Held.{Held}
use Rattle.core_turns.specs.declared.held.Held.TheVariants.{Running, Recovering, Lost}
use Rattle.core_turns.specs.Made.{Made}
use Rattle.core_turns.specs.Journals.{Journal}
use Rattle.core_turns.specs.declared.outcomes.Outcome.{Outcome}
use Rattle.core_turns.specs.declared.outcomes.Outcome.TheVariants as outcome
use Rattle.core_turns.specs.Ends.{Quits}
use Rattle.core_turns.specs.Held.{CorePool, HeldBy, SparesAre, spare_number}
use Rattle.core_turns.specs.Journals.{IsBlank, Tells}
use Rattle.core_turns.specs.Meeting.{Goes, IsRow, TurnGoes, met_on_chip, event_of, outcome_by, came_to, why_met}
use Rattle.core_turns.specs.Places.{in_pool}
use Rattle.core_turns.proofs.Spares.{lowest_is, spares_same, spares_taken, spares_back}
use Rattle.core_turns.proofs.Table as table
use Rattle.core_turns.proofs.Table.{reads}

-- ---- what a journal says, and how a turn ended

pub told : (j j2 : Journal) (i c : ℕ) (whats : List What) → IsBlank j i c → Tells j j2 whats
    → j2.entries ≡ stamped j.turn i c whats
told j j2 i c whats b t = t ∙ rw (b.cpu, b.core) refl

pub quits_as : (P : Held → Outcome → Type 0) (h : Held) (came : Outcome) (t : Made)
    → Quits h came t → P h came → P t.held t.outcome
quits_as P h came t q p =
    subst (λ (x : Held). P x t.outcome) (sym q.holds)
    (subst (λ (o : Outcome). P h o) (sym q.outcome) p)

came_notes : (notes : List Note) (ws : List What) → came_to (entries_of notes ++ ws) ≡ came_to ws
came_notes [] ws = refl
came_notes (n ∷ ns) ws = came_notes ns ws

goes_by : (t n i : ℕ) (s : Cores) (w : Bool) (z : Chip) (why : Option Cause) (es : List Entry)
    (came : Outcome) (h : Held) (p : CorePool) (d : Did)
    → does t s i (met_on_chip z w (s.core i) why) ≡ d → es ≡ stamped n i (s.core i) d.whats
    → event_of i came ≡ d.event → came ≡ outcome_by d.event d.whats → HeldBy h d.after i
    → SparesAre p d.after.spare → Goes t n i s w z why es came h p
goes_by t n i s w z why es came h p d is es_are event_is came_is held spares = record {
  row = subst (λ (q : Did). IsRow n i (s.core i) q es came h p) (sym is) (record {
    entries = es_are;
    event = event_is;
    outcome = came_is;
    held = held;
    spares = spares;
  });
}

-- the core of the journal is the CPU's
at_core : (j j2 : Journal) (i c d : ℕ) (whats : List What) → IsBlank j i c → Tells j j2 whats
    → d ≡ c → j2.entries ≡ stamped j.turn i d whats
at_core j j2 i c d whats b t e =
    told j j2 i c whats b t ∙ ap (λ (q : ℕ). stamped j.turn i q whats) (sym e)

-- ---- nothing is due, or the CPU is lost

pub goes_idle : (t : ℕ) (j : Journal) (i : ℕ) (k : RunningCore) (side : Side) (p : CorePool)
    (z : Chip) → IsBlank j i k.core.0 → is_idle (due_beside k.registers i side) ≡ true
    → TurnGoes t j.turn i (Running k) side p z j.entries outcome.Idle (Running k) p
goes_idle t j i k side p z b idles_now s w held waits spares =
    let why = why_met z (Running k) outcome.Idle in
    subst (λ (v : Bool). Goes t j.turn i s v z why j.entries outcome.Idle (Running k) p)
    (sym (waits ∙ idles_now))
    (goes_by t j.turn i s true z why j.entries outcome.Idle (Running k) p (idles s i)
    (table.waited t s i z why held.0) b.entries refl refl held spares)

pub goes_gone : (t : ℕ) (j : Journal) (i : ℕ) (c : CoreNo) (r : ℕ) (side : Side) (p : CorePool)
    (z : Chip) → IsBlank j i c.0
    → TurnGoes t j.turn i (Lost c r) side p z j.entries outcome.Idle (Lost c r) p
goes_gone t j i c r side p z b s w held waits spares =
    let why = why_met z (Lost c r) outcome.Idle in
    goes_by t j.turn i s w z why j.entries outcome.Idle (Lost c r) p (idles s i)
    (table.gone t s i (met_on_chip z w (s.core i) why) held.0) b.entries refl refl held spares

-- ---- an attempt

pub goes_committed : (t : ℕ) (j j2 : Journal) (i : ℕ) (k k2 : RunningCore) (side : Side)
    (p : CorePool) (z : Chip) (notes : List Note) → IsBlank j i k.core.0
    → is_idle (due_beside k.registers i side) ≡ false
    → scrub_reading z k.core.0 ≡ reads notes None → Tells j j2 (entries_of notes)
    → k2.core ≡ k.core → k2.retries ≡ 0
    → TurnGoes t j.turn i (Running k) side p z j2.entries outcome.Committed (Running k2) p
goes_committed t j j2 i k k2 side p z notes b busy read tells core retries s w held waits spares =
    let es = j2.entries in
    let there = subst (λ (c : ℕ). scrub_reading z c ≡ reads notes None) (sym held.1) read in
    subst (λ (v : Bool). Goes t j.turn i s v z None es outcome.Committed (Running k2) p)
    (sym (waits ∙ busy))
    (goes_by t j.turn i s false z None es outcome.Committed (Running k2) p (commit s i notes)
    (table.committed t s i z notes held.0 there)
    (at_core j j2 i k.core.0 (s.core i) (entries_of notes) b tells held.1) refl refl (
      held.0,
      held.1 ∙ sym (ap (λ (c : CoreNo). c.0) core),
      at_same s.retries i 0 ∙ sym retries,
    ) spares)

pub goes_failed : (t : ℕ) (j j2 : Journal) (i : ℕ) (k : RunningCore) (k2 : RecoveringCore)
    (side : Side) (p : CorePool) (z : Chip) (notes : List Note) (why : Cause) (n : ℕ)
    → IsBlank j i k.core.0 → is_idle (due_beside k.registers i side) ≡ false
    → scrub_reading z k.core.0 ≡ reads notes None
    → Tells j j2 (entries_of notes ++ what.Fail why n ∷ [])
    → (k2.core ≡ k.core) × (k2.retries ≡ k.retries) × (n ≡ z.begun k.core.0)
    → TurnGoes t j.turn i (Running k) side p z j2.entries (outcome.Failed why)
    (Recovering k2) p
goes_failed t j j2 i k k2 side p z notes why n b busy read tells keeps s w held waits spares =
    let es = j2.entries in
    let there = subst (λ (c : ℕ). scrub_reading z c ≡ reads notes None) (sym held.1) read in
    let number : n ≡ z.begun (s.core i) = keeps.2 ∙ ap z.begun (sym held.1) in
    subst (λ (v : Bool). Goes t j.turn i s v z (Some why) es (outcome.Failed why)
    (Recovering k2) p) (sym (waits ∙ busy))
    (goes_by t j.turn i s false z (Some why) es (outcome.Failed why) (Recovering k2) p
    (fail s i notes why (z.begun (s.core i))) (table.failed t s i z why notes held.0 there)
    (at_core j j2 i k.core.0 (s.core i) (entries_of notes ++ what.Fail why n ∷ []) b tells held.1
    ∙ ap (λ (m : ℕ). stamped j.turn i (s.core i) (entries_of notes ++ what.Fail why m ∷ []))
    number) refl
    (sym (came_notes notes (what.Fail why (z.begun (s.core i)) ∷ []))) (
      at_same s.mode i mode.Recovering,
      held.1 ∙ sym (ap (λ (c : CoreNo). c.0) keeps.0),
      held.2 ∙ sym keeps.1,
    ) spares)

-- what a CPU that stops leaves of itself
stops_held : (s : Cores) (i : ℕ) (c d : CoreNo) (r : ℕ) → s.core i ≡ c.0 → s.retries i ≡ r
    → d ≡ c → HeldBy (Lost d r) (record s { mode = at s.mode i mode.Lost }) i
stops_held s i c d r core retries same =
    (at_same s.mode i mode.Lost, core ∙ sym (ap (λ (q : CoreNo). q.0) same), retries)

pub goes_lost : (t : ℕ) (j j2 : Journal) (i : ℕ) (k : RunningCore) (c : CoreNo) (side : Side)
    (p q : CorePool) (z : Chip) (notes : List Note) (w : ℕ) → IsBlank j i k.core.0
    → is_idle (due_beside k.registers i side) ≡ false
    → scrub_reading z k.core.0 ≡ reads notes (Some w)
    → Tells j j2 (entries_of notes ++ what.Uncorrectable w ∷ what.Fenced ∷ what.Stop ∷ [])
    → c ≡ k.core → q.spares ≡ p.spares
    → TurnGoes t j.turn i (Running k) side p z j2.entries outcome.Stopped
    (Lost c k.retries) q
goes_lost t j j2 i k c side p q z notes w b busy read tells core same s v held waits spares =
    let es = j2.entries in
    let why = why_met z (Running k) outcome.Stopped in
    let there = subst (λ (x : ℕ). scrub_reading z x ≡ reads notes (Some w)) (sym held.1) read in
    subst (λ (x : Bool). Goes t j.turn i s x z why es outcome.Stopped (Lost c k.retries) q)
    (sym (waits ∙ busy))
    (goes_by t j.turn i s false z why es outcome.Stopped (Lost c k.retries) q
    (lost_word s i notes w) (table.scrub_lost t s i z why notes w held.0 there)
    (at_core j j2 i k.core.0 (s.core i) (lost_word s i notes w).whats b tells held.1) refl refl
    (stops_held s i k.core c k.retries held.1 held.2 core)
    (spares_same p q s.spare same spares))

-- ---- a retry

pub goes_recovered : (t : ℕ) (j j2 : Journal) (i : ℕ) (k : RecoveringCore) (k2 : RunningCore)
    (side : Side) (p : CorePool) (z : Chip) (notes : List Note) → IsBlank j i k.core.0
    → k.retries < t → read_core z k.core.0 ≡ reads notes None
    → Tells j j2 (entries_of notes ++ what.Retry (k.retries + 1) ∷ [])
    → k2.core ≡ k.core → k2.retries ≡ k.retries + 1
    → TurnGoes t j.turn i (Recovering k) side p z j2.entries
    (outcome.Retried (k.retries + 1)) (Running k2) p
goes_recovered t j j2 i k k2 side p z notes b below read tells core retries s w held waits spares =
    let es = j2.entries in
    let why = why_met z (Recovering k) (outcome.Retried (k.retries + 1)) in
    let there = subst (λ (c : ℕ). read_core z c ≡ reads notes None) (sym held.1) read in
    let kept : k.retries + 1 ≡ s.retries i + 1 = ap (λ (r : ℕ). r + 1) (sym held.2) in
    goes_by t j.turn i s w z why es (outcome.Retried (k.retries + 1)) (Running k2) p
    (retry s i notes)
    (table.recovered t s i z w why notes held.0 (omega (arith, below, held.2)) there)
    (at_core j j2 i k.core.0 (s.core i) (entries_of notes ++ what.Retry (k.retries + 1) ∷ []) b tells held.1
    ∙ ap (λ (r : ℕ). stamped j.turn i (s.core i) (entries_of notes ++ what.Retry r ∷ [])) kept)
    refl
    (ap (λ (r : ℕ). outcome.Retried r) kept
    ∙ sym (came_notes notes (what.Retry (s.retries i + 1) ∷ []))) (
      at_same s.mode i mode.Running,
      held.1 ∙ sym (ap (λ (c : CoreNo). c.0) core),
      at_same s.retries i (s.retries i + 1) ∙ sym kept ∙ sym retries,
    ) spares

pub goes_unrecovered : (t : ℕ) (j j2 : Journal) (i : ℕ) (k : RecoveringCore) (c : CoreNo)
    (side : Side) (p q : CorePool) (z : Chip) (notes : List Note) (w : ℕ) → IsBlank j i k.core.0
    → k.retries < t → read_core z k.core.0 ≡ reads notes (Some w)
    → Tells j j2 (entries_of notes ++ what.Uncorrectable w ∷ what.Fenced ∷ what.Stop ∷ [])
    → c ≡ k.core → q.spares ≡ p.spares
    → TurnGoes t j.turn i (Recovering k) side p z j2.entries outcome.Stopped
    (Lost c k.retries) q
goes_unrecovered t j j2 i k c side p q z notes w b below read tells core same s v held waits spares =
    let es = j2.entries in
    let why = why_met z (Recovering k) outcome.Stopped in
    let there = subst (λ (x : ℕ). read_core z x ≡ reads notes (Some w)) (sym held.1) read in
    goes_by t j.turn i s v z why es outcome.Stopped (Lost c k.retries) q
    (lost_word s i notes w)
    (table.unrecovered t s i z v why notes w held.0 (omega (arith, below, held.2)) there)
    (at_core j j2 i k.core.0 (s.core i) (lost_word s i notes w).whats b tells held.1) refl refl
    (stops_held s i k.core c k.retries held.1 held.2 core)
    (spares_same p q s.spare same spares)

-- ---- a transfer

pub goes_no_spare : (t : ℕ) (j j2 : Journal) (i : ℕ) (k : RecoveringCore) (c : CoreNo)
    (side : Side) (p q : CorePool) (z : Chip) → IsBlank j i k.core.0 → t ≤ k.retries
    → None ≡ lowest_number spare_number p.spares
    → Tells j j2 (what.Fenced ∷ what.NoSpare ∷ what.Stop ∷ [])
    → c ≡ k.core → q.spares ≡ p.spares
    → TurnGoes t j.turn i (Recovering k) side p z j2.entries outcome.Stopped
    (Lost c k.retries) q
goes_no_spare t j j2 i k c side p q z b past none tells core same s v held waits spares =
    let es = j2.entries in
    let why = why_met z (Recovering k) outcome.Stopped in
    goes_by t j.turn i s v z why es outcome.Stopped (Lost c k.retries) q (no_spare s i)
    (table.none_left t s i z v why held.0 (omega (arith, past, held.2))
    (lowest_is p s.spare None spares none))
    (at_core j j2 i k.core.0 (s.core i) (no_spare s i).whats b tells held.1) refl refl
    (stops_held s i k.core c k.retries held.1 held.2 core)
    (spares_same p q s.spare same spares)

pub goes_handed : (t : ℕ) (j j2 : Journal) (i : ℕ) (k : RecoveringCore) (k2 : RunningCore)
    (x : SpareCore) (side : Side) (p q : CorePool) (z : Chip) (notes : List Note)
    → IsBlank j i k.core.0 → t ≤ k.retries
    → Some x.core.0 ≡ lowest_number spare_number p.spares
    → read_core z k.core.0 ≡ reads notes None
    → Tells j j2 (what.Fenced ∷ (entries_of notes ++ what.Spared x.core ∷ []))
    → k2.core ≡ x.core → k2.retries ≡ 0 → p.spares ≡ x ∷ q.spares
    → ((n : ℕ) → in_pool n p ≤ 1)
    → TurnGoes t j.turn i (Recovering k) side p z j2.entries (outcome.Spared x.core)
    (Running k2) q
goes_handed t j j2 i k k2 x side p q z notes b past first read tells core retries taken once s w held waits spares =
    let es = j2.entries in
    let why = why_met z (Recovering k) (outcome.Spared x.core) in
    let there = subst (λ (c : ℕ). read_core z c ≡ reads notes None) (sym held.1) read in
    goes_by t j.turn i s w z why es (outcome.Spared x.core) (Running k2) q
    (spared s i x.core.0 notes)
    (table.handed t s i z w why x.core.0 notes held.0 (omega (arith, past, held.2))
    (lowest_is p s.spare (Some x.core.0) spares first) there)
    (at_core j j2 i k.core.0 (s.core i) (spared s i x.core.0 notes).whats b tells held.1) refl
    (sym (came_notes notes (what.Spared x.core ∷ []))) (
      at_same s.mode i mode.Running,
      at_same s.core i x.core.0 ∙ sym (ap (λ (c : CoreNo). c.0) core),
      at_same s.retries i 0 ∙ sym retries,
    )
    (spares_taken p q x s.spare taken once spares)

pub goes_not_handed : (t : ℕ) (j j2 : Journal) (i : ℕ) (k : RecoveringCore) (c : CoreNo)
    (x y : SpareCore) (side : Side) (p q r : CorePool) (z : Chip) (notes : List Note) (w : ℕ)
    → IsBlank j i k.core.0 → t ≤ k.retries
    → Some x.core.0 ≡ lowest_number spare_number p.spares
    → read_core z k.core.0 ≡ reads notes (Some w)
    → Tells j j2 (what.Fenced ∷ (entries_of notes ++ what.Uncorrectable w ∷ what.Stop ∷ []))
    → c ≡ k.core → p.spares ≡ x ∷ q.spares → y.core ≡ x.core
    → r.spares ≡ put spare_number y q.spares
    → TurnGoes t j.turn i (Recovering k) side p z j2.entries outcome.Stopped
    (Lost c k.retries) r
goes_not_handed t j j2 i k c x y side p q r z notes w b past first read tells core taken same back s v held waits spares =
    let es = j2.entries in
    let why = why_met z (Recovering k) outcome.Stopped in
    let there = subst (λ (n : ℕ). read_core z n ≡ reads notes (Some w)) (sym held.1) read in
    goes_by t j.turn i s v z why es outcome.Stopped (Lost c k.retries) r
    (spare_lost s i notes w)
    (table.not_handed t s i z v why x.core.0 notes w held.0 (omega (arith, past, held.2))
    (lowest_is p s.spare (Some x.core.0) spares first) there)
    (at_core j j2 i k.core.0 (s.core i) (spare_lost s i notes w).whats b tells held.1) refl refl
    (stops_held s i k.core c k.retries held.1 held.2 core)
    (spares_back p q r x y s.spare taken same back spares)
