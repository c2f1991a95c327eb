-- What each exit of a turn does to the silicon.
use Rattle.std.proofs.Common.{◌≡◌, ℕ, ◌<◌, ◌≤◌, Bool, true, false, List, Option, Some, None, refl, sym, ap, ◌∙◌, subst, if◌then◌else◌}
use Rattle.std.specs.Prelude.{nat_lt}
use Rattle.std.proofs.lemmas.Bool.{lt-ltb, le-ltb}
use Rattle.esa_model.specs.declared.machine.Registers.{Registers}
use Rattle.esa_model.specs.Line.{Side}
use Rattle.esa_model.specs.Machine.{is_idle}
use Rattle.run_model.specs.declared.faults.Cause.{Cause}
use Rattle.run_model.specs.declared.faults.CoreNo.{CoreNo}
use Rattle.run_model.specs.declared.faults.Mode.{Mode}
use Rattle.run_model.specs.declared.faults.Note.{Note}
use Rattle.run_model.specs.Cores.{Cores, lowest}
use Rattle.run_model.specs.Reading.{Reading}
use Rattle.silicon.specs.Chip.{Chip, Stays}
use Rattle.core_states.specs.declared.cores.RunningCore.{RunningCore}
use Rattle.core_states.specs.declared.cores.RecoveringCore.{RecoveringCore}
use Rattle.core_states.specs.Read.{registers_read}
use Rattle.core_states.specs.Words.{Attempts, Changes, Fills, Rewrites, Scrubs, is_due, read_core, scrub_reading, nothing_read}
use Rattle.sparing.specs.Pools.{lowest_number}
use Rattle.twin_units.specs.Units.{due_beside}
use Rattle.core_turns.specs.declared.held.Held.{Held}
use Rattle.core_turns.specs.declared.held.Held.TheVariants.{Running, Recovering, Lost}
use Rattle.core_turns.specs.ChipAfter.{TurnChanges, ChipByMode, RunningChip, DueChip, ScrubbedChip, AttemptedChip, RecoveredChip, HandedChip}
use Rattle.core_turns.specs.Held.{CorePool, HeldBy, spare_number}
use Rattle.core_turns.proofs.Spares.{lowest_is}
use Rattle.core_turns.proofs.Table.{reads, none_read}

pub stays_same : (z : Chip) → Stays z z
stays_same z = record { lines = refl; begun = λ c. refl; word = λ c w lt. refl }

-- ---- by the mode

running_by : (t : ℕ) (s : Cores) (i : ℕ) (k : RunningCore) (w b : Bool) (why : Option Cause)
    (before after : Registers) (z z2 : Chip) → HeldBy (Running k) s i → w ≡ b
    → RunningChip k.core.0 before after why b z z2
    → ChipByMode t s i w why before after (s.mode i) z z2
running_by t s i k w b why before after z z2 held is chip =
    subst (λ (m : Mode). ChipByMode t s i w why before after m z z2) (sym held.0)
    (subst (λ (c : ℕ). RunningChip c before after why w z z2) (sym held.1)
    (subst (λ (v : Bool). RunningChip k.core.0 before after why v z z2) (sym is) chip))

recovering_by : (t : ℕ) (s : Cores) (i : ℕ) (k : RecoveringCore) (w b : Bool) (o : Option ℕ)
    (why : Option Cause) (before after : Registers) (z z2 : Chip) → HeldBy (Recovering k) s i
    → nat_lt k.retries t ≡ b → lowest s.spare 0 16 ≡ o → RecoveredChip k.core.0 o b z z2
    → ChipByMode t s i w why before after (s.mode i) z z2
recovering_by t s i k w b o why before after z z2 held below first chip =
    subst (λ (m : Mode). ChipByMode t s i w why before after m z z2) (sym held.0)
    (subst (λ (c : ℕ). RecoveredChip c (lowest s.spare 0 16) (nat_lt (s.retries i) t) z z2)
    (sym held.1)
    (subst (λ (q : Option ℕ). RecoveredChip k.core.0 q (nat_lt (s.retries i) t) z z2) (sym first)
    (subst (λ (v : Bool). RecoveredChip k.core.0 o v z z2)
    (sym (ap (λ (r : ℕ). nat_lt r t) held.2 ∙ below)) chip)))

-- ---- nothing is due, or the CPU is lost

pub chip_idle : (t i : ℕ) (k : RunningCore) (side : Side) (p : CorePool) (why : Option Cause)
    (z : Chip) → is_idle (due_beside k.registers i side) ≡ true
    → TurnChanges t i (Running k) side p why (Running k) z z
chip_idle t i k side p why z idles s w before after held waits spares own own2 =
    running_by t s i k w true why before after z z held (waits ∙ idles) (stays_same z)

pub chip_gone : (t i : ℕ) (c : CoreNo) (r : ℕ) (side : Side) (p : CorePool) (why : Option Cause)
    (z : Chip) → TurnChanges t i (Lost c r) side p why (Lost c r) z z
chip_gone t i c r side p why z s w before after held waits spares own own2 =
    subst (λ (m : Mode). ChipByMode t s i w why before after m z z) (sym held.0) (stays_same z)

-- ---- an attempt

due_attempted : (c : ℕ) (before after : Registers) (why : Option Cause) (notes : List Note)
    (b : Bool) (z z2 : Chip)
    → (if b then read_core z c else nothing_read) ≡ reads notes None
    → AttemptedChip c before after why z z2 → DueChip c before after why b z z2
due_attempted c before after why notes true z z2 e a =
    subst (λ (o : Option ℕ). ScrubbedChip c before after why o z z2)
    (sym (ap (λ (r : Reading). r.lost) e)) a
due_attempted c before after why notes false z z2 e a = a

attempted : (c : ℕ) (before after : Registers) (why : Option Cause) (notes : List Note)
    (z z2 : Chip) → scrub_reading z c ≡ reads notes None
    → AttemptedChip c before after why z z2 → DueChip c before after why (is_due z c) z z2
unfolding scrub_reading
attempted c before after why notes z z2 e a =
    due_attempted c before after why notes (is_due z c) z z2 e a

due_lost : (c : ℕ) (before after : Registers) (why : Option Cause) (notes : List Note) (w : ℕ)
    (b : Bool) (z z2 : Chip)
    → (if b then read_core z c else nothing_read) ≡ reads notes (Some w)
    → Scrubs c (Some w) z z2 → DueChip c before after why b z z2
due_lost c before after why notes w true z z2 e a =
    subst (λ (o : Option ℕ). ScrubbedChip c before after why o z z2)
    (sym (ap (λ (r : Reading). r.lost) e)) a
due_lost c before after why notes w false z z2 e a =
    let l = (none_read notes (Some w) e).1 in absurd cc

scrubbed_lost : (c : ℕ) (before after : Registers) (why : Option Cause) (notes : List Note)
    (w : ℕ) (z z2 : Chip) → scrub_reading z c ≡ reads notes (Some w)
    → Scrubs c (Some w) z z2 → DueChip c before after why (is_due z c) z z2
unfolding scrub_reading
scrubbed_lost c before after why notes w z z2 e a =
    due_lost c before after why notes w (is_due z c) z z2 e a

pub chip_failed : (t i : ℕ) (k : RunningCore) (side : Side) (p : CorePool) (why : Cause)
    (h2 : Held) (notes : List Note) (z z2 : Chip)
    → is_idle (due_beside k.registers i side) ≡ false
    → scrub_reading z k.core.0 ≡ reads notes None → Attempts k.core.0 z z2
    → TurnChanges t i (Running k) side p (Some why) h2 z z2
chip_failed t i k side p why h2 notes z z2 busy read a s w before after held waits spares own own2 =
    running_by t s i k w false (Some why) before after z z2 held (waits ∙ busy)
    (attempted k.core.0 before after (Some why) notes z z2 read a)

pub chip_committed : (t i : ℕ) (k k1 k2 : RunningCore) (side : Side) (p : CorePool)
    (r : Registers) (notes : List Note) (z z1 z2 : Chip)
    → is_idle (due_beside k.registers i side) ≡ false
    → scrub_reading z k.core.0 ≡ reads notes None → Attempts k.core.0 z z1
    → k1.core ≡ k.core → k1.registers ≡ k.registers → k2.registers ≡ r
    → Changes k1.core.0 k1.registers r z1 z2
    → TurnChanges t i (Running k) side p None (Running k2) z z2
chip_committed t i k k1 k2 side p r notes z z1 z2 busy read a core regs regs2 ch s w before after held waits spares own own2 =
    let ch1 = subst (λ (c : CoreNo). Changes c.0 k1.registers r z1 z2) core ch in
    let ch2 = subst (λ (q : Registers). Changes k.core.0 q r z1 z2) (regs ∙ own) ch1 in
    let ch3 = subst (λ (q : Registers). Changes k.core.0 before q z1 z2) (sym regs2 ∙ own2) ch2 in
    running_by t s i k w false None before after z z2 held (waits ∙ busy)
    (attempted k.core.0 before after None notes z z2 read
    (record { begun = z1; attempts = a; changes = ch3 }))

pub chip_lost : (t i : ℕ) (k : RunningCore) (side : Side) (p : CorePool) (why : Option Cause)
    (h2 : Held) (notes : List Note) (w : ℕ) (z z2 : Chip)
    → is_idle (due_beside k.registers i side) ≡ false
    → scrub_reading z k.core.0 ≡ reads notes (Some w) → Scrubs k.core.0 (Some w) z z2
    → TurnChanges t i (Running k) side p why h2 z z2
chip_lost t i k side p why h2 notes w z z2 busy read a s v before after held waits spares own own2 =
    running_by t s i k v false why before after z z2 held (waits ∙ busy)
    (scrubbed_lost k.core.0 before after why notes w z z2 read a)

-- ---- a retry, whether a word is lost or not

pub chip_retried : (t i : ℕ) (k : RecoveringCore) (side : Side) (p : CorePool)
    (why : Option Cause) (h2 : Held) (notes : List Note) (lost : Option ℕ) (z z2 : Chip)
    → k.retries < t → read_core z k.core.0 ≡ reads notes lost → Rewrites true k.core.0 lost z z2
    → TurnChanges t i (Recovering k) side p why h2 z z2
chip_retried t i k side p why h2 notes lost z z2 below read a s w before after held waits spares own own2 =
    recovering_by t s i k w true (lowest s.spare 0 16) why before after z z2 held
    (lt-ltb k.retries t below) refl
    (subst (λ (o : Option ℕ). Rewrites true k.core.0 o z z2)
    (sym (ap (λ (r : Reading). r.lost) read)) a)

-- ---- a transfer

pub chip_no_spare : (t i : ℕ) (k : RecoveringCore) (side : Side) (p : CorePool)
    (why : Option Cause) (h2 : Held) (z : Chip) → t ≤ k.retries
    → None ≡ lowest_number spare_number p.spares
    → TurnChanges t i (Recovering k) side p why h2 z z
chip_no_spare t i k side p why h2 z past none s w before after held waits spares own own2 =
    recovering_by t s i k w false None why before after z z held (le-ltb k.retries t past)
    (lowest_is p s.spare None spares none) (stays_same z)

pub chip_handed : (t i : ℕ) (k : RecoveringCore) (x : ℕ) (side : Side) (p : CorePool)
    (why : Option Cause) (h2 : Held) (notes : List Note) (z z2 : Chip) → t ≤ k.retries
    → Some x ≡ lowest_number spare_number p.spares
    → read_core z k.core.0 ≡ reads notes None
    → Fills x (registers_read z k.core.0) z z2
    → TurnChanges t i (Recovering k) side p why h2 z z2
chip_handed t i k x side p why h2 notes z z2 past first read a s w before after held waits spares own own2 =
    recovering_by t s i k w false (Some x) why before after z z2 held (le-ltb k.retries t past)
    (lowest_is p s.spare (Some x) spares first)
    (subst (λ (o : Option ℕ). HandedChip k.core.0 x o z z2)
    (sym (ap (λ (r : Reading). r.lost) read)) a)

pub chip_not_handed : (t i : ℕ) (k : RecoveringCore) (x : ℕ) (side : Side) (p : CorePool)
    (why : Option Cause) (h2 : Held) (notes : List Note) (v : ℕ) (z z2 : Chip) → t ≤ k.retries
    → Some x ≡ lowest_number spare_number p.spares
    → read_core z k.core.0 ≡ reads notes (Some v) → Stays z z2
    → TurnChanges t i (Recovering k) side p why h2 z z2
chip_not_handed t i k x side p why h2 notes v z z2 past first read a s w before after held waits spares own own2 =
    recovering_by t s i k w false (Some x) why before after z z2 held (le-ltb k.retries t past)
    (lowest_is p s.spare (Some x) spares first)
    (subst (λ (o : Option ℕ). HandedChip k.core.0 x o z z2)
    (sym (ap (λ (r : Reading). r.lost) read)) a)
