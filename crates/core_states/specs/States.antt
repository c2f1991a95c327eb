-- What the calls of a core's states give. Source: choice of this project.
use Rattle.std.specs.Prelude.{⊤, ◌≡◌, ℕ, ◌+◌, ◌<◌, List, [], Option, Some, None}
use Rattle.esa_model.specs.declared.machine.Registers.{Registers}
use Rattle.esa_model.specs.Apply.{Piece}
use Rattle.esa_model.specs.Packet.{read}
use Rattle.result_packet.specs.Pieces.{stores_of}
use Rattle.run_model.specs.declared.faults.CoreNo.{CoreNo}
use Rattle.run_model.specs.declared.faults.Strike.{Strike}
use Rattle.run_model.specs.declared.faults.Unit.TheVariants.{A}
use Rattle.run_model.specs.Strikes.{mask_byte, cause}
use Rattle.silicon.specs.Chip.{Chip, Stays, masked}
use Rattle.silicon.specs.declared.handed.Handed.{Handed}
use Rattle.core_states.specs.Read.{registers_read}
use Rattle.core_states.specs.Trial.{Setting, Trial, FailsBy, IsStepAt, passed_a, hands_by, calls_by}
use Rattle.core_states.specs.Words.{Attempts, Fills, Scrubs}
use Rattle.core_states.specs.declared.cores.Attempt.{Attempt}
use Rattle.core_states.specs.declared.cores.Attempt.TheVariants.{Committed, Failed, Lost}
use Rattle.core_states.specs.declared.cores.Recovered.{Recovered}
use Rattle.core_states.specs.declared.cores.Recovered.TheVariants as recovered
use Rattle.core_states.specs.declared.cores.HandedOver.{HandedOver}
use Rattle.core_states.specs.declared.cores.HandedOver.TheVariants as handing

-- ---- an attempt

-- number, registers and retries after attempt n
abbrev pub AttemptKeeps : CoreNo → Registers → ℕ → ℕ → Attempt → Type 0
AttemptKeeps core r retries n (Committed k p) =
    (k.core ≡ core) × (k.registers ≡ r) × (k.retries ≡ retries)
AttemptKeeps core r retries n (Failed k why m) =
    (k.core ≡ core) × (k.retries ≡ retries) × (m ≡ n)
AttemptKeeps core r retries n (Lost k w) = k.core ≡ core

-- the word that is lost
abbrev pub lost_in : Attempt → Option ℕ
lost_in (Committed k p) = None
lost_in (Failed k why m) = None
lost_in (Lost k w) = Some w

-- the silicon after it
abbrev pub AttemptDoes : ℕ → Chip → Chip → Attempt → Type 0
AttemptDoes core old new (Committed k p) = Attempts core old new
AttemptDoes core old new (Failed k why m) = Attempts core old new
AttemptDoes core old new (Lost k w) = Scrubs core (Some w) old new

-- attempt n of a core where both units answer p
abbrev pub AttemptGives : List Strike → ℕ → ℕ → List ℕ → Attempt → Type 0
AttemptGives ls c n p (Committed k q) =
    (cause ls c n ≡ None) × (q ≡ masked (mask_byte ls c A n) 0 p)
AttemptGives ls c n p (Failed k why m) = cause ls c n ≡ Some why
AttemptGives ls c n p (Lost k w) = ⊤

-- a packet of which the silicon flipped nothing is carried out as the step
abbrev pub AttemptSteps : List Strike → ℕ → ℕ → Setting → Attempt → Type 0
AttemptSteps ls c n s (Committed k p) =
    ((j : ℕ) → j < 512 → mask_byte ls c A n j ≡ 0) → IsStepAt s p
AttemptSteps ls c n s (Failed k why m) = ⊤
AttemptSteps ls c n s (Lost k w) = ⊤

-- over any two units
abbrev pub AttemptFails : Trial → Attempt → Type 0
AttemptFails t (Committed k p) = FailsBy t None × (p ≡ passed_a t)
AttemptFails t (Failed k why n) = FailsBy t (Some why)
AttemptFails t (Lost k w) = ⊤

-- what is handed in, in its order
abbrev pub attempt_hands : Trial → Attempt → List Handed
attempt_hands t (Committed k p) = hands_by t None
attempt_hands t (Failed k why n) = hands_by t (Some why)
attempt_hands t (Lost k w) = []

-- each of the two units makes so many calls
abbrev pub calls_in : Attempt → ℕ
calls_in (Committed k p) = calls_by None
calls_in (Failed k why n) = calls_by (Some why)
calls_in (Lost k w) = 0

-- the pieces that are held after it, of a CPU with this prefix and a storage of so many bytes
abbrev pub AttemptHolds : ℕ → ℕ → Attempt → List Piece → Type 0
AttemptHolds prefix size (Committed k p) held = held ≡ stores_of prefix size (read p)
AttemptHolds prefix size (Failed k why n) held = held ≡ []
AttemptHolds prefix size (Lost k w) held = held ≡ []

-- ---- a retry

abbrev pub lost_word : Recovered → Option ℕ
lost_word (recovered.Running k) = None
lost_word (recovered.Lost f w) = Some w

-- it goes on from the registers that the stored words say
abbrev pub RecoversAs : CoreNo → ℕ → Chip → Recovered → Type 0
RecoversAs core retries z (recovered.Running k) =
    (k.core ≡ core) × (k.retries ≡ retries + 1) × (k.registers ≡ registers_read z core.0)
RecoversAs core retries z (recovered.Lost f w) = f.core ≡ core

-- ---- a transfer

abbrev pub lost_by : HandedOver → Option ℕ
lost_by (handing.Running k f) = None
lost_by (handing.Lost f s w) = Some w

-- the spare goes on from the registers that the stored words of the core say
abbrev pub HandsOver : CoreNo → CoreNo → Chip → Chip → HandedOver → Type 0
HandsOver core spare old new (handing.Running k f) =
    (k.core ≡ spare) × (k.retries ≡ 0) × (k.registers ≡ registers_read old core.0)
    × (f.core ≡ core) × Fills spare.0 (registers_read old core.0) old new
HandsOver core spare old new (handing.Lost f s w) =
    (f.core ≡ core) × (s.core ≡ spare) × Stays old new
