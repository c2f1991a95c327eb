-- An attempt over any two units: what it hands in to the silicon, in which order, and why it fails.
-- Source: choice of this project (a fetch latch, two packets that are compared, a store latch, each
-- of which passes the silicon).
use Rattle.std.specs.Prelude.{◌≡◌, ℕ, Bool, true, false, List, [], ◌∷◌, Option, Some, None}
use Rattle.esa_model.specs.declared.machine.Registers.{Registers}
use Rattle.esa_model.specs.Apply.{apply}
use Rattle.esa_model.specs.Latch.{latch, parity_bit, is_good}
use Rattle.esa_model.specs.Line.{Side}
use Rattle.esa_model.specs.Machine.{Machine, done, idle, is_idle, next}
use Rattle.esa_model.specs.Packet.{packet}
use Rattle.result_packet.specs.declared.latches.FetchLatch.{FetchLatch}
use Rattle.result_packet.specs.declared.latches.StoreLatch.{StoreLatch}
use Rattle.run_model.specs.declared.faults.Cause.{Cause}
use Rattle.run_model.specs.declared.faults.Cause.TheVariants.{Fetch, Mismatch, Store}
use Rattle.run_model.specs.declared.faults.CoreNo.{CoreNo}
use Rattle.run_model.specs.declared.faults.Strike.{Strike}
use Rattle.run_model.specs.declared.faults.Unit.TheVariants.{A, B}
use Rattle.run_model.specs.Strikes.{mask_byte, fetch_bit, store_bit}
use Rattle.silicon.specs.Chip.{Chip, last, masked, hit_fetch, hit_store}
use Rattle.silicon.specs.declared.handed.Handed.{Handed}
use Rattle.silicon.specs.declared.handed.Handed.TheVariants as handed
use Rattle.twin_units.specs.Results.{UnitView}
use Rattle.twin_units.specs.Units.{IsAt, due_beside}

-- ---- what is computed

-- the registers of a CPU and its number, the storage and what stands beside it
pub record Setting : Type 0 where
  pub registers : Registers
  pub cpu : ℕ
  pub storage : List ℕ
  pub side : Side

abbrev pub setting : Registers → ℕ → List ℕ → Side → Setting
setting r i storage side =
    record { registers = r; cpu = i; storage = storage; side = side }

-- whether nothing is due there
abbrev pub waits : Setting → Bool
waits s = is_idle (due_beside s.registers s.cpu s.side)

-- the packet of the event that is due
abbrev pub packet_due : Setting → List ℕ
packet_due s =
    packet s.registers (done s.registers s.cpu s.storage s.side) s.storage

-- these bytes are that packet, unless nothing is due
abbrev pub IsDue : Setting → List ℕ → Type 0
IsDue s p = waits s ≡ false → p ≡ packet_due s

-- carried out by a machine that is so set, these bytes are its step
abbrev pub IsStepAt : Setting → List ℕ → Type 0
IsStepAt s p = (m : Machine) → IsAt m s.cpu s.registers s.storage s.side → idle m s.cpu ≡ false
    → apply m s.cpu p ≡ next m s.cpu

-- ---- latches with the parity bit that makes the number of ones odd

abbrev pub fetch_latch : Setting → FetchLatch
fetch_latch s =
    let bytes = latch s.registers s.cpu s.storage s.side in
    record { bytes = bytes; odd = parity_bit bytes }

abbrev pub store_latch : List ℕ → StoreLatch
store_latch p = record { packet = p; odd = parity_bit p }

-- whether they are good as they come from the silicon, struck or not
unfoldable pub passes_fetch : FetchLatch → Option ℕ → Bool
passes_fetch l bit = is_good (hit_fetch l bit).bytes (hit_fetch l bit).odd

unfoldable pub passes_store : StoreLatch → Option ℕ → Bool
passes_store l bit = is_good (hit_store l bit).packet (hit_store l bit).odd

-- ---- an attempt

abbrev pub bytes_in : Option (List ℕ) → List ℕ
bytes_in None = []
bytes_in (Some bytes) = bytes

-- an attempt of a core: its number, its fetch latch, and what the two units answered last
pub record Trial : Type 0 where
  pub lines : List Strike
  pub core : CoreNo
  pub number : ℕ
  pub latch : FetchLatch
  pub a : List ℕ
  pub b : List ℕ

abbrev pub trial : List Strike → CoreNo → ℕ → Setting → UnitView → UnitView → Trial
trial ls c n s a b = record {
  lines = ls;
  core = c;
  number = n;
  latch = fetch_latch s;
  a = bytes_in a.last;
  b = bytes_in b.last;
}

-- the attempt that a core begins next
abbrev pub next_trial : Chip → CoreNo → Setting → UnitView → UnitView → Trial
next_trial z c s a b = trial z.lines c (z.begun c.0) s a b

-- the one that it began last
abbrev pub last_trial : Chip → CoreNo → Setting → UnitView → UnitView → Trial
last_trial z c s a b = trial z.lines c (last z c.0) s a b

-- the two packets as they come from the silicon
unfoldable pub passed_a : Trial → List ℕ
passed_a t = masked (mask_byte t.lines t.core.0 A t.number) 0 t.a

unfoldable pub passed_b : Trial → List ℕ
passed_b t = masked (mask_byte t.lines t.core.0 B t.number) 0 t.b

-- whether the latches are good as they come from the silicon
unfoldable pub fetch_good : Trial → Bool
fetch_good t = passes_fetch t.latch (fetch_bit t.lines t.core.0 t.number)

unfoldable pub store_good : Trial → Bool
store_good t = passes_store (store_latch (passed_a t)) (store_bit t.lines t.core.0 t.number)

-- why an attempt fails, if it does: exactly one of the four holds
abbrev pub FailsBy : Trial → Option Cause → Type 0
FailsBy t (Some Fetch) = fetch_good t ≡ false
FailsBy t (Some Mismatch) = (fetch_good t ≡ true) × (passed_a t ≡ passed_b t → ⊥)
FailsBy t (Some Store) =
    (fetch_good t ≡ true) × (passed_a t ≡ passed_b t) × (store_good t ≡ false)
FailsBy t None = (fetch_good t ≡ true) × (passed_a t ≡ passed_b t) × (store_good t ≡ true)

-- ---- what it hands in, and how often the units are called

abbrev pub packets_of : Trial → List Handed → List Handed
packets_of t rest =
    handed.Fetch t.core t.number t.latch
    ∷ handed.Packet t.core t.number A t.a
    ∷ handed.Packet t.core t.number B t.b
    ∷ rest

abbrev pub all_of : Trial → List Handed
all_of t = packets_of t (handed.Store t.core t.number (store_latch (passed_a t)) ∷ [])

-- in its order
abbrev pub hands_by : Trial → Option Cause → List Handed
hands_by t (Some Fetch) = handed.Fetch t.core t.number t.latch ∷ []
hands_by t (Some Mismatch) = packets_of t []
hands_by t (Some Store) = all_of t
hands_by t None = all_of t

-- each of the two units makes so many calls
abbrev pub calls_by : Option Cause → ℕ
calls_by (Some Fetch) = 0
calls_by (Some Mismatch) = 1
calls_by (Some Store) = 1
calls_by None = 1
