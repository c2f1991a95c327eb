-- What a result unit answers: the packet of the event that is due, from the fetch latch.
-- Source: choice of this project.
use Rattle.std.specs.Prelude.{◌≡◌, ℕ, Bool, false, List, Option}
use Rattle.esa_model.specs.declared.machine.Registers.{Registers}
use Rattle.esa_model.specs.Apply.{apply}
use Rattle.esa_model.specs.Latch.{latch}
use Rattle.esa_model.specs.Line.{Side}
use Rattle.esa_model.specs.Machine.{Machine, done, idle, is_idle, next}
use Rattle.esa_model.specs.Packet.{packet}
use Rattle.twin_units.specs.Units.{IsAt, due_beside}

-- the packet of the event that is due, where the CPU is not idle and the latch is the event's
abbrev pub IsPacket : List ℕ → Registers → ℕ → List ℕ → Side → List ℕ → Type 0
IsPacket bs r i storage side p =
    bs ≡ latch r i storage side → is_idle (due_beside r i side) ≡ false → p ≡ packet r (done r i storage side) storage

-- applied to a machine that has these registers, this storage and this side, it is the step
abbrev pub IsStep : List ℕ → Registers → ℕ → List ℕ → Side → List ℕ → Type 0
IsStep bs r i storage side p =
    (m : Machine) → IsAt m i r storage side → bs ≡ latch r i storage side → idle m i ≡ false → apply m i p ≡ next m i

-- a unit: its calls, the packet that it answered last, and whether it works by the rule
pub record UnitView : Type 0 where
  pub calls : ℕ
  pub last : Option (List ℕ)
  pub exact : Bool
