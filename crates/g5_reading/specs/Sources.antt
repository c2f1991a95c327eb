-- What reading a source to its end tells of it.
use Rattle.std.specs.Prelude.{◌≡◌, ℕ, ◌≤◌, ◌<◌, List, length, IsTrue}
use Rattle.g5_outside.specs.Causes.{Rose}
use Rattle.g5_outside.specs.Views.{SourceView}
use Rattle.program_model.specs.Inputs.{limit}
use Rattle.program_model.specs.declared.inputs.Input.{Input}
use Rattle.program_model.specs.declared.status.Status.{Status}
use Rattle.program_model.specs.declared.status.Status.TheVariants as status

-- it was read, and nothing else was done
pub record OnlyTakes (old new : SourceView) : Type 0 where
  pub told : new.told ≡ old.told
  pub faults : old.faults ≤ new.faults

-- these are the bytes that were left of it, within a limit
pub record AreAllOf (limit : ℕ) (source : SourceView) (bytes : List ℕ) : Type 0 where
  pub bound : length bytes ≤ limit
  pub is : IsTrue source.told → bytes ≡ source.left

-- a call of it failed, or there was no memory
abbrev pub IsUntaken : SourceView → SourceView → Status → Type 0
IsUntaken old new status.ReadFault = Rose old.faults new.faults
IsUntaken old new status.NoMemory = Unit {0}
IsUntaken old new other = ⊥

-- why it was not read: each status by its cause, and no other status
abbrev pub IsUnreadSource : Input → SourceView → SourceView → Status → Type 0
IsUnreadSource input old new (status.TooLarge at) =
    (at ≡ input) × (IsTrue old.told → limit input < length old.left)
IsUnreadSource input old new other = IsUntaken old new other
