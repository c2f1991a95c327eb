-- Decks that are linked, read in their order. Source: choice of this project.
use Rattle.std.specs.Prelude.{◌≡◌, ℕ, ◌-◌, ◌<◌, ◌≤◌, List, [], ◌++◌, length, map, take, get_or, Some, IsTrue}
use Rattle.std.specs.List.{concat}
use Rattle.g5_outside.specs.Calls.{file_named}
use Rattle.g5_outside.specs.Causes.{Rose}
use Rattle.g5_outside.specs.Views.{ShelfView}
use Rattle.g5_reading.specs.Inputs.{FindsNone, FindsTooMuch, IsIn}
use Rattle.program_model.specs.Given.{Text}
use Rattle.program_model.specs.declared.inputs.Input.{Input}
use Rattle.program_model.specs.declared.inputs.Input.TheVariants.{Part}
use Rattle.program_model.specs.declared.status.Status.{Status}
use Rattle.program_model.specs.declared.status.Status.TheVariants as status

-- the bytes that all parts have at most together
abbrev pub most_bytes : ℕ
most_bytes = 16000000

-- these are the bytes of the files of these names, one after another, within the limit
pub record AreParts (names : List Text) (shelf : ShelfView) (bytes : List ℕ) : Type 0 where
  pub parts : List (List ℕ)
  pub are : IsTrue shelf.told → map (λ name. file_named name shelf.files) names ≡ map Some parts
  pub joined : bytes ≡ concat parts
  pub bound : length bytes ≤ most_bytes

-- those of one more file are behind them
pub record AddsPart (name : Text) (shelf : ShelfView) (bytes all : List ℕ) : Type 0 where
  pub part : List ℕ
  pub read : IsIn name (most_bytes - length bytes) shelf part
  pub joined : all ≡ bytes ++ part

-- ---- what was not read

-- why a part within so many bytes was not read: each status by its cause, and no other status
abbrev pub IsUnreadPart : ℕ → Text → ℕ → ShelfView → ShelfView → Status → Type 0
IsUnreadPart j name most old new (status.NoFile at) = (at ≡ Part j) × FindsNone name old new
IsUnreadPart j name most old new status.ReadFault = Rose old.read_faults new.read_faults
IsUnreadPart j name most old new (status.TooLarge at) =
    (at ≡ Part j) × FindsTooMuch name most old new
IsUnreadPart j name most old new status.NoMemory = Unit {0}
IsUnreadPart j name most old new other = ⊥

-- the part j behind those before it, which were read
pub record IsReached (names : List Text) (shelf : ShelfView) (at : Input) : Type 0 where
  pub j : ℕ
  pub is : at ≡ Part j
  pub inside : j < length names
  pub bytes : List ℕ
  pub before : AreParts (take j names) shelf bytes

abbrev pub reached_name : (names : List Text) (shelf : ShelfView) (at : Input)
    → IsReached names shelf at → Text
reached_name names shelf at r = get_or names r.j []

-- the find of a part answered false, and nothing before it refused
pub record IsAbsent (names : List Text) (old new : ShelfView) (at : Input) : Type 0 where
  pub reached : IsReached names old at
  pub finds : FindsNone (reached_name names old at reached) old new

-- the find answered true, and with this part the limit is passed; nothing before it refused
pub record IsPastLimit (names : List Text) (old new : ShelfView) (at : Input) : Type 0 where
  pub reached : IsReached names old at
  pub finds : FindsTooMuch (reached_name names old at reached)
      (most_bytes - length reached.bytes) old new

-- why the parts were not read: each status by its cause, and no other status
abbrev pub IsUnread : List Text → ShelfView → ShelfView → Status → Type 0
IsUnread names old new (status.NoFile at) = IsAbsent names old new at
IsUnread names old new status.ReadFault = Rose old.read_faults new.read_faults
IsUnread names old new (status.TooLarge at) = IsPastLimit names old new at
IsUnread names old new status.NoMemory = Unit {0}
IsUnread names old new other = ⊥
