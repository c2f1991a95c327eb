-- What reading an input tells of a shelf.
use Rattle.std.specs.Prelude.{◌≡◌, ℕ, ◌≤◌, ◌<◌, List, length, Some, None, Result, Ok, Err, IsTrue, Bool, true, false}
use Rattle.g5_outside.specs.Causes.{Rose}
use Rattle.g5_outside.specs.Views.{ShelfView}
use Rattle.g5_outside.specs.Calls.{file_named}
use Rattle.program_model.specs.Inputs.{limit}
use Rattle.program_model.specs.declared.inputs.Input.{Input}
use Rattle.program_model.specs.declared.status.Status.{Status}
use Rattle.program_model.specs.declared.status.Status.TheVariants as status
use Rattle.g5_reading.specs.declared.reading.ReadRefusal.{ReadRefusal}
use Rattle.g5_reading.specs.declared.reading.ReadRefusal.TheVariants.{NoFile, Fault, TooLarge, NoMemory}

-- files were read, and nothing else was done
pub record OnlyReads (old new : ShelfView) : Type 0 where
  pub numbers : new.numbers ≡ old.numbers
  pub told : new.told ≡ old.told
  pub reads : old.read_faults ≤ new.read_faults
  pub writes : old.write_faults ≤ new.write_faults
  pub files : IsTrue old.told → new.files ≡ old.files
  pub names : IsTrue old.told → (n : ℕ) → new.name_of n ≡ old.name_of n
  pub texts : IsTrue old.told → (n : ℕ) → new.text_of n ≡ old.text_of n

-- the file is not there
abbrev pub IsMissing : List ℕ → ShelfView → Type 0
IsMissing name shelf = file_named name shelf.files ≡ None

-- the file has more bytes than the limit
abbrev pub IsTooLarge : List ℕ → ℕ → ShelfView → Type 0
IsTooLarge name limit shelf = (bytes : List ℕ) × (file_named name shelf.files ≡ Some bytes) × (limit < length bytes)

-- each answer by its cause: a fault of the shelf and want of memory may come at any file
abbrev pub IsRefused : List ℕ → ℕ → ShelfView → ReadRefusal → Type 0
IsRefused name limit shelf NoFile = IsMissing name shelf
IsRefused name limit shelf TooLarge = IsTooLarge name limit shelf
IsRefused name limit shelf Fault = Unit {0}
IsRefused name limit shelf NoMemory = Unit {0}

-- whether the last find answered true, by the answer: a fault may be that of the find
abbrev pub WasFound : {T : Type 0} → Bool → Result T ReadRefusal → Type 0
WasFound found (Ok bytes) = found ≡ true
WasFound found (Err NoFile) = found ≡ false
WasFound found (Err TooLarge) = found ≡ true
WasFound found (Err NoMemory) = found ≡ true
WasFound found (Err Fault) = Unit {0}

-- ---- an input of the program

-- these are the bytes of the file, within its limit
pub record IsIn (name : List ℕ) (limit : ℕ) (shelf : ShelfView) (bytes : List ℕ) : Type 0 where
  pub bound : length bytes ≤ limit
  pub is : IsTrue shelf.told → file_named name shelf.files ≡ Some bytes

-- the find answered false
pub record FindsNone (name : List ℕ) (old new : ShelfView) : Type 0 where
  pub found : new.found ≡ false
  pub missing : IsTrue old.told → IsMissing name old

-- the find answered true, and the file is longer than its limit
pub record FindsTooMuch (name : List ℕ) (limit : ℕ) (old new : ShelfView) : Type 0 where
  pub found : new.found ≡ true
  pub above : IsTrue old.told → IsTooLarge name limit old

-- why it was not read: each status by its cause, and no other status
abbrev pub IsUnreadInput : Input → List ℕ → ShelfView → ShelfView → Status → Type 0
IsUnreadInput input name old new (status.NoFile at) = (at ≡ input) × FindsNone name old new
IsUnreadInput input name old new status.ReadFault = Rose old.read_faults new.read_faults
IsUnreadInput input name old new (status.TooLarge at) =
    (at ≡ input) × FindsTooMuch name (limit input) old new
IsUnreadInput input name old new status.NoMemory = Unit {0}
IsUnreadInput input name old new other = ⊥
