-- The inputs of a run, read in order. Source: choice of this project.
use Rattle.std.specs.Prelude.{◌≡◌, List, ℕ, IsTrue, true, false}
use Rattle.g5_outside.specs.Views.{ShelfView}
use Rattle.g5_outside.specs.Causes.{Rose}
use Rattle.g5_reading.specs.Inputs.{IsIn, IsMissing, IsTooLarge}
use Rattle.program_model.specs.Accepted.{JobBytes}
use Rattle.program_model.specs.Commands.{SessionNames}
use Rattle.program_model.specs.Inputs.{limit, session_input}
use Rattle.program_model.specs.declared.inputs.Input.{Input}
use Rattle.program_model.specs.declared.inputs.Input.TheVariants.{Deck, Console, Schedule, Script, Keys, Log, Program, Part, Saved}
use Rattle.program_model.specs.declared.status.Status.{Status}
use Rattle.program_model.specs.declared.status.Status.TheVariants.{Done, CheckStopped, Usage, NoFile, ReadFault, WriteFault, DeckRefused, ScheduleRefused, ScriptRefused, TooLarge, NoMemory, LogRefused, SourceRefused, LinkRefused, SaveRefused, AuditNo}
use Rattle.job_inputs.specs.declared.reading.InputBytes.{InputBytes}

abbrev pub job_bytes : InputBytes → JobBytes
job_bytes i = record {
  deck = i.deck.items;
  console = i.console.items;
  schedule = i.schedule.items;
  script = i.script.items;
}

-- the bytes of this input of a run
abbrev pub IsInput : SessionNames → Input → ShelfView → List ℕ → Type 0
IsInput names input shelf bytes = IsIn (session_input names input) (limit input) shelf bytes

pub record AreRead (names : SessionNames) (shelf : ShelfView) (inputs : JobBytes) : Type 0 where
  pub deck_is : IsInput names Deck shelf inputs.deck
  pub console_is : IsInput names Console shelf inputs.console
  pub schedule_is : IsInput names Schedule shelf inputs.schedule
  pub script_is : IsInput names Script shelf inputs.script

-- ---- what was not read

-- the file is there, within its limit
abbrev pub IsThere : SessionNames → Input → ShelfView → Type 0
IsThere names input shelf = (bytes : List ℕ) × IsInput names input shelf bytes

-- the inputs before this one are there; a run has four, in this order
abbrev pub AreBefore : SessionNames → ShelfView → Input → Type 0
AreBefore names shelf Deck = Unit {0}
AreBefore names shelf Console = IsThere names Deck shelf
AreBefore names shelf Schedule = IsThere names Deck shelf × IsThere names Console shelf
AreBefore names shelf Script =
    IsThere names Deck shelf × IsThere names Console shelf × IsThere names Schedule shelf
AreBefore names shelf Keys = ⊥
AreBefore names shelf Log = ⊥
AreBefore names shelf Program = ⊥
AreBefore names shelf (Part j) = ⊥
AreBefore names shelf Saved = ⊥

-- the find of this input answered false, and nothing before it refused
pub record IsAbsent (names : SessionNames) (old new : ShelfView) (input : Input) : Type 0 where
  pub before : AreBefore names old input
  pub found : new.found ≡ false
  pub missing : IsTrue old.told → IsMissing (session_input names input) old

-- the find answered true, the file is longer than its limit, and nothing before it refused
pub record IsAboveLimit (names : SessionNames) (old new : ShelfView) (input : Input) : Type 0 where
  pub before : AreBefore names old input
  pub found : new.found ≡ true
  pub above : IsTrue old.told → IsTooLarge (session_input names input) (limit input) old

-- why the inputs were not read: each status by its cause
abbrev pub IsUnread : SessionNames → ShelfView → ShelfView → Status → Type 0
IsUnread names old new (NoFile input) = IsAbsent names old new input
IsUnread names old new ReadFault = Rose old.read_faults new.read_faults
IsUnread names old new (TooLarge input) = IsAboveLimit names old new input
IsUnread names old new NoMemory = Unit {0}
IsUnread names old new Done = ⊥
IsUnread names old new CheckStopped = ⊥
IsUnread names old new Usage = ⊥
IsUnread names old new WriteFault = ⊥
IsUnread names old new (DeckRefused r) = ⊥
IsUnread names old new (ScheduleRefused r) = ⊥
IsUnread names old new (ScriptRefused r) = ⊥
IsUnread names old new (LogRefused r) = ⊥
IsUnread names old new (SourceRefused r) = ⊥
IsUnread names old new (LinkRefused r) = ⊥
IsUnread names old new (SaveRefused r) = ⊥
IsUnread names old new (AuditNo r) = ⊥
