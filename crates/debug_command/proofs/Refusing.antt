-- Why a session was not begun, from what its calls answer.
use Rattle.std.proofs.Common.{◌≡◌, ◌⊎◌, ℕ, List, true, Err, inl, inr}
use Rattle.g5_outside.specs.Views.{ShelfView, SourceView}
use Rattle.g5_reading.specs.Sources.{AreAllOf, IsUnreadSource}
use Rattle.job_inputs.specs.Accepts.{IsInputRefusal}
use Rattle.job_inputs.specs.Reads.{AreRead, IsUnread}
use Rattle.program_model.specs.Accepted.{JobBytes, job}
use Rattle.program_model.specs.Commands.{SessionNames}
use Rattle.program_model.specs.Inputs.{limit}
use Rattle.program_model.specs.declared.inputs.Input.{Input}
use Rattle.program_model.specs.declared.inputs.Input.TheVariants.{Deck, Console, Schedule, Script, Keys, Log, Program, Part, Saved}
use Rattle.program_model.specs.declared.status.Status.{Status}
use Rattle.program_model.specs.declared.status.Status.TheVariants.{Done, CheckStopped, Usage, NoFile, ReadFault, WriteFault, DeckRefused, ScheduleRefused, ScriptRefused, TooLarge, NoMemory, LogRefused, SourceRefused, LinkRefused, SaveRefused, AuditNo}
use Rattle.run_model.specs.declared.logs.Config.{Config}
use Rattle.debug_command.specs.Preparing.{IsRefused}

-- the files were not read

unread_large : (names : SessionNames) (c : Config) (a b : ShelfView) (k l : SourceView)
    (input : Input) → IsUnread names a b (TooLarge input)
    → IsRefused names c a b k l (TooLarge input)
unread_large names c a b k l Deck h = h
unread_large names c a b k l Console h = h
unread_large names c a b k l Schedule h = h
unread_large names c a b k l Script h = h
unread_large names c a b k l Keys h = absurd h.before
unread_large names c a b k l Log h = h
unread_large names c a b k l Program h = h
unread_large names c a b k l (Part j) h = h
unread_large names c a b k l Saved h = h

pub unread_refused : (names : SessionNames) (c : Config) (a b : ShelfView) (k l : SourceView)
    (s : Status) → IsUnread names a b s → IsRefused names c a b k l s
unread_refused names c a b k l Done h = h
unread_refused names c a b k l CheckStopped h = h
unread_refused names c a b k l Usage h = h
unread_refused names c a b k l (NoFile input) h = h
unread_refused names c a b k l ReadFault h = inl h
unread_refused names c a b k l WriteFault h = h
unread_refused names c a b k l (DeckRefused r) h = absurd h
unread_refused names c a b k l (ScheduleRefused r) h = absurd h
unread_refused names c a b k l (ScriptRefused r) h = absurd h
unread_refused names c a b k l (TooLarge input) h = unread_large names c a b k l input h
unread_refused names c a b k l NoMemory h = h
unread_refused names c a b k l (LogRefused r) h = h
unread_refused names c a b k l (SourceRefused r) h = h
unread_refused names c a b k l (LinkRefused r) h = h
unread_refused names c a b k l (SaveRefused r) h = h
unread_refused names c a b k l (AuditNo r) h = h

-- the lines were not read

too_many : (names : SessionNames) (c : Config) (a b : ShelfView) (k l : SourceView)
    (bytes : JobBytes) (input : Input) → AreRead names a bytes → b.found ≡ true
    → IsUnreadSource Keys k l (TooLarge input) → IsRefused names c a b k l (TooLarge input)
too_many names c a b k l bytes Deck read found h = let clash : Deck ≡ Keys = h.0 in absurd cc
too_many names c a b k l bytes Console read found h = let clash : Console ≡ Keys = h.0 in absurd cc
too_many names c a b k l bytes Schedule read found h = let clash : Schedule ≡ Keys = h.0 in absurd cc
too_many names c a b k l bytes Script read found h = let clash : Script ≡ Keys = h.0 in absurd cc
too_many names c a b k l bytes Keys read found h = record {
  bytes = bytes;
  read = read;
  above = h.1;
  found = found;
}
too_many names c a b k l bytes Log read found h = let clash : Log ≡ Keys = h.0 in absurd cc
too_many names c a b k l bytes Program read found h = let clash : Program ≡ Keys = h.0 in absurd cc
too_many names c a b k l bytes (Part j) read found h = let clash : (Part j) ≡ Keys = h.0 in absurd cc
too_many names c a b k l bytes Saved read found h = let clash : Saved ≡ Keys = h.0 in absurd cc

pub keys_refused : (names : SessionNames) (c : Config) (a b : ShelfView) (k l : SourceView)
    (bytes : JobBytes) (s : Status) → AreRead names a bytes → b.found ≡ true
    → IsUnreadSource Keys k l s → IsRefused names c a b k l s
keys_refused names c a b k l bytes Done read found h = absurd h
keys_refused names c a b k l bytes CheckStopped read found h = absurd h
keys_refused names c a b k l bytes Usage read found h = absurd h
keys_refused names c a b k l bytes (NoFile input) read found h = absurd h
keys_refused names c a b k l bytes ReadFault read found h = inr h
keys_refused names c a b k l bytes WriteFault read found h = absurd h
keys_refused names c a b k l bytes (DeckRefused r) read found h = absurd h
keys_refused names c a b k l bytes (ScheduleRefused r) read found h = absurd h
keys_refused names c a b k l bytes (ScriptRefused r) read found h = absurd h
keys_refused names c a b k l bytes (TooLarge input) read found h =
    too_many names c a b k l bytes input read found h
keys_refused names c a b k l bytes NoMemory read found h = tt
keys_refused names c a b k l bytes (LogRefused r) read found h = absurd h
keys_refused names c a b k l bytes (SourceRefused r) read found h = absurd h
keys_refused names c a b k l bytes (LinkRefused r) read found h = absurd h
keys_refused names c a b k l bytes (SaveRefused r) read found h = absurd h
keys_refused names c a b k l bytes (AuditNo r) read found h = absurd h

-- they were read, and one of them is refused

pub input_refused : (names : SessionNames) (c : Config) (a b : ShelfView) (k l : SourceView)
    (bytes : JobBytes) (lines : List ℕ) (s : Status) → AreRead names a bytes → b.found ≡ true
    → AreAllOf (limit Keys) k lines → (s ≡ NoMemory) ⊎ (job c bytes ≡ Err s) → IsInputRefusal s
    → IsRefused names c a b k l s
input_refused names c a b k l bytes lines Done read found all h kind = absurd kind
input_refused names c a b k l bytes lines CheckStopped read found all h kind = absurd kind
input_refused names c a b k l bytes lines Usage read found all h kind = absurd kind
input_refused names c a b k l bytes lines (NoFile input) read found all h kind = absurd kind
input_refused names c a b k l bytes lines ReadFault read found all h kind = absurd kind
input_refused names c a b k l bytes lines WriteFault read found all h kind = absurd kind
input_refused names c a b k l bytes lines (DeckRefused r) read found all h kind = elim h [
  | inl e ↦ absurd cc
  | inr e ↦ record {
    bytes = bytes;
    read = read;
    lines = lines;
    lines_are = all;
    refused = e;
    found = found;
  }
]
input_refused names c a b k l bytes lines (ScheduleRefused r) read found all h kind = elim h [
  | inl e ↦ absurd cc
  | inr e ↦ record {
    bytes = bytes;
    read = read;
    lines = lines;
    lines_are = all;
    refused = e;
    found = found;
  }
]
input_refused names c a b k l bytes lines (ScriptRefused r) read found all h kind = elim h [
  | inl e ↦ absurd cc
  | inr e ↦ record {
    bytes = bytes;
    read = read;
    lines = lines;
    lines_are = all;
    refused = e;
    found = found;
  }
]
input_refused names c a b k l bytes lines (TooLarge input) read found all h kind = absurd kind
input_refused names c a b k l bytes lines NoMemory read found all h kind = tt
input_refused names c a b k l bytes lines (LogRefused r) read found all h kind = absurd kind
input_refused names c a b k l bytes lines (SourceRefused r) read found all h kind = absurd kind
input_refused names c a b k l bytes lines (LinkRefused r) read found all h kind = absurd kind
input_refused names c a b k l bytes lines (SaveRefused r) read found all h kind = absurd kind
input_refused names c a b k l bytes lines (AuditNo r) read found all h kind = absurd kind
