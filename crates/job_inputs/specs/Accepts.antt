-- What accepted inputs give, and why inputs are refused. Source: choice of this project.
use Rattle.std.specs.Prelude.{◌≡◌, ◌≢◌, ◌⊎◌, ◌≤◌, ◌<◌, ◌*◌, ◌^◌, All, length, Result, Err}
use Rattle.run_model.specs.Schedule.{Fits, turns_of}
use Rattle.run_model.specs.declared.logs.Config.{Config}
use Rattle.deck_model.specs.declared.decks.DeckRefusal.TheVariants as deck
use Rattle.run_model.specs.declared.schedules.ScheduleRefusal.TheVariants as schedule
use Rattle.run_model.specs.declared.faults.ScriptRefusal.TheVariants as script
use Rattle.program_model.specs.Accepted.{JobBytes, Job}
use Rattle.program_model.specs.Inputs.{limit}
use Rattle.program_model.specs.declared.inputs.Input.TheVariants.{Deck, Console, Schedule, Script}
use Rattle.program_model.specs.declared.status.Status.{Status}
use Rattle.program_model.specs.declared.status.Status.TheVariants.{Done, CheckStopped, Usage, NoFile, ReadFault, WriteFault, DeckRefused, ScheduleRefused, ScriptRefused, TooLarge, NoMemory, LogRefused, SourceRefused, LinkRefused, SaveRefused, AuditNo}
use Rattle.job_inputs.specs.declared.accepting.Accepted.{Accepted}

-- each input is within its limit
pub record AreWithinLimits (inputs : JobBytes) : Type 0 where
  pub deck : length inputs.deck ≤ limit Deck
  pub console : length inputs.console ≤ limit Console
  pub schedule : length inputs.schedule ≤ limit Schedule
  pub script : length inputs.script ≤ limit Script

abbrev pub job_of : Accepted → Job
job_of a = record {
  image = record { bytes = a.storage; entry = a.entry.address };
  console = a.console.items;
  runs = a.schedule;
  strikes = a.script;
}

-- a machine of this configuration can start from it
pub record IsFit (config : Config) (a : Accepted) : Type 0 where
  pub size : length a.storage ≡ 4096 * config.pages
  pub entry : a.entry.address < 2 ^ 31
  pub console : length a.console.items ≤ limit Console
  pub fits : All (λ r. Fits config.cpus r.what) a.schedule
  pub turns : turns_of a.schedule ≤ 1000000

-- the refusal of what an input means, as a status, or want of memory, which is none of them
abbrev pub Refused : {A R : Type 0} → Result A R → R → (R → Status) → Status → Type 0
Refused {R = R} meant no_memory status_of s =
    (s ≡ NoMemory) ⊎ ((r : R) × (r ≢ no_memory) × (meant ≡ Err r) × (s ≡ status_of r))

-- the statuses of refused inputs; no refusal in them is want of memory
abbrev pub IsInputRefusal : Status → Type 0
IsInputRefusal (DeckRefused r) = r ≢ deck.NoMemory
IsInputRefusal (ScheduleRefused r) = r ≢ schedule.NoMemory
IsInputRefusal (ScriptRefused r) = r ≢ script.NoMemory
IsInputRefusal NoMemory = Unit {0}
IsInputRefusal Done = ⊥
IsInputRefusal CheckStopped = ⊥
IsInputRefusal Usage = ⊥
IsInputRefusal (NoFile input) = ⊥
IsInputRefusal ReadFault = ⊥
IsInputRefusal WriteFault = ⊥
IsInputRefusal (TooLarge input) = ⊥
IsInputRefusal (LogRefused r) = ⊥
IsInputRefusal (SourceRefused r) = ⊥
IsInputRefusal (LinkRefused r) = ⊥
IsInputRefusal (SaveRefused r) = ⊥
IsInputRefusal (AuditNo r) = ⊥
