-- Whole runs: one turn after another, each by its fate and by what its event does to the machine.
-- Source: choice of this project; what a commit does is the step of the Principles of Operation.
use Rattle.std.specs.Prelude.{ℕ, List, [], ◌∷◌, ◌++◌, Option, Some, None, length, drop}
use Rattle.esa_model.specs.declared.changes.Changed.{Changed}
use Rattle.esa_model.specs.declared.machine.Event.{Event}
use Rattle.esa_model.specs.declared.machine.Event.TheVariants.{Commit, Idle, Stop, Key}
use Rattle.esa_model.specs.declared.machine.Psw.{Psw}
use Rattle.esa_model.specs.Changes.{changed_bytes}
use Rattle.esa_model.specs.Machine.{Machine, next}
use Rattle.esa_model.specs.Run.{run}
use Rattle.run_model.specs.declared.faults.Strike.{Strike}
use Rattle.run_model.specs.declared.logs.Config.{Config}
use Rattle.run_model.specs.declared.logs.Entry.{Entry}
use Rattle.run_model.specs.declared.schedules.RunKind.{RunKind}
use Rattle.run_model.specs.Cores.{Outline, Choice}
use Rattle.run_model.specs.Fate.{Fate, Fated, sight, met_by, fate, first_fate}

-- the machine of the Principles, and the fate of the cores
pub record Model : Type 0 where
  pub machine : Machine
  pub fate : Fate

abbrev pub first_model : Config → Machine → Model
first_model c m = record { machine = m; fate = first_fate c }

-- ---- one turn

-- what it tells: its entries, its event, and at a commit the PSW after it, the bytes that it
-- changed and the bytes that it wrote to the console
pub record Told : Type 0 where
  pub entries : List Entry
  pub event : Option Event
  pub psw : Psw
  pub changed : List Changed
  pub console : List ℕ

abbrev pub tells_nothing_else : List Entry → Option Event → Told
tells_nothing_else entries event = record {
  entries = entries;
  event = event;
  psw = record { w0 = 0; w1 = 0 };
  changed = [];
  console = [];
}

-- the bytes that the step from one machine to another writes to the console
abbrev pub console_between : Machine → Machine → List ℕ
console_between before after = drop (length before.console_written) after.console_written

abbrev pub tells_by : Machine → List Entry → Option Event → Told
tells_by m entries (Some (Commit i)) = record {
  entries = entries;
  event = Some (Commit i);
  psw = ((next m i.0).registers i.0).psw;
  changed = changed_bytes m.storage (next m i.0).storage;
  console = console_between m (next m i.0);
}
tells_by m entries (Some (Idle i)) = tells_nothing_else entries (Some (Idle i))
tells_by m entries (Some (Stop i)) = tells_nothing_else entries (Some (Stop i))
tells_by m entries (Some (Key i)) = tells_nothing_else entries (Some (Key i))
tells_by m entries None = tells_nothing_else entries None

abbrev pub events_of : Option Event → List Event
events_of None = []
events_of (Some e) = e ∷ []

abbrev pub fate_at : List Strike → Config → Model → RunKind → Fated
fate_at ls c x k = fate ls c (sight x.machine) x.fate k

unfoldable pub tells : List Strike → Config → Model → RunKind → Told
tells ls c x k =
    tells_by x.machine (fate_at ls c x k).outline.entries (fate_at ls c x k).outline.event

-- the machine after the turn's event, if it has one, and the fate after the turn
unfoldable pub turned : List Strike → Config → Model → RunKind → Model
turned ls c x k = record {
  machine = run x.machine (events_of (fate_at ls c x k).outline.event);
  fate = (fate_at ls c x k).after;
}

-- ---- the turns of a schedule

-- what they tell, and the state after them
abbrev pub run_tells : List Strike → Config → Model → List RunKind → List Told
run_tells ls c x [] = []
run_tells ls c x (k ∷ ks) = tells ls c x k ∷ run_tells ls c (turned ls c x k) ks

abbrev pub run_after : List Strike → Config → Model → List RunKind → Model
run_after ls c x [] = x
run_after ls c x (k ∷ ks) = run_after ls c (turned ls c x k) ks

-- all log entries, and all events in their order
abbrev pub entries : List Told → List Entry
entries [] = []
entries (t ∷ ts) = t.entries ++ entries ts

abbrev pub order : List Told → List Event
order [] = []
order (t ∷ ts) = events_of t.event ++ order ts

-- ---- the turns without what they show of the machine

abbrev pub outline_of : Told → Outline
outline_of t = record { entries = t.entries; event = t.event }

-- what the turns of a run meet
abbrev pub choices : List Strike → Config → Model → List RunKind → List Choice
choices ls c x [] = []
choices ls c x (k ∷ ks) =
    record { kind = k; met = met_by ls (sight x.machine) x.fate k }
    ∷ choices ls c (turned ls c x k) ks
