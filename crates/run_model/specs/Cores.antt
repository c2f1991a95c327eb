-- What a turn does to the cores, by their modes and retries and by what the turn meets.
-- Source: choice of this project (retry, spares, check-stop).
use Rattle.std.specs.Prelude.{ℕ, zero, suc, ◌+◌, List, [], ◌∷◌, ◌++◌, Bool, true, false, Option, Some, None, ◌==◌, ◌&&◌, ◌||◌, not, nat_lt, nat_le, if◌then◌else◌, map}
use Rattle.esa_model.specs.declared.machine.Event.{Event}
use Rattle.esa_model.specs.declared.machine.Event.TheVariants as event
use Rattle.esa_model.specs.Bus.{cpu_no}
use Rattle.esa_model.specs.Machine.{at}
use Rattle.run_model.specs.declared.faults.Cause.{Cause}
use Rattle.run_model.specs.declared.faults.Note.{Note}
use Rattle.run_model.specs.declared.faults.Mode.{Mode}
use Rattle.run_model.specs.declared.faults.Mode.TheVariants.{Running, Recovering, Lost}
use Rattle.run_model.specs.declared.logs.Config.{Config}
use Rattle.run_model.specs.declared.logs.Entry.{Entry}
use Rattle.run_model.specs.declared.logs.What.{What}
use Rattle.run_model.specs.declared.logs.What.TheVariants as what
use Rattle.run_model.specs.declared.schedules.RunKind.{RunKind}
use Rattle.run_model.specs.declared.schedules.RunKind.TheVariants.{Turns, Key, Return}
use Rattle.run_model.specs.Script.{core_no}
use Rattle.run_model.specs.Reading.{Reading}

-- ---- the state

-- per CPU its core, mode and retries; the spares; the turns and the commits made
pub record Cores : Type 0 where
  pub core : ℕ → ℕ
  pub mode : ℕ → Mode
  pub retries : ℕ → ℕ
  pub spare : ℕ → Bool
  pub turns : ℕ
  pub commits : ℕ

-- core k for CPU k, the cores from 8 on are the spares
abbrev pub is_spare_number : Config → ℕ → Bool
is_spare_number c k = nat_le 8 k && nat_lt k (8 + c.spares)

abbrev pub first_cores : Config → Cores
first_cores c = record {
  core = λ i. i;
  mode = λ i. Running;
  retries = λ i. 0;
  spare = is_spare_number c;
  turns = 0;
  commits = 0;
}

-- the first of n numbers from k on that is in a set
abbrev pub lowest : (ℕ → Bool) → ℕ → ℕ → Option ℕ
lowest f k zero = None
lowest f k (suc n) = if f k then Some k else lowest f (k + 1) n

-- ---- what a turn of a CPU meets

pub record Met : Type 0 where
  pub waits : Bool  -- the CPU is idle
  pub scrubs : Bool  -- the words of a running core are to be read before its next attempt
  pub reading : Reading  -- how the words of the CPU's core read
  pub attempt : ℕ  -- the number of the core's next attempt
  pub cause : Option Cause  -- why that attempt fails, if it does

-- ---- what a turn of a CPU does: entries, event and the cores after it

pub record Did : Type 0 where
  pub whats : List What
  pub event : Option Event
  pub after : Cores

abbrev pub entries_of : List Note → List What
entries_of notes = map (λ (n : Note). what.Corrected n.word n.bit) notes

abbrev pub lost_entry : Option ℕ → List What
lost_entry None = []
lost_entry (Some w) = what.Uncorrectable w ∷ []

abbrev pub read_entries : Reading → List What
read_entries r = entries_of r.notes ++ lost_entry r.lost

abbrev pub stopped : Cores → ℕ → Cores
stopped s i = record s { mode = at s.mode i Lost }

abbrev pub stops : Cores → ℕ → List What → Did
stops s i whats = record {
  whats = whats;
  event = Some (event.Stop (cpu_no i));
  after = stopped s i;
}

-- a CPU that is lost, or idle
abbrev pub idles : Cores → ℕ → Did
idles s i = record { whats = []; event = Some (event.Idle (cpu_no i)); after = s }

-- recovering, retries below the threshold: the words are read well, or one is lost
abbrev pub recover_by : Cores → ℕ → Reading → Option ℕ → Did
recover_by s i r None = record {
  whats = read_entries r ++ what.Retry (s.retries i + 1) ∷ [];
  event = None;
  after = record s { mode = at s.mode i Running; retries = at s.retries i (s.retries i + 1) };
}
recover_by s i r (Some w) = stops s i (read_entries r ++ what.Fenced ∷ what.Stop ∷ [])

-- recovering, as many retries as the threshold, and spare k: the same two cases
abbrev pub spare_by : Cores → ℕ → ℕ → Reading → Option ℕ → Did
spare_by s i k r None = record {
  whats = what.Fenced ∷ read_entries r ++ what.Spared (core_no k) ∷ [];
  event = None;
  after = record s {
    core = at s.core i k;
    mode = at s.mode i Running;
    retries = at s.retries i 0;
    spare = at s.spare k false;
  };
}
spare_by s i k r (Some w) = stops s i (what.Fenced ∷ read_entries r ++ what.Stop ∷ [])

-- the same without a spare, or with the lowest one
abbrev pub transfer_by : Cores → ℕ → Reading → Option ℕ → Did
transfer_by s i r None = stops s i (what.Fenced ∷ what.NoSpare ∷ what.Stop ∷ [])
transfer_by s i r (Some k) = spare_by s i k r r.lost

-- running, an attempt is made: it commits, or fails
abbrev pub attempt_by : Cores → ℕ → List What → ℕ → Option Cause → Did
attempt_by s i whats n None = record {
  whats = whats;
  event = Some (event.Commit (cpu_no i));
  after = record s { retries = at s.retries i 0; commits = s.commits + 1 };
}
attempt_by s i whats n (Some why) = record {
  whats = whats ++ what.Fail why n ∷ [];
  event = None;
  after = record s { mode = at s.mode i Recovering };
}

-- running, the words are to be read first: one is lost, or the attempt is made
abbrev pub scrub_by : Cores → ℕ → Met → Option ℕ → Did
scrub_by s i t (Some w) = stops s i (read_entries t.reading ++ what.Fenced ∷ what.Stop ∷ [])
scrub_by s i t None = attempt_by s i (read_entries t.reading) t.attempt t.cause

abbrev pub recovers : ℕ → Cores → ℕ → Met → Did
recovers threshold s i t =
    if nat_lt (s.retries i) threshold then recover_by s i t.reading t.reading.lost
    else transfer_by s i t.reading (lowest s.spare 0 16)

abbrev pub runs : Cores → ℕ → Met → Did
runs s i t =
    if t.waits then idles s i
    else (if t.scrubs then scrub_by s i t t.reading.lost
    else attempt_by s i [] t.attempt t.cause)

abbrev pub by_mode : ℕ → Cores → ℕ → Met → Mode → Did
by_mode threshold s i t Lost = idles s i
by_mode threshold s i t Recovering = recovers threshold s i t
by_mode threshold s i t Running = runs s i t

-- a turn of CPU i, at this threshold
unfoldable pub does : ℕ → Cores → ℕ → Met → Did
does threshold s i t = by_mode threshold s i t (s.mode i)

-- ---- which cores are fenced

abbrev pub belongs : Config → ℕ → Bool
belongs c k = nat_lt k c.cpus || is_spare_number c k

abbrev pub is_lost : Mode → Bool
is_lost Running = false
is_lost Recovering = false
is_lost Lost = true

-- whether core k is with one of the first n CPUs that is not lost
abbrev pub serves : Cores → ℕ → ℕ → Bool
serves s k zero = false
serves s k (suc n) = ((s.core n == k) && not (is_lost (s.mode n))) || serves s k n

-- it belongs to the machine, is no spare, and no CPU that is not lost is on it
unfoldable pub is_fenced : Config → Cores → ℕ → Bool
is_fenced c s k = belongs c k && (not (s.spare k) && not (serves s k c.cpus))

-- ---- a turn of a schedule

pub record Outline : Type 0 where
  pub entries : List Entry
  pub event : Option Event

pub record Made : Type 0 where
  pub outline : Outline
  pub after : Cores

-- every turn has a number, from 1
abbrev pub counted : Cores → Cores
counted s = record s { turns = s.turns + 1 }

abbrev pub entry : ℕ → ℕ → ℕ → What → Entry
entry turn cpu core w = record { turn = turn; cpu = cpu_no cpu; core = core_no core; what = w }

abbrev pub stamped : ℕ → ℕ → ℕ → List What → List Entry
stamped turn cpu core whats = map (entry turn cpu core) whats

-- the entries name the core that the CPU had before the turn
abbrev pub made_by_cpu : Cores → ℕ → Did → Made
made_by_cpu s i d = record {
  outline = record { entries = stamped (s.turns + 1) i (s.core i) d.whats; event = d.event };
  after = counted d.after;
}

-- a fenced core is a spare again; for any other core nothing happens
abbrev pub return_by : Cores → ℕ → Bool → Made
return_by s k true = record {
  outline = record { entries = entry (s.turns + 1) 255 k what.Returned ∷ []; event = None };
  after = counted (record s { spare = at s.spare k true });
}
return_by s k false = record { outline = record { entries = []; event = None }; after = counted s }

abbrev pub make : Config → Cores → RunKind → Met → Made
make c s (Turns i) t = made_by_cpu s i.0 (does c.threshold s i.0 t)
make c s (Key i) t = record {
  outline = record { entries = []; event = Some (event.Key i) };
  after = counted s;
}
make c s (Return k) t = return_by s k.0 (is_fenced c s k.0)

-- ---- turns one after another, each with what it meets

pub record Choice : Type 0 where
  pub kind : RunKind
  pub met : Met

abbrev pub outlines : Config → Cores → List Choice → List Outline
outlines c s [] = []
outlines c s (x ∷ xs) =
    (make c s x.kind x.met).outline ∷ outlines c (make c s x.kind x.met).after xs

abbrev pub cores_after : Config → Cores → List Choice → Cores
cores_after c s [] = s
cores_after c s (x ∷ xs) = cores_after c (make c s x.kind x.met).after xs
