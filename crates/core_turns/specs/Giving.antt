-- What a turn of a CPU makes of the machine of the definitions, and what it tells.
-- Source: choice of this project; what a commit does is the step of the Principles of Operation.
use Rattle.std.specs.Prelude.{⊤, ◌≡◌, ◌≢◌, ℕ, ◌+◌, ◌<◌, ◌≤◌, Bool, IsTrue, List, length}
use Rattle.esa_model.specs.Line.{Side}
use Rattle.esa_model.specs.Machine.{Machine, side_of}
use Rattle.esa_model.specs.Run.{run}
use Rattle.run_model.specs.declared.logs.Entry.{Entry}
use Rattle.run_model.specs.Strikes.{WithinAt}
use Rattle.silicon.specs.Chip.{Chip}
use Rattle.run_model.specs.Runs.{Told, events_of, tells_by}
use Rattle.core_turns.specs.Meeting.{event_of}
use Rattle.core_turns.specs.declared.held.Held.{Held}
use Rattle.core_turns.specs.declared.held.Held.TheVariants.{Running, Recovering, Lost, Taken}
use Rattle.core_turns.specs.Made.{Made}
use Rattle.core_turns.specs.declared.outcomes.Outcome.{Outcome}
use Rattle.core_turns.specs.declared.outcomes.Outcome.TheVariants.{Committed, Idle, Failed, Retried, Spared, Stopped}

-- the registers of a running core are those of CPU i; of another nothing is held
abbrev pub HasRegisters : Held → Machine → ℕ → Type 0
HasRegisters (Running k) m i = m.registers i ≡ k.registers
HasRegisters (Recovering k) m i = ⊤
HasRegisters (Lost c retries) m i = ⊤
HasRegisters Taken m i = ⊤

-- CPU i of a machine sees this storage and this side
pub record SeenBy (m : Machine) (i : ℕ) (bytes : List ℕ) (seen : Side) : Type 0 where
  pub storage : m.storage ≡ bytes
  pub side : side_of m ≡ seen
  pub there : i < length m.bus

-- what the turn tells
abbrev pub told_of : ℕ → List Entry → Made → Told
told_of i es t = record {
  entries = es;
  event = event_of i t.outcome;
  psw = t.psw;
  changed = t.written.changed.items;
  console = t.written.console.items;
}

-- the machine after the turn's event, where it has one
abbrev pub after_outcome : Machine → ℕ → Outcome → Machine
after_outcome m i came = run m (events_of (event_of i came))

-- the registers of a core that ran before and runs after the turn
abbrev pub KeepsRegisters : Held → Held → Machine → ℕ → Type 0
KeepsRegisters (Running k) h2 m i = HasRegisters h2 m i
KeepsRegisters (Recovering k) h2 m i = ⊤
KeepsRegisters (Lost c retries) h2 m i = ⊤
KeepsRegisters Taken h2 m i = ⊤

-- of the console, at most 256 bytes more were read, and what was read and what is left are together
-- what they were; and so many bytes more were written
pub record KeepsCount (m m2 : Machine) (out : List ℕ) : Type 0 where
  pub read : m2.console_read + length m2.console ≡ m.console_read + length m.console
  pub more : m.console_read ≤ m2.console_read
  pub few : m2.console_read ≤ m.console_read + 256
  pub written : length m2.console_written ≡ length m.console_written + length out

-- storage and side after the turn are those of that machine, what it tells is what is told of it,
-- and so are the registers; those of other CPUs stay
pub record Gives (m : Machine) (i : ℕ) (h : Held) (es : List Entry) (t : Made)
    (bytes : List ℕ) (seen : Side) : Type 0 where
  pub storage : (after_outcome m i t.outcome).storage ≡ bytes
  pub side : side_of (after_outcome m i t.outcome) ≡ seen
  pub told : told_of i es t ≡ tells_by m es (event_of i t.outcome)
  pub registers : KeepsRegisters h t.held (after_outcome m i t.outcome) i
  pub others : (j : ℕ) → j ≢ i → (after_outcome m i t.outcome).registers j ≡ m.registers j
  pub console : KeepsCount m (after_outcome m i t.outcome) t.written.console.items

-- a commit is one of exact units, and the silicon was within the premise at the attempt; of any other
-- turn nothing is asked
abbrev pub IsSureCommit : Outcome → Bool → Bool → Chip → ℕ → Type 0
IsSureCommit Committed a b z c = IsTrue a × IsTrue b × WithinAt z.lines c (z.begun c)
IsSureCommit Idle a b z c = ⊤
IsSureCommit (Failed why) a b z c = ⊤
IsSureCommit (Retried r) a b z c = ⊤
IsSureCommit (Spared k) a b z c = ⊤
IsSureCommit Stopped a b z c = ⊤

-- it is so of every machine that stands for what was held, and for storage and side
abbrev pub TurnGives : ℕ → Held → List ℕ → Side → List Entry → Made → List ℕ → Side → Type 0
TurnGives i h bytes seen es t bytes2 seen2 = (m : Machine) → HasRegisters h m i
    → SeenBy m i bytes seen → Gives m i h es t bytes2 seen2

-- bytes that stay where nothing is committed
abbrev pub StaysUnlessCommitted : Outcome → List ℕ → List ℕ → Type 0
StaysUnlessCommitted Committed old new = ⊤
StaysUnlessCommitted Idle old new = new ≡ old
StaysUnlessCommitted (Failed why) old new = new ≡ old
StaysUnlessCommitted (Retried r) old new = new ≡ old
StaysUnlessCommitted (Spared k) old new = new ≡ old
StaysUnlessCommitted Stopped old new = new ≡ old
