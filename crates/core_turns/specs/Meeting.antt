-- What a turn of a CPU meets, over every silicon: as the words of its core read. And which row of
-- the table of turns it makes by that. Source: choice of this project.
use Rattle.std.specs.Prelude.{⊤, ◌≡◌, ℕ, Bool, List, [], ◌∷◌, Option, Some, None}
use Rattle.esa_model.specs.declared.machine.Event.{Event}
use Rattle.esa_model.specs.declared.machine.Event.TheVariants as event
use Rattle.esa_model.specs.Bus.{cpu_no}
use Rattle.esa_model.specs.Line.{Side}
use Rattle.esa_model.specs.Machine.{is_idle}
use Rattle.run_model.specs.declared.faults.Cause.{Cause}
use Rattle.run_model.specs.declared.logs.Entry.{Entry}
use Rattle.run_model.specs.declared.logs.What.{What}
use Rattle.run_model.specs.declared.logs.What.TheVariants as what
use Rattle.run_model.specs.Cores.{Cores, Did, Met, does, stamped}
use Rattle.run_model.specs.Strikes.{cause}
use Rattle.core_states.specs.Words.{is_due, read_core}
use Rattle.silicon.specs.Chip.{Chip}
use Rattle.twin_units.specs.Units.{due_beside}
use Rattle.core_turns.specs.Held.{CorePool, HeldBy, SparesAre, core_of}
use Rattle.core_turns.specs.declared.held.Held.{Held}
use Rattle.core_turns.specs.declared.held.Held.TheVariants.{Running, Recovering, Lost, Taken}
use Rattle.core_turns.specs.declared.outcomes.Outcome.{Outcome}
use Rattle.core_turns.specs.declared.outcomes.Outcome.TheVariants as outcome

-- whether the turn is idle; that is asked of a running CPU alone
abbrev pub WaitsAs : Held → ℕ → Side → Bool → Type 0
WaitsAs (Running k) i side w = w ≡ is_idle (due_beside k.registers i side)
WaitsAs (Recovering k) i side w = ⊤
WaitsAs (Lost c retries) i side w = ⊤
WaitsAs Taken i side w = ⊤

-- what a turn of a CPU on core c meets; why its attempt fails, if one is made and fails, is what the
-- attempt found
abbrev pub met_on_chip : Chip → Bool → ℕ → Option Cause → Met
met_on_chip z waits c why = record {
  waits = waits;
  scrubs = is_due z c;
  reading = read_core z c;
  attempt = z.begun c;
  cause = why;
}

-- ---- what the turn came to

-- of a turn that makes no event: its first entry that says it
abbrev pub came_to : List What → Outcome
came_to [] = outcome.Idle
came_to (what.Fail why n ∷ ws) = outcome.Failed why
came_to (what.Retry r ∷ ws) = outcome.Retried r
came_to (what.Spared k ∷ ws) = outcome.Spared k
came_to (what.Corrected w b ∷ ws) = came_to ws
came_to (what.Uncorrectable w ∷ ws) = came_to ws
came_to (what.Fenced ∷ ws) = came_to ws
came_to (what.NoSpare ∷ ws) = came_to ws
came_to (what.Stop ∷ ws) = came_to ws
came_to (what.Returned ∷ ws) = came_to ws

abbrev pub outcome_by : Option Event → List What → Outcome
outcome_by (Some (event.Commit i)) ws = outcome.Committed
outcome_by (Some (event.Idle i)) ws = outcome.Idle
outcome_by (Some (event.Stop i)) ws = outcome.Stopped
outcome_by (Some (event.Key i)) ws = outcome.Idle
outcome_by None ws = came_to ws

abbrev pub event_of : ℕ → Outcome → Option Event
event_of i outcome.Committed = Some (event.Commit (cpu_no i))
event_of i outcome.Idle = Some (event.Idle (cpu_no i))
event_of i (outcome.Failed why) = None
event_of i (outcome.Retried r) = None
event_of i (outcome.Spared k) = None
event_of i outcome.Stopped = Some (event.Stop (cpu_no i))

-- why the attempt of a turn failed, if one was made; of a turn without one this is said instead
abbrev pub why_by : Outcome → Option Cause → Option Cause
why_by outcome.Committed other = None
why_by outcome.Idle other = other
why_by (outcome.Failed why) other = Some why
why_by (outcome.Retried r) other = other
why_by (outcome.Spared k) other = other
why_by outcome.Stopped other = other

-- the cause that the script gives the next attempt of the core
abbrev pub next_cause : Chip → ℕ → Option Cause
next_cause z c = cause z.lines c (z.begun c)

-- what is met as a cause in a turn of the CPU for which this is held
abbrev pub why_met : Chip → Held → Outcome → Option Cause
why_met z h came = why_by came (next_cause z (core_of h))

-- ---- the row of the table

-- entries, outcome, what is held and the pool after it are those of what the table does in turn
-- number n of CPU i on core c
pub record IsRow (n i c : ℕ) (d : Did) (es : List Entry) (came : Outcome) (h : Held)
    (p : CorePool) : Type 0 where
  pub entries : es ≡ stamped n i c d.whats
  pub event : event_of i came ≡ d.event
  pub outcome : came ≡ outcome_by d.event d.whats
  pub held : HeldBy h d.after i
  pub spares : SparesAre p d.after.spare

-- the turn is a row of the table, by what it met on the silicon
pub record Goes (t n i : ℕ) (s : Cores) (waits : Bool) (z : Chip) (why : Option Cause)
    (es : List Entry) (came : Outcome) (h : Held) (p : CorePool) : Type 0 where
  pub row : IsRow n i (s.core i) (does t s i (met_on_chip z waits (s.core i) why)) es came h p

-- it is so for every state that stands for what was held and for the pool
abbrev pub TurnGoes :
    ℕ → ℕ → ℕ → Held → Side → CorePool → Chip → List Entry → Outcome → Held → CorePool → Type 0
TurnGoes t n i h side p z es came h2 p2 = (s : Cores) (w : Bool) → HeldBy h s i
    → WaitsAs h i side w → SparesAre p s.spare
    → Goes t n i s w z (why_met z h came) es came h2 p2
