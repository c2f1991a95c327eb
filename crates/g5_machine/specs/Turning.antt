-- What a turn of a machine gives: in every case a row of the table of turns, and where the silicon
-- is within the premise what the definitions say.
-- Source: choice of this project.
use Rattle.std.specs.Prelude.{◌≡◌, ℕ, List, [], ◌∷◌, Option, Some, None, slice_get}
use Rattle.esa_model.specs.declared.machine.CpuNo.{CpuNo}
use Rattle.esa_model.specs.declared.machine.Event.TheVariants as event
use Rattle.run_model.specs.declared.faults.Strike.{Strike}
use Rattle.run_model.specs.declared.logs.Config.{Config}
use Rattle.run_model.specs.declared.logs.Entry.{Entry}
use Rattle.run_model.specs.declared.schedules.RunKind.{RunKind}
use Rattle.run_model.specs.Cores.{Cores, Met, make}
use Rattle.run_model.specs.Fate.{Sound}
use Rattle.run_model.specs.Runs.{Model, Told, outline_of, tells, tells_nothing_else, turned}
use Rattle.result_packet.specs.declared.written.Written.{Written}
use Rattle.run_laws.specs.Bounds.{BoundedCpus}
use Rattle.silicon.specs.Chip.{Chip}
use Rattle.silicon.specs.Tape.{Tape, tells as tells_tape}
use Rattle.core_turns.specs.Handing.{hands}
use Rattle.core_turns.specs.Held.{core_of}
use Rattle.core_turns.specs.Meeting.{event_of}
use Rattle.core_turns.specs.declared.held.Held.{Held}
use Rattle.g5_machine.specs.Standing.{StandsFor, StandsByMode}
use Rattle.g5_machine.specs.declared.machine.Machine.{Machine}
use Rattle.g5_machine.specs.declared.turns.Turn.{Turn}

-- the core of CPU i
abbrev pub core_there : Option Held → ℕ
core_there None = 0
core_there (Some h) = core_of h

abbrev pub core_at : List Held → ℕ → ℕ
core_at cpus i = core_there (slice_get cpus i)

-- what a turn of CPU i tells, with its entries and what it wrote
abbrev pub told_by : ℕ → Turn → List Entry → Written → Told
told_by i t es w = record {
  entries = es;
  event = event_of i t.outcome;
  psw = t.psw;
  changed = w.changed.items;
  console = w.console.items;
}

-- what a turn that presses the interrupt key of a CPU tells
abbrev pub key_told : CpuNo → Told
key_told cpu = tells_nothing_else [] (Some (event.Key cpu))

-- and one that returns a core: its entry, if there is one
abbrev pub entry_if : Option Entry → List Entry
entry_if None = []
entry_if (Some e) = e ∷ []

abbrev pub return_told : Option Entry → Told
return_told e = tells_nothing_else (entry_if e) None

-- it tells and leaves what the table makes of something that it met
pub record Obeys (c : Config) (s : Cores) (kind : RunKind) (t : Told) (after : Machine) :
    Type 0 where
  pub met : Met
  pub outline : outline_of t ≡ (make c s kind met).outline
  pub stands : StandsByMode after (make c s kind met).after

-- it tells what the definitions say, and machine and silicon stand for the state after it, in which
-- the wrong positions of the cores in use are within their bound
pub record Follows (ls : List Strike) (c : Config) (x : Model) (kind : RunKind) (t : Told)
    (after : Machine) (z : Chip) : Type 0 where
  pub told : t ≡ tells ls c x kind
  pub stands : StandsFor after z (turned ls c x kind)
  pub bounded : BoundedCpus ls c (turned ls c x kind).fate

-- of every state that machine and silicon stand for, if the script is within the premise at the
-- attempts that are begun by the end of the turn
abbrev pub FollowsAll : List Strike → Config → Machine → Chip → RunKind → Told → Machine → Chip
    → Type 0
FollowsAll ls c before z kind t after z2 = (x : Model) → StandsFor before z x
    → BoundedCpus ls c x.fate → Sound ls (turned ls c x kind).fate
    → Follows ls c x kind t after z2

-- and of every such state, what was handed in to the silicon is what the definitions say
abbrev pub HandsAll : List Strike → Config → Machine → Chip → RunKind → Tape → Tape → Type 0
HandsAll ls c before z kind old new = (x : Model) → StandsFor before z x
    → BoundedCpus ls c x.fate → Sound ls (turned ls c x kind).fate
    → new ≡ tells_tape old (hands ls x kind)
