-- A machine with its two units as what makes the turns of a schedule, and what each turn gives.
-- Source: choice of this project.
use Rattle.std.specs.Prelude.{◌≡◌, ℕ, ◌+◌, ◌<◌, ◌≤◌}
use Rattle.run_model.specs.declared.schedules.RunKind.{RunKind}
use Rattle.run_model.specs.Cores.{Cores}
use Rattle.run_model.specs.Places.{Apart}
use Rattle.run_model.specs.Runs.{Model, Told}
use Rattle.run_laws.specs.Bounds.{BoundedCpus}
use Rattle.silicon.specs.Chip.{Chip}
use Rattle.silicon.specs.Tape.{Tape}
use Rattle.core_turns.specs.Handing.{hands}
use Rattle.twin_units.specs.UnitsSeen.{plain}
use Rattle.g5_machine.specs.Standing.{StandsFor, StandsByMode}
use Rattle.run_loop.specs.Engines.{EngineView, FailsAsStruck, Follows, Kept, Obeys, SoundTurn}
use Rattle.machine_runs.specs.declared.twin_machine.TwinMachine.{TwinMachine}

-- It is in order for a turn: no unit was called more often than turns were made, and no core has begun
-- more attempts than turns were made and 1,000,000, which is the most that a machine has that is stood
-- up again; and it stands by its modes for cores that each stand in one place.
pub record IsReady (e : TwinMachine) (z : Chip) : Type 0 where
  pub begun : (c : ℕ) → c < 16 → z.begun c ≤ e.machine.counts.turns + 1000000
  pub calls_a : (plain e.a).calls ≤ e.machine.counts.turns
  pub calls_b : (plain e.b).calls ≤ e.machine.counts.turns
  pub cores : Cores
  pub by_mode : StandsByMode e.machine cores
  pub apart : Apart e.machine.config cores

-- machine and silicon stand for a state whose wrong positions are within their bound
pub record Stands (e : TwinMachine) (z : Chip) (x : Model) : Type 0 where
  pub stands : StandsFor e.machine z x
  pub bounded : BoundedCpus z.lines e.machine.config x.fate

abbrev pub view_of : TwinMachine → Chip → Tape → EngineView
view_of e z t = record {
  lines = z.lines;
  config = e.machine.config;
  turns = e.machine.counts.turns;
  tape = t;
  ready = IsReady e z;
  stands_by_mode = λ s. StandsByMode e.machine s;
  stands = λ x. Stands e z x;
  hands = λ x kind. hands z.lines x kind;
}

-- what a turn of this kind gives: all that is asked of what makes turns
pub record Gives (kind : RunKind) (old new : EngineView) (t : Told) : Type 0 where
  pub ready : new.ready
  pub turns : new.turns ≡ old.turns + 1
  pub kept : Kept old new
  pub causes : FailsAsStruck old.lines t.entries
  pub obeys : (s : Cores) → old.stands_by_mode s → Obeys s kind old new t
  pub follows : (x : Model) → old.stands x → SoundTurn old x kind → Follows x kind old new t
