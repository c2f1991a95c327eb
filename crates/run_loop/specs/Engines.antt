-- What is seen of an engine that makes turns, and what holds of a turn that it makes.
-- Source: choice of this project.
use Rattle.std.specs.Prelude.{⊤, ◌≡◌, ℕ, List, Some}
use Rattle.std.specs.List.{All}
use Rattle.run_model.specs.declared.faults.Strike.{Strike}
use Rattle.run_model.specs.declared.logs.Config.{Config}
use Rattle.run_model.specs.declared.logs.Entry.{Entry}
use Rattle.run_model.specs.declared.logs.What.{What}
use Rattle.run_model.specs.declared.logs.What.TheVariants.{Fail}
use Rattle.run_model.specs.declared.schedules.RunKind.{RunKind}
use Rattle.run_model.specs.Cores.{Cores, Met, make}
use Rattle.run_model.specs.Fate.{Sound}
use Rattle.run_model.specs.Strikes.{cause}
use Rattle.run_model.specs.Runs.{Model, Told, tells, turned, outline_of}
use Rattle.silicon.specs.Tape.{Tape, tells as tells_tape}
use Rattle.silicon.specs.declared.handed.Handed.{Handed}
use Rattle.run_loop.specs.declared.engine.Turn.{Turn}

-- Its fault script, its configuration, the turns that it made, and what its silicon tells of what
-- was handed in. Whether it is in order for a turn, whether its modes and retries are those of some
-- cores, whether it stands for a state of the model, and what a turn hands in to the silicon by the
-- definitions, each engine says for itself.
pub record EngineView : Type 1 where
  pub lines : List Strike
  pub config : Config
  pub turns : ℕ
  pub tape : Tape
  pub ready : Type 0
  pub stands_by_mode : Cores → Type 0
  pub stands : Model → Type 0
  pub hands : Model → RunKind → List Handed

-- script and configuration stay
pub record Kept (old new : EngineView) : Type 0 where
  pub lines : new.lines ≡ old.lines
  pub config : new.config ≡ old.config
  pub hands : new.hands ≡ old.hands

-- what a turn tells, as the definitions have it
abbrev pub told_of : Turn → Told
told_of t = record {
  entries = t.entries.items;
  event = t.event;
  psw = t.psw;
  changed = t.written.changed.items;
  console = t.written.console.items;
}

-- the definition's turn of this kind is sound
abbrev pub SoundTurn : EngineView → Model → RunKind → Type 0
SoundTurn v x kind = Sound v.lines (turned v.lines v.config x kind).fate

-- whatever is struck: its entries and its event are what these cores make of what it met
pub record Obeys (s : Cores) (kind : RunKind) (old new : EngineView) (t : Told) : Type 0 where
  pub met : Met
  pub outline : outline_of t ≡ (make old.config s kind met).outline
  pub stands : new.stands_by_mode (make old.config s kind met).after

-- it tells what the definition says, hands in what it says, and leaves the state that it says
pub record Follows (x : Model) (kind : RunKind) (old new : EngineView) (t : Told) : Type 0 where
  pub told : t ≡ tells old.lines old.config x kind
  pub handed : new.tape ≡ tells_tape old.tape (old.hands x kind)
  pub stands : new.stands (turned old.lines old.config x kind)

-- an attempt of core c that failed: the script has the strike, and it fails by that cause
abbrev pub IsStruck : List Strike → ℕ → What → Type 0
IsStruck ls c (Fail why n) = cause ls c n ≡ Some why
IsStruck ls c w = ⊤

-- no failure without its strike
abbrev pub FailsAsStruck : List Strike → List Entry → Type 0
FailsAsStruck ls es = All (λ (e : Entry). IsStruck ls e.core.0 e.what) es
