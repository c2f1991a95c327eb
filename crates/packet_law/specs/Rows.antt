-- What the law asks of a row beside what the frame asks of it.
-- Source: choice of this project.
use Rattle.std.specs.Prelude.{◌≡◌, ℕ, ◌≤◌, List, None, length}
use Rattle.esa_model.specs.Access.{Operands, referenced}
use Rattle.esa_model.specs.Bus.{taken}
use Rattle.esa_model.specs.declared.instructions.Decoded.{Decoded}
use Rattle.esa_model.specs.declared.instructions.Row.{Row}
use Rattle.esa_model.specs.Line.{Effect, FullLine, Situation}
use Rattle.esa_model.specs.Machine.{Machine, side_of}
use Rattle.esa_model.specs.Unit.{exception, situation}
use Rattle.row_frame.specs.Made.{Fits, Covers, ReadsConsole, SetsKey}
use Rattle.packet_law.specs.Sound.{IsSent}

-- operands and an effect of a row of CPU i, where these blocks were referenced before:
-- what the packet tells of them has room in it
pub record Tells (m : Machine) (i : ℕ) (os : Operands) (e : Effect) (blocks : List ℕ) : Type 0 where
  pub fits : Fits os
  pub covers : Covers os e
  pub stored : length e.stored ≤ 256
  pub written : length e.console_out ≤ 256
  pub read : ReadsConsole e.console_in (length m.console) e.console_out
  pub key : SetsKey e.set_key
  pub order : IsSent e.sent i (taken None i m.bus)
  pub few : length (referenced (m.registers i) os blocks) ≤ 8

-- what an instruction of CPU i starts from
abbrev pub inputs_at : Machine → ℕ → Decoded → ℕ → ℕ → Situation
inputs_at m i d own len = situation (m.registers i) i m.storage (side_of m) d own len

-- where a row completes, what the packet tells of it has room in it
abbrev pub TellsCompleted : Machine → ℕ → Row → FullLine → Situation → List ℕ → Type 0
TellsCompleted m i row l s blocks =
    exception row l s ≡ 0 → (l.effect s).fault ≡ 0 → Tells m i (l.operands s) (l.effect s) blocks
