-- What the frame wants of the operands and the effect of a row.
-- Source: choice of this project.
use Rattle.std.specs.Prelude.{◌≡◌, ◌⊎◌, ℕ, ◌<◌, ◌≤◌, List, [], true, false, Option, Some, None, length}
use Rattle.std.specs.List.{range_with_len}
use Rattle.esa_model.specs.declared.machine.Registers.{Registers}
use Rattle.esa_model.specs.declared.events.KeySet.{KeySet}
use Rattle.row_frame.specs.declared.instruction.Instruction.{Instruction}
pub use Rattle.esa_table.specs.Encoding.{IsInRange}
use Rattle.esa_model.specs.Access.{Operands}
use Rattle.esa_model.specs.Line.{Effect, Inputs, Side, Situation}

-- what a row on registers and storage starts from, and what a control row starts from
abbrev pub inputs : Registers → List ℕ → Instruction → Inputs
inputs r storage i = record { registers = r; storage = storage; decoded = i.decoded; own = i.own; len = i.len }

abbrev pub situation : Registers → ℕ → List ℕ → Side → Instruction → Situation
situation r cpu storage side i = record { inputs = inputs r storage i; cpu = cpu; side = side }

-- operands that the frame can test: those that are paired have as many bytes, and the first has its
-- bytes in order
pub record Fits (os : Operands) : Type 0 where
  pub paired : os.paired ≡ true → length os.first.offsets ≡ length os.second.offsets
  pub first : os.first.offsets ≡ range_with_len 0 (length os.first.offsets)

-- the bytes stored lie in a first operand that was tested for storing; what stores writes nothing
-- to the console
pub record Covers (os : Operands) (e : Effect) : Type 0 where
  pub short : length e.stored ≤ length os.first.offsets
  pub store : 0 < length e.stored → os.paired ≡ false
  pub one : (e.stored ≡ []) ⊎ (e.console_out ≡ [])

-- an effect that stores nothing and writes nothing to the console
pub record IsPlain (e : Effect) : Type 0 where
  pub stored : e.stored ≡ []
  pub console_out : e.console_out ≡ []

-- an effect that reads no console input, sends no order and sets no key: control rows alone have
-- another
pub record IsQuiet (e : Effect) : Type 0 where
  pub console_in : e.console_in ≡ None
  pub sent : e.sent ≡ None
  pub set_key : e.set_key ≡ None

-- bytes read from the console: at most 256, at most those left, and then none are written to it
pub record IsRead (n left : ℕ) (out : List ℕ) : Type 0 where
  pub most : n ≤ 256
  pub there : n ≤ left
  pub alone : out ≡ []

abbrev pub ReadsConsole : Option ℕ → ℕ → List ℕ → Type 0
ReadsConsole None left out = Unit {0}
ReadsConsole (Some n) left out = IsRead n left out

-- a key that is set is that of a block below X'FFFF', whose number tells in a packet that none is
-- set
abbrev pub SetsKey : Option KeySet → Type 0
SetsKey None = Unit {0}
SetsKey (Some k) = k.block < 65535
