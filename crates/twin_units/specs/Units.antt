-- A unit of operation from the bytes of its instruction, and where the state is that units of a CPU are said of.
-- Source: choice of this project.
use Rattle.std.specs.Prelude.{◌≡◌, ℕ, ◌<◌, ◌==◌, if◌then◌else◌, List, [], Bool, true, false, Option, length, slice_index}
use Rattle.esa_model.specs.declared.codes.TheConstants.{EXECUTE}
use Rattle.esa_model.specs.declared.kinds.Kind.{Kind}
use Rattle.esa_model.specs.declared.machine.Due.{Due}
use Rattle.esa_model.specs.declared.machine.Registers.{Registers}
use Rattle.esa_model.specs.declared.machine.Request.{Request}
use Rattle.esa_model.specs.Word.{first_code}
use Rattle.esa_model.specs.Psw.{address}
use Rattle.esa_model.specs.Access.{Memory, Operands, whole, codes, noted_of}
use Rattle.esa_model.specs.Table.{length_of}
use Rattle.esa_model.specs.Line.{Side, Situation, Effect}
use Rattle.esa_model.specs.Rows.All.{line, is_of_kind}
use Rattle.esa_model.specs.Bus.{signals_of}
use Rattle.esa_model.specs.Event.{due, enabled}
use Rattle.esa_model.specs.Machine.{Machine, side_of}
use Rattle.esa_model.specs.Unit.{Done, executed, instructed, suppressed}

-- CPU i of a machine has these registers, and it sees this storage and this side
pub record IsAt (m : Machine) (i : ℕ) (r : Registers) (bytes : List ℕ) (seen : Side) : Type 0 where
  pub registers : m.registers i ≡ r
  pub storage : m.storage ≡ bytes
  pub side : side_of m ≡ seen
  pub there : i < length m.bus

-- the event that is due at CPU i with these registers, by what it sees beside
abbrev pub due_beside : Registers → ℕ → Side → Due
due_beside r i side = due r side.clock (signals_of side.bus i)

-- the external request that is enabled there
abbrev pub enabled_beside : Registers → ℕ → Side → Option Request
enabled_beside r i side = enabled r side.clock (signals_of side.bus i)

-- what the line of a row of this kind and opcode says of a situation
abbrev pub is_in_order : Kind → ℕ → Situation → Bool
is_in_order kind op s = (line kind op).in_order s

abbrev pub operands_by : Kind → ℕ → Situation → Operands
operands_by kind op s = (line kind op).operands s

abbrev pub effect_by : Kind → ℕ → Situation → Effect
effect_by kind op s = (line kind op).effect s

-- the values that the line names are defined for the opcode
abbrev pub IsKnown : Kind → ℕ → Type 0
IsKnown kind op = is_of_kind kind op ≡ true

-- the unit of six bytes that are said to stand at the instruction address; one whose bytes may not be fetched is suppressed
unfoldable pub unit_of_bytes : Registers → ℕ → List ℕ → Side → List ℕ → Done
unit_of_bytes r i storage side bs =
    let m : Memory = record { storage = storage; keys = side.keys } in
    let at = address r.psw in
    let len = length_of (slice_index bs 0) in
    let code = first_code (codes r m (whole at len true false)) in
    let blocks = noted_of r (whole at len true false) [] in
    if code == 0
    then (if slice_index bs 0 == EXECUTE then executed r i storage side bs blocks else instructed r i storage side bs at len blocks)
    else suppressed r len code []
