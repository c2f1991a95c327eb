-- One unit of operation, as far as the PSW that an interruption stores.
-- Source: Principles of Operation, chapters on program execution and on interruptions (program). The priority of
-- exceptions, suppression in place of termination, and which blocks are referenced are choices of this project.
use Rattle.std.specs.Prelude.{ℕ, ◌+◌, ◌-◌, ◌*◌, ◌/◌, ◌%◌, ◌^◌, ◌==◌, if◌then◌else◌, List, [], ◌∷◌, ◌++◌, true, false, ◌&&◌, Option, Some, None, slice_index, slice_set, replicate, bit_or}
use Rattle.esa_model.specs.declared.machine.Registers.{Registers}
use Rattle.esa_model.specs.declared.instructions.Form.TheVariants.{Rx}
use Rattle.esa_model.specs.declared.instructions.Row.{Row}
use Rattle.esa_model.specs.declared.instructions.Decoded.{Decoded}
use Rattle.esa_model.specs.declared.codes.TheConstants.{OPERATION, PRIVILEGED, EXECUTED, SPECIFICATION, EXECUTE}
use Rattle.esa_model.specs.declared.events.Interruption.{Interruption}
use Rattle.esa_model.specs.declared.events.Interruption.TheVariants.{Program}
use Rattle.esa_model.specs.declared.events.KeySet.{KeySet}
use Rattle.esa_model.specs.declared.events.SentOrder.{SentOrder}
use Rattle.esa_model.specs.declared.events.Taken.{Taken}
use Rattle.esa_model.specs.Word.{first_code}
use Rattle.esa_model.specs.Psw.{address, is_problem}
use Rattle.esa_model.specs.Access.{Memory, Operands, whole, byte, bytes, codes, refused, noted_of, referenced}
use Rattle.esa_model.specs.Table.{row_numbered, kind_numbered, decoded, fields_of, length_of}
use Rattle.esa_model.specs.Line.{FullLine, Side, Situation, Effect, memory_of, indexed, advanced, part}
use Rattle.esa_model.specs.Rows.All.{line}

-- what an event does
pub record Done : Type 0 where
  pub registers : Registers  -- after it; at an interruption with the PSW to be stored
  pub to : ℕ  -- the effective address at which the stored bytes begin
  pub stored : List ℕ
  pub console_out : List ℕ  -- bytes for the console
  pub console_in : Option ℕ  -- bytes read from the console input, where it is read
  pub blocks : List ℕ  -- referenced
  pub set_key : Option KeySet
  pub interruption : Option Interruption
  pub identification : ℕ  -- that the interruption stores
  pub taken : Option Taken  -- of what is pending at the CPU
  pub sent : Option SentOrder  -- to another CPU

-- an interruption and nothing else, with the blocks that were referenced before
abbrev pub interrupted : Registers → Option Interruption → ℕ → List ℕ → Done
interrupted r interruption identification blocks = record {
  registers = r;
  to = 0;
  stored = [];
  console_out = [];
  console_in = None;
  blocks = blocks;
  set_key = None;
  interruption = interruption;
  identification = identification;
  taken = None;
  sent = None;
}

-- a unit that a program exception suppresses: its length in bytes and the code are its identification
unfoldable pub suppressed : Registers → ℕ → ℕ → List ℕ → Done
suppressed r len code blocks = interrupted (advanced r len) (Some Program) (len * 2 ^ 16 + code) blocks

-- ---- the fetch

-- whether the first halfword is refused: at an odd address, outside, or protected
unfoldable pub start_code : Registers → Memory → ℕ → ℕ
start_code r m at = if at % 2 == 1 then SPECIFICATION else first_code (codes r m (whole at 2 true false))

-- the length in bytes, by the first byte; 2 where the first halfword is refused
unfoldable pub fetch_len : Registers → Memory → ℕ → ℕ
fetch_len r m at = if start_code r m at == 0 then length_of (byte r m.storage at) else 2

-- a halfword lies in one block, so byte by byte is 5 before 4 in the first halfword and then in the rest
unfoldable pub fetch_code : Registers → Memory → ℕ → ℕ
fetch_code r m at = if start_code r m at == 0 then first_code (codes r m (whole at (fetch_len r m at) true false)) else start_code r m at

-- the six bytes of an instruction, zeros after its own
unfoldable pub fetched : Registers → Memory → ℕ → List ℕ
fetched r m at = bytes r m.storage at (fetch_len r m at) ++ replicate (6 - fetch_len r m at) 0

-- the blocks of an instruction
unfoldable pub fetched_blocks : Registers → Memory → ℕ → List ℕ → List ℕ
fetched_blocks r m at blocks = noted_of r (whole at (fetch_len r m at) true false) blocks

-- ---- the priority of exceptions

unfoldable pub exception : Row → FullLine → Situation → ℕ
exception row l s = first_code (
    (if row.privileged && is_problem s.inputs.registers.psw then PRIVILEGED else 0) ∷
    (if l.in_order s then 0 else SPECIFICATION) ∷
    refused s.inputs.registers (memory_of s) (l.operands s) ∷ [])

-- what identifies the interruption that an effect ends with: the length in bytes, which is the length code in bits 5-6 of
-- the second byte, and the code
abbrev pub identified : Option Interruption → ℕ → ℕ → ℕ
identified None len code = 0
identified (Some k) len code = len * 2 ^ 16 + code

-- an effect that no fault suppresses
abbrev pub carried : Registers → ℕ → Operands → Effect → List ℕ → Done
carried r len os e blocks = record {
  registers = e.registers;
  to = os.first.at;
  stored = e.stored;
  console_out = e.console_out;
  console_in = e.console_in;
  blocks = referenced r os blocks;
  set_key = e.set_key;
  interruption = e.interruption;
  identification = identified e.interruption len e.code;
  taken = None;
  sent = e.sent;
}

-- the exceptions from the privileged operation on, for a row
unfoldable pub performed : Row → FullLine → Situation → List ℕ → Done
performed row l s blocks =
    let r = s.inputs.registers in
    let len = s.inputs.len in
    let code = exception row l s in
    let e = l.effect s in
    if code == 0
    then (if e.fault == 0 then carried r len (l.operands s) e blocks else suppressed r len e.fault blocks)
    else suppressed r len code blocks

-- what an instruction starts from
abbrev pub situation : Registers → ℕ → List ℕ → Side → Decoded → ℕ → ℕ → Situation
situation r cpu storage side d own len = record {
  inputs = record { registers = r; storage = storage; decoded = d; own = own; len = len };
  cpu = cpu;
  side = side;
}

-- the same for a decoded instruction; an opcode that the table has not is an operation exception
abbrev pub by_fields : Registers → ℕ → List ℕ → Side → ℕ → ℕ → List ℕ → Option Decoded → Done
by_fields r cpu storage side own len blocks None = suppressed r len OPERATION blocks
by_fields r cpu storage side own len blocks (Some d) =
    performed (row_numbered d.row) (line (kind_numbered d.row) (row_numbered d.row).opcode)
    (situation r cpu storage side d own len) blocks

-- the same for the six bytes of an instruction: own is its address, len its length in bytes, under EX that of EX
unfoldable pub instructed : Registers → ℕ → List ℕ → Side → List ℕ → ℕ → ℕ → List ℕ → Done
instructed r cpu storage side bs own len blocks = by_fields r cpu storage side own len blocks (decoded bs)

-- ---- EX

-- the target's bytes, the second or-ed with the low byte of R1 where R1 is not 0
abbrev pub modified : Registers → ℕ → List ℕ → List ℕ
modified r r1 bs = slice_set bs 1 (bit_or (slice_index bs 1) (part r r1 % 256))

-- the address of the target, from the bytes of EX
abbrev pub target_of : Registers → List ℕ → ℕ
target_of r bs = indexed r (fields_of Rx 0 bs)

-- the target's fetch, then code 3 where it is an EX, then the target; length and next address are those of EX
unfoldable pub executed : Registers → ℕ → List ℕ → Side → List ℕ → List ℕ → Done
executed r cpu storage side bs blocks =
    let m : Memory = record { storage = storage; keys = side.keys } in
    let at = target_of r bs in
    let code = fetch_code r m at in
    let all = fetched_blocks r m at blocks in
    let target = fetched r m at in
    if code == 0
    then (if slice_index target 0 == EXECUTE then suppressed r 4 EXECUTED all
    else instructed r cpu storage side (modified r (slice_index bs 1 / 16) target) at 4 all)
    else suppressed r 4 code blocks

-- ---- one unit

unfoldable pub unit : Registers → ℕ → List ℕ → Side → Done
unit r cpu storage side =
    let m : Memory = record { storage = storage; keys = side.keys } in
    let at = address r.psw in
    let len = fetch_len r m at in
    let code = fetch_code r m at in
    let bs = fetched r m at in
    let blocks = fetched_blocks r m at [] in
    if code == 0
    then (if slice_index bs 0 == EXECUTE then executed r cpu storage side bs blocks else instructed r cpu storage side bs at len blocks)
    else suppressed r len code []
