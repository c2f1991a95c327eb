-- What the tables say of an operation: the test of its register numbers, its operands, and what it does.
-- Source: the form of one table of rows is a choice of this project; each row has its source in its own module.
use Rattle.std.specs.Prelude.{ℕ, ◌+◌, ◌*◌, ◌/◌, ◌-◌, ◌%◌, ◌^◌, ◌==◌, ◌&&◌, ◌||◌, if◌then◌else◌, List, [], Bool, true, false, Option, Some, None, slice_index, slice_set}
use Rattle.esa_model.specs.declared.machine.Psw.{Psw}
use Rattle.esa_model.specs.declared.machine.Registers.{Registers}
use Rattle.esa_model.specs.declared.machine.Signals.{Signals}
use Rattle.esa_model.specs.declared.machine.Value.{Value}
use Rattle.esa_model.specs.declared.instructions.Decoded.{Decoded}
use Rattle.esa_model.specs.declared.events.Interruption.{Interruption}
use Rattle.esa_model.specs.declared.events.Interruption.TheVariants.{Program}
use Rattle.esa_model.specs.declared.events.KeySet.{KeySet}
use Rattle.esa_model.specs.declared.events.SentOrder.{SentOrder}
use Rattle.esa_model.specs.declared.codes.TheConstants.{STAYS, FIXED_OVERFLOW, DECIMAL_OVERFLOW}
use Rattle.byteorder.specs.Endian.{big_number}
use Rattle.esa_model.specs.Psw.{is_wide, wrapped, address, with_address, with_code, overflow_interrupts, decimal_interrupts}
use Rattle.esa_model.specs.Access.{Memory, Operand, Operands, none, bytes}

-- what a row on registers and storage starts from
pub record Inputs : Type 0 where
  pub registers : Registers
  pub storage : List ℕ
  pub decoded : Decoded
  pub own : ℕ  -- the address of the instruction; under EX that of the target
  pub len : ℕ  -- its length in bytes; under EX that of EX

-- what a unit of operation sees beside the registers and the storage: the keys, the states and requests
-- of all CPUs, the bytes of the console input that are left, and the clock
pub record Side : Type 0 where
  pub keys : List ℕ
  pub bus : List Signals
  pub console : List ℕ
  pub clock : ℕ

-- what a control row starts from: the same, the number of the CPU and what it sees beside
pub record Situation : Type 0 where
  pub inputs : Inputs
  pub cpu : ℕ
  pub side : Side

abbrev pub memory_of : Situation → Memory
memory_of s = record { storage = s.inputs.storage; keys = s.side.keys }

-- what an operation does
pub record Effect : Type 0 where
  pub registers : Registers
  pub stored : List ℕ  -- the bytes that go to the first operand, from its front
  pub console_out : List ℕ  -- the bytes that go to the console
  pub console_in : Option ℕ  -- how many bytes of the console input are read, where it is read
  pub set_key : Option KeySet
  pub sent : Option SentOrder  -- an order to another CPU
  pub interruption : Option Interruption  -- after it: none, program or supervisor call
  pub code : ℕ  -- and its code
  pub fault : ℕ  -- the program code that suppresses it, or 0

-- how an operation is carried out: of a row that looks at registers and storage alone, and of any row
pub record Line : Type 0 where
  pub in_order : Inputs → Bool  -- register numbers, length codes, alignment and the like: specification where not
  pub operands : Inputs → Operands
  pub effect : Inputs → Effect

pub record FullLine : Type 0 where
  pub in_order : Situation → Bool
  pub operands : Situation → Operands
  pub effect : Situation → Effect

abbrev pub full : Line → FullLine
full l = record {
  in_order = λ s. l.in_order s.inputs;
  operands = λ s. l.operands s.inputs;
  effect = λ s. l.effect s.inputs;
}

-- ---- registers and addresses

abbrev pub general : Registers → ℕ → ℕ
general r n = slice_index r.general n

-- a register in an address: number 0 counts as zero
abbrev pub part : Registers → ℕ → ℕ
part r n = if n == 0 then 0 else slice_index r.general n

-- base, index and displacement, wrapped by the mode
unfoldable pub effective : Registers → ℕ → ℕ → ℕ → ℕ
effective r base index displacement = wrapped r.psw (part r base + part r index + displacement)

-- the address of RX: base and index
abbrev pub indexed : Registers → Decoded → ℕ
indexed r d = effective r d.b2 d.r2 d.d2

-- the second address of S, RS and SS
abbrev pub second_at : Registers → Decoded → ℕ
second_at r d = effective r d.b2 0 d.d2

-- the first address of SI and SS
abbrev pub first_at : Registers → Decoded → ℕ
first_at r d = effective r d.b1 0 d.d1

-- the registers with the address of the next instruction
unfoldable pub advanced : Registers → ℕ → Registers
advanced r len = record r { psw = with_address r.psw (wrapped r.psw (address r.psw + len)) }

-- the registers with a condition code, or the one that they have
abbrev pub coded : Registers → ℕ → Registers
coded r code = if code == STAYS then r else record r { psw = with_code r.psw code }

-- an address put into a register by TRT or EDMK: it replaces bits 8-31 in 24-bit mode; in 31-bit mode it replaces
-- bits 1-31, and bit 0 becomes zero
unfoldable pub marked : Registers → ℕ → ℕ
marked r at = if is_wide r.psw then wrapped r.psw at else general r 1 / 2 ^ 24 * 2 ^ 24 + wrapped r.psw at

-- ---- words of the storage

unfoldable pub word_at : Registers → List ℕ → ℕ → ℕ
word_at r storage at = big_number 4 (bytes r storage at 4)

unfoldable pub half_at : Registers → List ℕ → ℕ → ℕ
half_at r storage at = big_number 2 (bytes r storage at 2)

-- ---- kinds of lines

-- even register numbers name pairs
abbrev pub is_even : ℕ → Bool
is_even n = n % 2 == 0

abbrev pub always : Inputs → Bool
always i = true

-- one operand
abbrev pub one : Operand → Operands
one o = record { first = o; second = none; paired = false }

abbrev pub no_operands : Inputs → Operands
no_operands i = one none

-- two operands, one after the other
abbrev pub two : Operand → Operand → Operands
two a b = record { first = a; second = b; paired = false }

-- the registers, and nothing else
abbrev pub leaves : Registers → Effect
leaves r = record {
  registers = r;
  stored = [];
  console_out = [];
  console_in = None;
  set_key = None;
  sent = None;
  interruption = None;
  code = 0;
  fault = 0;
}

-- nothing but an exception
abbrev pub refuses : Registers → ℕ → Effect
refuses r fault = record (leaves r) { fault = fault }

-- the registers, and bytes stored into the first operand
abbrev pub stores : Registers → List ℕ → Effect
stores r xs = record (leaves r) { stored = xs }

-- an overflow, fixed-point or decimal, lets the unit complete and interrupts where its mask bit is one
abbrev pub is_overflow : ℕ → Bool
is_overflow fault = fault == FIXED_OVERFLOW || fault == DECIMAL_OVERFLOW

abbrev pub interrupts_after : Psw → ℕ → Bool
interrupts_after p fault = (fault == FIXED_OVERFLOW && overflow_interrupts p) || (fault == DECIMAL_OVERFLOW && decimal_interrupts p)

-- an effect that ends with a program code or 0; any code but the two of an overflow suppresses
abbrev pub ended : Registers → Bool → ℕ → Effect
ended r interrupts fault =
    if is_overflow fault
    then (if interrupts then record (leaves r) { interruption = Some Program; code = fault } else leaves r)
    else refuses r fault

-- the registers with a value in R1 and its condition code
unfoldable pub with_value : Registers → ℕ → ℕ → Value → Registers
with_value r r1 len v = coded (record (advanced r len) { general = slice_set r.general r1 v.word }) v.cc

-- the same with a pair in R1 and its odd neighbour
unfoldable pub with_pair : Registers → ℕ → ℕ → Value → Registers
with_pair r r1 len v =
    coded (record (advanced r len) { general = slice_set (slice_set r.general r1 v.word) (r1 + 1) v.low }) v.cc

unfoldable pub valued : Registers → ℕ → ℕ → Value → Effect
valued r r1 len v = ended (with_value r r1 len v) (interrupts_after r.psw v.fault) v.fault

unfoldable pub pair_valued : Registers → ℕ → ℕ → Value → Effect
pair_valued r r1 len v = ended (with_pair r r1 len v) (interrupts_after r.psw v.fault) v.fault

-- how many registers STM, LM, STCTL and LCTL name: R1 to R3 in ascending order, 0 after 15
abbrev pub register_count : Decoded → ℕ
register_count d = (d.r2 + 16 - d.r1) % 16 + 1

-- no operation
abbrev pub nothing : Line
nothing = record { in_order = always; operands = no_operands; effect = λ i. leaves i.registers }
