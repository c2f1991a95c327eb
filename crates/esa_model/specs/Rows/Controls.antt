-- Control rows, DIAGNOSE, SIGNAL PROCESSOR, and the rows on clocks.
-- Source: Principles of Operation, chapter on control instructions; DIAGNOSE, which is the console, is this project's own.
use Rattle.std.specs.Prelude.{ℕ, ◌/◌, ◌%◌, ◌^◌, nat_lt, nat_le, ◌==◌, ◌&&◌, not, if◌then◌else◌, List, [], Bool, true, false, Option, Some, None, is_some, length, min, take, slice_get, slice_set}
use Rattle.std.specs.Option.{unwrap_or}
use Rattle.byteorder.specs.Endian.{big_number, big_bytes}
use Rattle.esa_model.specs.declared.codes.TheConstants.{ADDRESSING}
use Rattle.esa_model.specs.declared.events.KeySet.{KeySet}
use Rattle.esa_model.specs.declared.events.SentOrder.{SentOrder}
use Rattle.esa_model.specs.declared.machine.Registers.{Registers}
use Rattle.esa_model.specs.declared.instructions.Decoded.{Decoded}
use Rattle.esa_model.specs.declared.kinds.ControlKind.{ControlKind}
use Rattle.esa_model.specs.declared.kinds.ControlKind.TheVariants.{Fetching, Storing, Masks, Keys, Diagnose, Signal, Clock, SetsClock, StoresClock}
use Rattle.esa_model.specs.declared.signalling.SigpAnswer.{SigpAnswer}
use Rattle.esa_model.specs.Psw.{wrapped}
use Rattle.esa_model.specs.Access.{Operands, place, bytes, whole, none}
use Rattle.esa_model.specs.Clocks.{clock_row, is_clock_row}
use Rattle.esa_model.specs.ControlRows.{Control, controlled, is_on_boundary, fetched_len, stored_len, is_fetching, is_storing, is_mask, is_key, console_called}
use Rattle.esa_model.specs.SigpAnswers.{answer_of}
use Rattle.esa_model.specs.Line.{FullLine, Inputs, Situation, Effect, general, first_at, second_at, advanced, coded, one, leaves, stores, refuses}

-- ---- the rows of ControlRows

-- a key that is set, of a block
abbrev pub set_in : ℕ → Option ℕ → Option KeySet
set_in block None = None
set_in block (Some key) = Some (record { block = block; key = key })

-- what a control row with this result does
abbrev pub control_effect : ℕ → Control → Effect
control_effect block c = record (leaves c.registers) { stored = c.stored; set_key = set_in block c.set_key; fault = c.fault }

abbrev pub control_of : ℕ → Situation → ℕ → List ℕ → Control
control_of op s key operand =
    controlled op s.cpu (length s.inputs.storage) key (advanced s.inputs.registers s.inputs.len) s.inputs.decoded operand

-- the second address
abbrev pub second : Situation → ℕ
second s = second_at s.inputs.registers s.inputs.decoded

abbrev pub fetching_line : ℕ → FullLine
fetching_line op = record {
  in_order = λ s. is_on_boundary op s.inputs.registers s.inputs.decoded;
  operands = λ s. one (whole (second s) (fetched_len op s.inputs.decoded) true false);
  effect = λ s. control_effect 0 (control_of op s 0 (bytes s.inputs.registers s.inputs.storage (second s) (fetched_len op s.inputs.decoded)));
}

abbrev pub storing_line : ℕ → FullLine
storing_line op = record {
  in_order = λ s. is_on_boundary op s.inputs.registers s.inputs.decoded;
  operands = λ s. one (whole (second s) (stored_len op s.inputs.decoded) false true);
  effect = λ s. control_effect 0 (control_of op s 0 []);
}

abbrev pub masks_line : ℕ → FullLine
masks_line op = record {
  in_order = λ s. true;
  operands = λ s. one (whole (first_at s.inputs.registers s.inputs.decoded) 1 false true);
  effect = λ s. control_effect 0 (control_of op s 0 []);
}

-- the block is that of the real page of the address in R2, also where that is register 0
abbrev pub key_place : Inputs → ℕ
key_place i = place i.registers (general i.registers i.decoded.r2)

abbrev pub key_there : Situation → ℕ
key_there s = unwrap_or (slice_get s.side.keys (key_place s.inputs / 4096)) 0

abbrev pub keys_line : ℕ → FullLine
keys_line op = record {
  in_order = λ s. true;
  operands = λ s. one none;
  effect = λ s.
      if nat_le (length s.inputs.storage) (key_place s.inputs) then refuses s.inputs.registers ADDRESSING
      else control_effect (key_place s.inputs / 4096) (control_of op s (key_there s) []);
}

-- ---- DIAGNOSE: the function is the second address, the count the contents of R3, the place the address in R1

abbrev pub called : Inputs → Option Bool
called i = console_called (second_at i.registers i.decoded) (general i.registers i.decoded.r2)

unfoldable pub text_at : Registers → Decoded → ℕ
text_at r d = wrapped r.psw (general r d.r1)

-- how many bytes a read gets
abbrev pub count_read : Situation → ℕ
count_read s = min (general s.inputs.registers s.inputs.decoded.r2) (length s.side.console)

-- a write takes bytes of the storage to the console
abbrev pub write_effect : Inputs → Effect
write_effect i = record (leaves (advanced i.registers i.len)) {
  console_out = bytes i.registers i.storage (text_at i.registers i.decoded) (general i.registers i.decoded.r2);
}

-- the registers after a read: R3 has the number of bytes
abbrev pub registers_read : Inputs → ℕ → Registers
registers_read i n = record (advanced i.registers i.len) { general = slice_set i.registers.general i.decoded.r2 n }

-- a read stores the next bytes of the console input
abbrev pub read_effect : Situation → Effect
read_effect s = record (leaves (registers_read s.inputs (count_read s))) {
  stored = take (count_read s) s.side.console;
  console_in = Some (count_read s);
}

abbrev pub diagnose_operands : Inputs → Option Bool → Operands
diagnose_operands i None = one none
diagnose_operands i (Some reads) = one (whole (text_at i.registers i.decoded) (general i.registers i.decoded.r2) (not reads) reads)

abbrev pub diagnose_effect : Situation → Option Bool → Effect
diagnose_effect s None = leaves s.inputs.registers
diagnose_effect s (Some reads) = if reads then read_effect s else write_effect s.inputs

abbrev pub diagnose_line : FullLine
diagnose_line = record {
  in_order = λ s. is_some (called s.inputs);
  operands = λ s. diagnose_operands s.inputs (called s.inputs);
  effect = λ s. diagnose_effect s (called s.inputs);
}

-- ---- SIGP: the order is the low byte of the second address, the CPU bits 16-31 of R3

abbrev pub order_of : Inputs → ℕ
order_of i = second_at i.registers i.decoded % 256

abbrev pub order_cpu : Inputs → ℕ
order_cpu i = general i.registers i.decoded.r2 % 2 ^ 16

-- a status is stored in R1 with condition code 1
abbrev pub with_status : Registers → ℕ → SigpAnswer → Registers
with_status r r1 a = coded (if a.cc == 1 then record r { general = slice_set r.general r1 a.status } else r) a.cc

-- an order other than sense, where it is accepted, goes to its CPU
abbrev pub sent_to : ℕ → ℕ → SigpAnswer → Option SentOrder
sent_to order to a = if a.accepted && nat_lt 1 order then Some (record { order = order; to = to }) else None

abbrev pub signal_effect : Inputs → SigpAnswer → Effect
signal_effect i a = record (leaves (with_status (advanced i.registers i.len) i.decoded.r1 a)) {
  sent = sent_to (order_of i) (order_cpu i) a;
}

abbrev pub signal_line : FullLine
signal_line = record {
  in_order = λ s. true;
  operands = λ s. one none;
  effect = λ s. signal_effect s.inputs (answer_of s.side.bus (order_cpu s.inputs) (order_of s.inputs));
}

-- ---- the clock, the clock comparator and the CPU timer

-- STCK: the clock is stored, and the condition code is 0
abbrev pub clock_line : FullLine
clock_line = record {
  in_order = λ s. true;
  operands = λ s. one (whole (second s) 8 false true);
  effect = λ s. stores (coded (advanced s.inputs.registers s.inputs.len) 0) (big_bytes 8 s.side.clock);
}

abbrev pub is_on_doubleword : Situation → Bool
is_on_doubleword s = second s % 8 == 0

-- SCKC SPT: the clock words become those of the row on the operand
abbrev pub sets_clock_line : ℕ → FullLine
sets_clock_line op = record {
  in_order = is_on_doubleword;
  operands = λ s. one (whole (second s) 8 true false);
  effect = λ s. leaves (record (advanced s.inputs.registers s.inputs.len) {
    clocks = (clock_row op s.inputs.registers.clocks s.side.clock (big_number 8 (bytes s.inputs.registers s.inputs.storage (second s) 8))).words;
  });
}

-- STCKC STPT
abbrev pub stores_clock_line : ℕ → FullLine
stores_clock_line op = record {
  in_order = is_on_doubleword;
  operands = λ s. one (whole (second s) 8 false true);
  effect = λ s. stores (advanced s.inputs.registers s.inputs.len)
      (big_bytes 8 (unwrap_or (clock_row op s.inputs.registers.clocks s.side.clock 0).stored 0));
}

unfoldable pub controls_line : ControlKind → ℕ → FullLine
controls_line Fetching op = fetching_line op
controls_line Storing op = storing_line op
controls_line Masks op = masks_line op
controls_line Keys op = keys_line op
controls_line Diagnose op = diagnose_line
controls_line Signal op = signal_line
controls_line Clock op = clock_line
controls_line SetsClock op = sets_clock_line op
controls_line StoresClock op = stores_clock_line op

-- whether ControlRows or Clocks has what a row of this kind and opcode does
unfoldable pub has_control : ControlKind → ℕ → Bool
has_control Fetching op = is_fetching op
has_control Storing op = is_storing op
has_control Masks op = is_mask op
has_control Keys op = is_key op
has_control Diagnose op = true
has_control Signal op = true
has_control Clock op = true
has_control SetsClock op = is_clock_row op
has_control StoresClock op = is_clock_row op
