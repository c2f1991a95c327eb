-- Applying the packet of an event is what the event makes of the machine.
use Rattle.std.proofs.Common.{◌≡◌, ℕ, ◌+◌, List, ◌++◌, length, drop, refl, ap, ◌∙◌}
use Rattle.std.specs.Prelude.{Option}
use Rattle.esa_model.specs.declared.events.KeySet.{KeySet}
use Rattle.esa_model.specs.declared.events.Taken.{Taken}
use Rattle.esa_model.specs.Bus.{taken, after_sending}
use Rattle.esa_model.specs.SigpAnswers.{after_order}
use Rattle.esa_model.specs.Unit.{Done}
use Rattle.esa_model.specs.Machine.{Machine, at, after, done_at, next, registers_after, keys_after, with_key}
use Rattle.esa_model.specs.Packet.{fields, packet}
use Rattle.esa_model.specs.Apply.{apply, applied_keys, carried_out}
use Rattle.esa_model.specs.PacketCodes.{order_number, order_target}
use Rattle.result_packet.specs.Applied.{keys_left, bus_left}
use Rattle.packet_law.specs.Fine.{IsFine}
use Rattle.packet_law.specs.Sound.{IsSound, fields_at, packet_at}
use Rattle.packet_law.specs.Widths.{HasWidths}
use Rattle.packet_law.proofs.Widths.{fits}
use Rattle.packet_law.proofs.Back.{reads_back}
use Rattle.packet_law.proofs.Parts.{storage_known, keys_known}
use Rattle.packet_law.proofs.Around.{console_written, console_read, order_known, taken_known, key_known}

-- ---- the parts of what is carried out

registers_known : (m : Machine) (i : ℕ) (d : Done)
    → at m.registers i (fields (m.registers i) d m.storage).registers ≡ at m.registers i (registers_after (m.registers i) d m.storage)
unfolding fields
registers_known m i d = refl

all_keys_known : (m : Machine) (i : ℕ) (d : Done) → IsSound m i d
    → keys_left (m.registers i) (fields (m.registers i) d m.storage) (length m.storage) m.keys
    ≡ with_key d.set_key (keys_after (m.registers i) d (length m.storage) m.keys)
unfolding fields
all_keys_known m i d e =
    let keys : List ℕ = applied_keys (m.registers i) (fields (m.registers i) d m.storage) (length m.storage) m.keys in
    ap (λ (k : Option KeySet). with_key k keys) (key_known d.set_key e.key) ∙ ap (with_key d.set_key) (keys_known m i d e)

bus_known : (m : Machine) (i : ℕ) (d : Done) → IsSound m i d
    → bus_left i (fields (m.registers i) d m.storage) m.bus ≡ after_sending d.sent i (taken d.taken i m.bus)
unfolding fields
bus_known m i d e =
    ap (λ (t : Option Taken). after_order (order_number d.sent) i (order_target d.sent) (taken t i m.bus)) (taken_known d.taken)
    ∙ order_known d.sent i (taken d.taken i m.bus) e.order

carried_is : (m : Machine) (i : ℕ) (d : Done) → IsSound m i d → carried_out m i (fields (m.registers i) d m.storage) ≡ after m i d
unfolding carried_out after
carried_is m i d e =
    let storage = storage_known m i d e in
    let keys = all_keys_known m i d e in
    let read = console_read m i d e in
    let written = console_written m i d e in
    let bus = bus_known m i d e in
    let registers = registers_known m i d in
    λ j. record {
      storage = storage j;
      keys = keys j;
      clock = m.clock;
      console = drop (read j) m.console;
      console_read = m.console_read + read j;
      console_written = m.console_written ++ written j;
      bus = bus j;
      registers = registers j;
    }

pub applied : (m : Machine) (i : ℕ) (d : Done) → IsSound m i d → IsFine (fields_at m i d) → apply m i (packet_at m i d) ≡ after m i d
unfolding apply packet
applied m i d e fine = ap (carried_out m i) (reads_back (fields_at m i d) fine) ∙ carried_is m i d e

pub applied_next : (m : Machine) (i : ℕ) → IsSound m i (done_at m i) → IsFine (fields_at m i (done_at m i))
    → apply m i (packet_at m i (done_at m i)) ≡ next m i
unfolding next
applied_next m i e fine = applied m i (done_at m i) e fine

pub applied_typed : (m : Machine) (i : ℕ) → IsSound m i (done_at m i) → HasWidths (done_at m i) m.storage
    → apply m i (packet_at m i (done_at m i)) ≡ next m i
applied_typed m i e h = applied_next m i e (fits m i (done_at m i) e h)
