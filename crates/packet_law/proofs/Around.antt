-- What a packet tells of the console and of the bus.
use Rattle.std.proofs.Common.{◌≡◌, ◌⊎◌, ℕ, ◌≤◌, List, [], ◌∷◌, length, take, refl, sym, arith, inl, inr}
use Rattle.std.specs.Prelude.{◌==◌, if◌then◌else◌, nat_lt, nat_le, Bool, true, false, ◌&&◌, Option, Some, None}
use Rattle.std.specs.Option.{unwrap_or}
use Rattle.std.proofs.lemmas.Grind.{common_steps}
use Rattle.esa_model.specs.declared.machine.Signals.{Signals}
use Rattle.esa_model.specs.declared.machine.Request.TheVariants.{Key, Malfunction, Emergency, ExternalCall, Comparator, Timer}
use Rattle.esa_model.specs.declared.events.KeySet.{KeySet}
use Rattle.esa_model.specs.declared.events.SentOrder.{SentOrder}
use Rattle.esa_model.specs.declared.events.Taken.{Taken}
use Rattle.esa_model.specs.declared.events.Taken.TheVariants as taking
use Rattle.esa_model.specs.Bus.{signalled, signals_of, after_sending}
use Rattle.esa_model.specs.PacketCodes.{taken_of, taken_number, taken_sender, key_set_of, key_block, key_byte, order_number, order_target}
use Rattle.esa_model.specs.SigpAnswers.{after_order, answer_of, answer_in}
use Rattle.esa_model.specs.Unit.{Done}
use Rattle.esa_model.specs.Machine.{Machine}
use Rattle.esa_model.specs.Packet.{fields, filled, console_kind, console_count}
use Rattle.esa_model.specs.Apply.{console_in, console_out}
use Rattle.row_frame.specs.Made.{ReadsConsole, SetsKey}
use Rattle.packet_law.specs.Sound.{IsSound, IsSent, IsTaken}

-- ---- the console

written_known : (stored out : List ℕ) → length out ≤ 256 → ((stored ≡ []) ⊎ (out ≡ []))
    → (if (if length out == 0 then 0 else 1) == 1 && nat_le (length out) 256
    then take (length out) (filled 256 (if length stored == 0 then out else stored)) else []) ≡ out
written_known [] [] h one = refl
written_known [] (w ∷ ws) h one = grind (arith, common_steps, h)
written_known (x ∷ xs) [] h one = refl
written_known (x ∷ xs) (w ∷ ws) h one = absurd (elim one as (λ _. ⊥) [ inl e ↦ cc | inr e ↦ cc ])

out_known : (o : Option ℕ) (left : ℕ) (stored out : List ℕ) → length out ≤ 256 → ((stored ≡ []) ⊎ (out ≡ [])) → ReadsConsole o left out
    → (if console_kind o out == 1 && nat_le (console_count o out) 256
    then take (console_count o out) (filled 256 (if length stored == 0 then out else stored)) else []) ≡ out
out_known None left stored out h one reads = written_known stored out h one
out_known (Some n) left stored out h one reads = sym reads.alone

not_read : (none few : Bool) (n : ℕ) → (if (if none then 0 else 1) == 2 && few then n else 0) ≡ 0
not_read true few n = refl
not_read false few n = refl

in_known : (o : Option ℕ) (left : ℕ) (out : List ℕ) → ReadsConsole o left out
    → (if console_kind o out == 2 && (nat_le (console_count o out) 256 && nat_le (console_count o out) left) then console_count o out else 0) ≡ unwrap_or o 0
in_known None left out reads = not_read (length out == 0) (nat_le (length out) 256 && nat_le (length out) left) (length out)
in_known (Some n) left out reads =
    let most : nat_le n 256 ≡ true = let h = reads.most in grind (arith, h) in
    let there : nat_le n left ≡ true = let h = reads.there in grind (arith, h) in
    rw (most, there) refl

pub console_written : (m : Machine) (i : ℕ) (d : Done) → IsSound m i d → console_out (fields (m.registers i) d m.storage) ≡ d.console_out
unfolding fields
console_written m i d e = out_known d.console_in (length m.console) d.stored d.console_out e.written e.one e.read

pub console_read : (m : Machine) (i : ℕ) (d : Done) → IsSound m i d → console_in (fields (m.registers i) d m.storage) (length m.console) ≡ unwrap_or d.console_in 0
unfolding fields
console_read m i d e = in_known d.console_in (length m.console) d.console_out e.read

-- ---- the bus

-- an order that is none changes nothing
by_reach : (b : Bool) (s : Signals) → (if b then record { cc = 3; status = 0; accepted = false } else answer_in s 0).accepted ≡ false
unfolding answer_in
by_reach true s = refl
by_reach false s = refl

refused : (to : ℕ) (bus : List Signals) → (answer_of bus to 0).accepted ≡ false
unfolding answer_of
refused to bus = by_reach (nat_le (length bus) to) (signals_of bus to)

unordered : (i to : ℕ) (bus : List Signals) → after_order 0 i to bus ≡ bus
unfolding after_order
unordered i to bus = rw (refused to bus) (grind arith)

accepted : (order i to : ℕ) (bus : List Signals) → IsTaken order i to bus → after_order order i to bus ≡ signalled order i to bus
unfolding after_order
accepted order i to bus h =
    let sender : nat_lt i (length bus) ≡ true = let s = h.sender in grind (arith, s) in
    rw (sender, h.accepted) refl

pub order_known : (o : Option SentOrder) (i : ℕ) (bus : List Signals) → IsSent o i bus
    → after_order (order_number o) i (order_target o) bus ≡ after_sending o i bus
order_known None i bus h = unordered i 0xFF bus
order_known (Some o) i bus h = accepted o.order i o.to bus h

-- ---- what is taken, and the key that is set

pub taken_known : (t : Option Taken) → taken_of (taken_number t) (taken_sender t) ≡ t
taken_known None = refl
taken_known (Some (taking.Request Key)) = refl
taken_known (Some (taking.Request (Malfunction c))) = refl
taken_known (Some (taking.Request (Emergency c))) = refl
taken_known (Some (taking.Request (ExternalCall c))) = refl
taken_known (Some (taking.Request Comparator)) = refl
taken_known (Some (taking.Request Timer)) = refl
taken_known (Some taking.Restart) = refl

pub key_known : (k : Option KeySet) → SetsKey k → key_set_of (key_block k) (key_byte k) ≡ k
key_known None h = refl
key_known (Some k) h = let e : k.block == 0xFFFF ≡ false = grind (arith, h) in rw e refl
